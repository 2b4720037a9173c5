-- The answer of the check is one, and it is Ok just when nothing is wrong. Both go row by row: a row whose cause applies somewhere is not good
-- everywhere, so the two ways to an answer exclude each other; and of two lowest numbers none is below the other.
use Rattle.std.proofs.Common.{◌≡◌, ℕ, ◌<◌, List, [], ◌∷◌, ◌++◌, Ok, Err, Result, sym, refl, ap, ◌∙◌, subst, inl, inr, arith}
use mathlib.Core.List.Memᴰ
use mathlib.Core.List.{Memᴰ}
use native.Mathlib.Decide.{dec_lt}
use Rattle.frames.specs.Raw.{Raw}
use Rattle.table.specs.declared.refused.CheckRefusal.{CheckRefusal}
use Rattle.table.specs.Rows.{Row, numbers, starts, frames, productive, reachable, defined, distinct, found, one_fits, chosen, form_rows, grammar_rows, state_rows, Good, refusal_of, LowestOf, VerdictBy}
use Rattle.table.specs.Theorems.{VerdictIsOne, OkAccepts}

ok_no_err : (e : CheckRefusal) → ◌≡◌ {A = Result (Unit {0}) CheckRefusal} (Ok tt) (Err e) → ⊥
ok_no_err e p = absurd cc

lowest_is_one : (R : Raw) (c : Row) (i j : ℕ) → LowestOf R c i → LowestOf R c j → i ≡ j
lowest_is_one R c i j a b = by (dec_lt i j) (dec_lt j i)
  where
    by : Dec (i < j) → Dec (j < i) → i ≡ j
    by (yes l) d = absurd (a.applies (b.lowest i l))
    by (no n) (yes l) = absurd (b.applies (a.lowest j l))
    by (no n) (no m) = omega (arith, n, m)

pub verdict_by_is_one : (R : Raw) (cs : List Row) (v w : Result (Unit {0}) CheckRefusal) → VerdictBy R cs v → VerdictBy R cs w → v ≡ w
verdict_by_is_one R [] v w a b = a ∙ sym b
verdict_by_is_one R (c ∷ cs) v w (inl (i, (l, e))) (inl (j, (m, f))) =
    e ∙ ap (λ (x : ℕ). Err (refusal_of c x)) (lowest_is_one R c i j l m) ∙ sym f
verdict_by_is_one R (c ∷ cs) v w (inl (i, (l, e))) (inr (g, b)) = absurd (l.applies (g i))
verdict_by_is_one R (c ∷ cs) v w (inr (g, a)) (inl (j, (m, f))) = absurd (m.applies (g j))
verdict_by_is_one R (c ∷ cs) v w (inr (g, a)) (inr (h, b)) = verdict_by_is_one R cs v w a b

-- good rows may stand before others
pub verdict_then : (R : Raw) (cs ds : List Row) (v : Result (Unit {0}) CheckRefusal) → ((c : Row) → Memᴰ c cs → (i : ℕ) → Good R c i)
    → VerdictBy R ds v → VerdictBy R (cs ++ ds) v
verdict_then R [] ds v g a = a
verdict_then R (c ∷ cs) ds v g a = inr (g c (Memᴰ.head refl), verdict_then R cs ds v (λ d m. g d (Memᴰ.tail m)) a)

-- a refusal stands whatever rows come after
pub verdict_err : (R : Raw) (cs ds : List Row) (e : CheckRefusal) → VerdictBy R cs (Err e) → VerdictBy R (cs ++ ds) (Err e)
verdict_err R [] ds e a = absurd (ok_no_err e (sym a))
verdict_err R (c ∷ cs) ds e (inl a) = inl a
verdict_err R (c ∷ cs) ds e (inr (g, a)) = inr (g, verdict_err R cs ds e a)

-- where the answer is Ok every row is good
pub verdict_goods : (R : Raw) (cs : List Row) → VerdictBy R cs (Ok tt) → (c : Row) → Memᴰ c cs → (i : ℕ) → Good R c i
verdict_goods R [] a c m = absurd (Memᴰ.not-nil m)
verdict_goods R (d ∷ ds) (inl (j, (l, e))) c m = absurd (ok_no_err (refusal_of d j) e)
verdict_goods R (d ∷ ds) (inr (g, a)) c (Memᴰ.head e) = subst (λ (x : Row). (i : ℕ) → Good R x i) (sym e) g
verdict_goods R (d ∷ ds) (inr (g, a)) c (Memᴰ.tail m) = verdict_goods R ds a c m

-- where every row is good it is Ok
pub verdict_ok : (R : Raw) (cs : List Row) → ((c : Row) → Memᴰ c cs → (i : ℕ) → Good R c i) → VerdictBy R cs (Ok tt)
verdict_ok R [] g = refl
verdict_ok R (c ∷ cs) g = inr (g c (Memᴰ.head refl), verdict_ok R cs (λ d m. g d (Memᴰ.tail m)))

of_form : (c : Row) → Memᴰ c form_rows → Memᴰ c (form_rows ++ (grammar_rows ++ state_rows))
of_form c m = Memᴰ.append_left (grammar_rows ++ state_rows) m

of_grammar : (c : Row) → Memᴰ c grammar_rows → Memᴰ c (form_rows ++ (grammar_rows ++ state_rows))
of_grammar c m = Memᴰ.append_right form_rows (Memᴰ.append_left state_rows m)

of_states : (c : Row) → Memᴰ c state_rows → Memᴰ c (form_rows ++ (grammar_rows ++ state_rows))
of_states c m = Memᴰ.append_right form_rows (Memᴰ.append_right grammar_rows m)

-- every row is asked of a table
row_there : (c : Row) → Memᴰ c (form_rows ++ (grammar_rows ++ state_rows))
row_there numbers = of_form numbers (Memᴰ.head refl)
row_there starts = of_form starts (Memᴰ.tail (Memᴰ.head refl))
row_there frames = of_form frames (Memᴰ.tail (Memᴰ.tail (Memᴰ.head refl)))
row_there productive = of_grammar productive (Memᴰ.head refl)
row_there reachable = of_grammar reachable (Memᴰ.tail (Memᴰ.head refl))
row_there defined = of_states defined (Memᴰ.head refl)
row_there distinct = of_states distinct (Memᴰ.tail (Memᴰ.head refl))
row_there found = of_states found (Memᴰ.tail (Memᴰ.tail (Memᴰ.head refl)))
row_there one_fits = of_states one_fits (Memᴰ.tail (Memᴰ.tail (Memᴰ.tail (Memᴰ.head refl))))
row_there chosen = of_states chosen (Memᴰ.tail (Memᴰ.tail (Memᴰ.tail (Memᴰ.tail (Memᴰ.head refl)))))

pub verdict_is_one : VerdictIsOne
verdict_is_one R = verdict_by_is_one R (form_rows ++ (grammar_rows ++ state_rows))

pub ok_accepts : OkAccepts
ok_accepts R = (
  λ a c. verdict_goods R (form_rows ++ (grammar_rows ++ state_rows)) a c (row_there c),
  λ g. verdict_ok R (form_rows ++ (grammar_rows ++ state_rows)) (λ c m. g c),
)
