-- What the answer says of the causes alone. A cause is what contradicts a row's demand; by going through the rows in their order, an answer
-- by which no cause applies is Ok, and one by which none of the earlier causes applies is given by the rows that are left.
use Rattle.std.proofs.Common.{◌≡◌, ◌↔◌, ℕ, List, [], ◌∷◌, ◌++◌, Ok, Err, Result, sym, refl, ◌∙◌, subst, inl, inr}
use mathlib.Core.List.Memᴰ
use mathlib.Core.List.{Memᴰ}
use Rattle.frames.specs.Raw.{Raw}
use Rattle.table.specs.declared.refused.CheckRefusal.{CheckRefusal}
use Rattle.table.specs.declared.refused.CheckRefusal.TheVariants.{TwoFit, Mischosen}
use Rattle.table.specs.Rows.{Row, defined, distinct, found, one_fits, chosen, Applies, Good, VerdictBy, Verdict, form_rows, grammar_rows, state_rows}
use Rattle.table.proofs.Verdicts.{ok_accepts}
use Rattle.table.proofs.Files.{conflict_is_not_LL}
use Rattle.table.specs.Theorems.{OkWithoutCause, AnswersNotLL}

none_ok : (R : Raw) (cs : List Row) (v : Result (Unit {0}) CheckRefusal) → VerdictBy R cs v → ((c : Row) (i : ℕ) → Applies R c i → ⊥) → v ≡ Ok tt
none_ok R [] v h n = h
none_ok R (c ∷ cs) v (inl (i, (l, e))) n = absurd (n c i l.applies)
none_ok R (c ∷ cs) v (inr (g, h)) n = none_ok R cs v h n

pub ok_without : OkWithoutCause
ok_without R v h = (
  λ e c i a. a ((ok_accepts R).0 (subst (λ w. Verdict R w) e h) c i),
  none_ok R (form_rows ++ (grammar_rows ++ state_rows)) v h,
)

-- A good row before good rows.
with_first : (R : Raw) (c : Row) (cs : List Row) → ((i : ℕ) → Good R c i) → ((d : Row) → Memᴰ d cs → (i : ℕ) → Good R d i)
    → (d : Row) → Memᴰ d (c ∷ cs) → (i : ℕ) → Good R d i
with_first R c cs g all d (Memᴰ.head e) = subst (λ (x : Row). (i : ℕ) → Good R x i) (sym e) g
with_first R c cs g all d (Memᴰ.tail m) = all d m

-- Where no cause of the first rows applies, these are good, and the others are answered by.
behind : (R : Raw) (cs ds : List Row) (v : Result (Unit {0}) CheckRefusal) → VerdictBy R (cs ++ ds) v
    → ((c : Row) → Memᴰ c cs → (i : ℕ) → Applies R c i → ⊥) → ((c : Row) → Memᴰ c cs → (i : ℕ) → Good R c i) × VerdictBy R ds v
behind R [] ds v h n = (λ c m. absurd (Memᴰ.not-nil m), h)
behind R (c ∷ cs) ds v (inl (i, (l, e))) n = absurd (n c (Memᴰ.head refl) i l.applies)
behind R (c ∷ cs) ds v (inr (g, h)) n =
    let r = behind R cs ds v h (λ d m. n d (Memᴰ.tail m)) in
    (with_first R c cs g r.0, r.1)

ok_no_err : (e : CheckRefusal) → ◌≡◌ {A = Result (Unit {0}) CheckRefusal} (Ok tt) (Err e) → ⊥
ok_no_err e p = absurd cc

other_no_two : (p q : ℕ) → ◌≡◌ {A = Result (Unit {0}) CheckRefusal} (Err (Mischosen p)) (Err (TwoFit q)) → ⊥
other_no_two p q e = absurd cc

-- The answer of the last two rows is that two rules fit just when they do.
two_fit_answered : (R : Raw) (v : Result (Unit {0}) CheckRefusal) → VerdictBy R (one_fits ∷ chosen ∷ []) v
    → ((q : ℕ) × (v ≡ Err (TwoFit q))) ↔ ((q : ℕ) × Applies R one_fits q)
two_fit_answered R v (inl (i, (l, e))) = (λ x. (i, l.applies), λ x. (i, e))
two_fit_answered R v (inr (g, inl (i, (l, e)))) = (λ (q, f). absurd (other_no_two i q (sym e ∙ f)), λ (q, a). absurd (a (g q)))
two_fit_answered R v (inr (g, inr (h, e))) = (λ (q, f). absurd (ok_no_err (TwoFit q) (sym e ∙ f)), λ (q, a). absurd (a (g q)))

pub answers_not_ll : AnswersNotLL
answers_not_ll R v h n =
    let r = behind R (form_rows ++ (grammar_rows ++ (defined ∷ distinct ∷ found ∷ []))) (one_fits ∷ chosen ∷ []) v h n in
    let a = two_fit_answered R v r.1 in
    let b = conflict_is_not_LL R r.0 in
    (λ x. b.0 (a.0 x), λ x. a.1 (b.1 x))
