-- From the tests of states to the answers of rows.
use Rattle.std.proofs.Common.{◌≡◌, ℕ, ◌<◌, Bool, true, false, List, ◌∷◌, Some, None, Err, IsErrAnd, Decides, Option, Result, sym, refl, ap, ◌∙◌, subst, inl, arith}
use Rattle.std.proofs.lemmas.Result.{err_from_is_err_and}
use Rattle.std.proofs.lemmas.Bool.{true≢false}
use Rattle.frames.specs.Raw.{Raw, header_of}
use Rattle.table.specs.declared.refused.CheckRefusal.{CheckRefusal}
use Rattle.table.specs.Rows.{Row, Good, refusal_of, VerdictBy, Answers}
use Rattle.table.specs.Lowest.{LowestFailing}

-- a row that asks P of each state is answered by the lowest state that fails a test for P
module _ (R : Raw) (c : Row) (P : ℕ → Type 0) (up : (q : ℕ) → (q < (header_of R).s → P q) → Good R c q) (down : (q : ℕ) → Good R c q → q < (header_of R).s → P q)
    (n : ℕ) (n_is : n ≡ (header_of R).s) where
  pub row_answer : {answers : ℕ → Bool → Type 0} (r : Option ℕ) → LowestFailing n answers r
      → ((q : ℕ) (b : Bool) → q < (header_of R).s → answers q b → Decides b (P q)) → Answers R c r
  row_answer {answers} (Some q) low tells = let (l, (a, below)) = low.found in record {
    applies = λ g. let h : q < (header_of R).s = omega arith in true≢false (sym ((tells q false h a).1 (down q g h)));
    lowest = λ j h. up j (λ k. (tells j true k (below j h)).0 refl);
  }
  row_answer {answers} None low tells = by
    where
      by : (j : ℕ) → Good R c j
      by j = up j (λ k. (tells j true k (low.none j (omega arith))).0 refl)

-- what an answer tells where nothing is found
pub none_good : (R : Raw) (c : Row) (o : Option ℕ) → Answers R c o → o ≡ None → (i : ℕ) → Good R c i
none_good R c o a e = subst (Answers R c) e a

-- a refusal that is passed on is that of the row that found something
pub row_refuses : (R : Raw) (c : Row) (cs : List Row) (o : Option ℕ) (e : CheckRefusal) (v : Result (Unit {0}) CheckRefusal) → Answers R c o
    → (n : ℕ) × ((o ≡ Some n) × (e ≡ refusal_of c n)) → IsErrAnd v (λ x. x ≡ e) → VerdictBy R (c ∷ cs) v
row_refuses R c cs o e v a (n, (f, r)) h =
    let (x, is, same) = err_from_is_err_and v h in
    inl (n, (subst (Answers R c) f a, is ∙ ap (λ (y : CheckRefusal). Err y) (same ∙ r)))
