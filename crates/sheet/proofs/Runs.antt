-- The longest run at the front of a text, by counting and by the relation: the count of bytes that pass is the length of the one
-- run that a text begins with.
use Rattle.std.proofs.Common.{◌≡◌, ℕ, suc, ◌+◌, Bool, true, false, cond, List, [], ◌∷◌, ◌++◌, length, take, drop, sym, refl, ap, ◌∙◌, subst, one-add}
use Rattle.std.specs.List.{prefix_len}
use Rattle.std.proofs.lemmas.Bool.{both_ways, cond-true, cond-false}
use Rattle.sheet.specs.Reads.{Run}

pub run : (p : ℕ → Bool) (s : List ℕ) → Run p (take (prefix_len p s) s) (drop (prefix_len p s) s)
run p [] = record { all = tt; longest = λ h. h }
run p (b ∷ bs) = by (p b) refl (run p bs)
  where
    n : ℕ
    n = prefix_len p bs

    by : (t : Bool) → p b ≡ t → Run p (take n bs) (drop n bs) → Run p (take (cond t (1 + n) 0) (b ∷ bs)) (drop (cond t (1 + n) 0) (b ∷ bs))
    by true e more =
        subst (λ k. Run p (take k (b ∷ bs)) (drop k (b ∷ bs))) (sym (one-add n))
        (record { all = (e, more.all); longest = more.longest })
    by false e more = record { all = tt; longest = λ h. both_ways (p b) e h }

pub refused : (t : Bool) → (t ≡ true → ⊥) → t ≡ false
refused true h = absurd (h refl)
refused false h = refl

pub leading_run : (p : ℕ → Bool) (w rest : List ℕ) → Run p w rest → prefix_len p (w ++ rest) ≡ length w
leading_run p [] [] r = refl
leading_run p [] (b ∷ bs) r = cond-false (p b) (1 + prefix_len p bs) 0 (refused (p b) r.longest)
leading_run p (x ∷ w) rest r =
    cond-true (p x) (1 + prefix_len p (w ++ rest)) 0 r.all.0
    ∙ one-add (prefix_len p (w ++ rest))
    ∙ ap suc (leading_run p w rest (record { all = r.all.1; longest = r.longest }))
