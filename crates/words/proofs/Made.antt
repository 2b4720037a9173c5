-- An array that `array::from_fn` made, where the closure changes nothing that it captured.
use Rattle.std.proofs.Common.{◌≡◌, ℕ, zero, suc, ◌+◌, ◌<◌, ◌≤◌, List, get_or, sym, ap, ◌∙◌, subst, ⊎_elim, arith}
use Rattle.std.specs.Fn.{Mut, Called}
use Rattle.std.specs.Array.{IsFromFnResult, IsFromFnResultFrom}
use Rattle.std.proofs.lemmas.Bool.{cases_eq}

module _ {F B : Type 0} (g : Mut F (ℕ × Unit {0}) B) (f : F) (h : ℕ → B)
    (same : (i : ℕ) (y : B) (q : F) → Called g f (i, tt) y q → (q ≡ f) × (y ≡ h i)) where
  made_from : (ys : List B) (i n : ℕ) → IsFromFnResultFrom g f ys i n → (a : ℕ) (d : B) → i ≤ a → a < i + n → get_or ys a d ≡ h a
  made_from ys i zero each a d low high = absurd (omega arith)
  made_from ys i (suc n) (q, y, at, called, rest) a d low high =
      let s = same i y q called in
      ⊎_elim
      (λ (e : a ≡ i). ap (λ j. get_or ys j d) e ∙ at.1 d ∙ s.1 ∙ ap h (sym e))
      (λ ne. made_from ys (i + 1) n (subst (λ p. IsFromFnResultFrom g p ys (i + 1) n) s.0 rest) a d (omega arith) (omega arith))
      (cases_eq a i)

  -- each element is what the closure gives at its index
  pub made : (ys : List B) (n : ℕ) → IsFromFnResult g f ys n → (a : ℕ) (d : B) → a < n → get_or ys a d ≡ h a
  made ys n r a d l = made_from ys 0 n r.each a d (omega arith) (omega arith)
