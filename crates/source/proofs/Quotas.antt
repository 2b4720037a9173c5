-- A quota in the words of its meaning: the recursion over the tokens is `take` and the token behind it.
use Rattle.std.proofs.Common.{◌≡◌, ℕ, zero, suc, ◌<◌, ◌≤◌, false, eqb, List, [], ◌∷◌, length, get_or, take, refl, ap, sub-one, arith}
use Rattle.std.proofs.lemmas.List.{take_all}
use Rattle.std.proofs.lemmas.Bool.Decides.{nat_tests}
use Rattle.source.specs.declared.token.Token.{Token}
use Rattle.source.specs.Layers.{lifted, used, front, past, allowed, QuotaLaw}
use Rattle.source.specs.Meaning.{Last, Meaning}

front_take : (n : ℕ) (ts : List Token) → front n ts ≡ take n ts
front_take zero [] = refl
front_take (suc n) [] = refl
front_take zero (t ∷ ts) = refl
front_take (suc n) (t ∷ ts) =
    let e : eqb (suc n) 0 ≡ false = grind (arith, nat_tests) in
    rw (e, sub-one (suc n)) (ap (λ us. t ∷ us) (front_take n ts))

module _ {F : Type 0} (l : Last F) where
  past_all : (n : ℕ) (ts : List Token) → length ts ≤ n → past n ts l ≡ lifted l
  past_all n [] h = refl
  past_all zero (t ∷ ts) h = absurd (omega arith)
  past_all (suc n) (t ∷ ts) h =
      let e : eqb (suc n) 0 ≡ false = grind (arith, nat_tests) in
      rw (e, sub-one (suc n)) (past_all n ts (omega arith))

  past_at : (n : ℕ) (ts : List Token) (u : Token) → n < length ts → past n ts l ≡ used (get_or ts n u).place
  past_at n [] u h = absurd (omega arith)
  past_at zero (t ∷ ts) u h = refl
  past_at (suc n) (t ∷ ts) u h =
      let e : eqb (suc n) 0 ≡ false = grind (arith, nat_tests) in
      rw (e, sub-one (suc n)) (past_at n ts u (omega arith))

pub quota_law : {F : Type 0} (n : ℕ) (m : Meaning F) → QuotaLaw n m (allowed n m)
quota_law n m = record {
  within = λ h. rw (front_take n m.tokens, take_all n m.tokens h, past_all m.last n m.tokens h);
  beyond = λ t h. rw (front_take n m.tokens, past_at m.last n m.tokens t h);
}
