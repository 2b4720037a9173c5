-- The lowest number that fails a test, and the refusal of what is found.
use Rattle.std.specs.Prelude.{◌≡◌, ℕ, ◌<◌, Bool, true, false, IfSome, IfNone, Some, None, Ok, Err, Option, Result}
use Rattle.table.specs.declared.refused.CheckRefusal.{CheckRefusal}

-- The answer is the lowest number below n that a test answers false at, or none where it answers true at all.
pub record LowestFailing (n : ℕ) (answers : ℕ → Bool → Type 0) (r : Option ℕ) : Type 0 where
  pub found : IfSome r (λ k. (k < n) × (answers k false × ((j : ℕ) → j < k → answers j true)))
  pub none : IfNone r ((k : ℕ) → k < n → answers k true)

-- What is found is refused by its cause, and nothing is not.
abbrev pub Refuses : {N : Type 0} → Option N → (N → CheckRefusal → Type 0) → Result (Unit {0}) CheckRefusal → Type 0
Refuses {N} found causes (Ok u) = found ≡ None
Refuses {N} found causes (Err e) = (n : N) × ((found ≡ Some n) × causes n e)
