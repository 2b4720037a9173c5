-- A refusal by its number.
use Rattle.std.specs.Prelude.{ℕ, List}

-- a refusal or a fault: its number, and the numbers that are returned with it
pub record Refusal : Type 0 where
  pub number : ℕ
  pub returned : List ℕ
