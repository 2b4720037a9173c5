-- The lowest number that something holds of.
use Rattle.std.specs.Prelude.{ℕ, ◌<◌, Some, None, Option}

-- The answer is the lowest number that P holds of, or none where it holds of none.
abbrev pub Lowest : (ℕ → Type 0) → Option ℕ → Type 0
Lowest P (Some i) = P i × ((j : ℕ) → j < i → P j → ⊥)
Lowest P None = (i : ℕ) → P i → ⊥
