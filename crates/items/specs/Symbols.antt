-- The right sides of rules, with the start rule behind the last.
use Rattle.std.specs.Prelude.{ℕ, zero, suc, List, [], ◌∷◌, Option, slice_get}
use Rattle.solver.specs.declared.rule.Rule.{Rule}

-- The symbol at a place of a list, if there is one.
abbrev pub entry_at : List ℕ → ℕ → Option ℕ
entry_at xs i = slice_get xs i

-- The right side of rule r. Behind the last rule comes the start rule, and then nothing.
abbrev pub right_side : List Rule → ℕ → List ℕ
right_side [] zero = 32 ∷ 31 ∷ []
right_side [] (suc r) = []
right_side (ρ ∷ ρs) zero = ρ.right.now
right_side (ρ ∷ ρs) (suc r) = right_side ρs r

-- The symbol at a place of the right side of rule r, from 0.
abbrev pub symbol_at : List Rule → ℕ → ℕ → Option ℕ
symbol_at ρs r i = entry_at (right_side ρs r) i
