-- The kernel of a successor, place by place.
use Rattle.std.specs.Prelude.{ℕ, zero, suc, ◌+◌, Bool, false, cond, ◌&&◌, ◌||◌, List, [], ◌∷◌, length, Some, None, Option, ◌==◌, nat_le}
use Rattle.solver.specs.declared.rule.Rule.{Rule}
use Rattle.solver.specs.declared.yes.Yes.{Yes}
use Rattle.items.specs.declared.places.Places.{Places}
use Rattle.items.specs.Sets.{has}
use Rattle.items.specs.Symbols.{entry_at, right_side}
use Rattle.items.specs.Actives.{mark}

-- A symbol is a marked nonterminal.
abbrev pub marked : List Yes → ℕ → Bool
marked vs A = nat_le 32 A && (mark vs A).0

-- Rule r is brought into the closure with the dot d: it is one of a marked nonterminal, and d is its end.
abbrev pub brought_in : List Rule → List Yes → ℕ → ℕ → Bool
brought_in [] vs r d = false
brought_in (ρ ∷ ρs) vs zero d = length ρ.right.now == d && marked vs ρ.left
brought_in (ρ ∷ ρs) vs (suc r) d = brought_in ρs vs r d

-- It is in the closure.
abbrev pub in_closure : List Rule → Places → List Yes → ℕ → ℕ → Bool
in_closure ρs s vs r d = has s (record { rule = r; dot = d }) || brought_in ρs vs r d

-- The symbol found is X.
abbrev pub found : ℕ → Option ℕ → Bool
found X None = false
found X (Some x) = x == X

-- The symbol that stands before the dot one higher, if that is in the closure.
abbrev pub moved_by : List Rule → Places → List Yes → ℕ → ℕ → Option ℕ
moved_by ρs s vs r d = cond (in_closure ρs s vs r (d + 1)) (entry_at (right_side ρs r) d) None

-- With the dot one higher it is in the closure, and X stands before that dot.
abbrev pub next_has : List Rule → Places → List Yes → ℕ → ℕ → ℕ → Bool
next_has ρs s vs X r d = found X (entry_at (right_side ρs r) d) && in_closure ρs s vs r (d + 1)
