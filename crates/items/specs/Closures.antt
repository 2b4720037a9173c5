-- Seeds and links for the nonterminals that stand before a dot of a closure: those of the set's own places, and with each of them those
-- that its rules end in.
use Rattle.std.specs.Prelude.{ℕ, zero, suc, ◌-◌, ◌/◌, ◌%◌, cond, ◌&&◌, List, [], ◌∷◌, length, Some, None, Option, nat_lt}
use Rattle.grammar.specs.Grammar as grammar
use Rattle.solver.specs.declared.rule.Rule.{Rule}
use Rattle.items.specs.declared.places.Places.{Places}
use Rattle.items.specs.Sets.{has}
use Rattle.items.specs.Symbols.{entry_at, right_side}

-- No seed and no link.
abbrev pub no_link : grammar.Rule
no_link = record { left = 0; right = [] }

-- A rule with a symbol on its left, if there is one.
abbrev pub rule_to : List ℕ → Option ℕ → grammar.Rule
rule_to α None = no_link
rule_to α (Some X) = record { left = X; right = α }

-- Makes a symbol a seed, if there is one.
abbrev pub seed_of : Option ℕ → grammar.Rule
seed_of o = rule_to [] o

-- Links a nonterminal to a symbol, if there is one.
abbrev pub link_to : ℕ → Option ℕ → grammar.Rule
link_to A o = rule_to (A ∷ []) o

-- The symbol just before the dot of a place of the set is a seed.
abbrev pub seed_at : List Rule → Places → ℕ → ℕ → grammar.Rule
seed_at ρs s r d = cond (nat_lt 0 d && has s (record { rule = r; dot = d })) (seed_of (entry_at (right_side ρs r) (d - 1))) no_link

-- The last symbol of a right side is linked to the left side.
abbrev pub last_link : Rule → grammar.Rule
last_link ρ = link_to ρ.left (entry_at ρ.right.now (length ρ.right.now - 1))

-- That of rule r, if there is one.
abbrev pub last_at : List Rule → ℕ → grammar.Rule
last_at [] r = no_link
last_at (ρ ∷ ρs) zero = last_link ρ
last_at (ρ ∷ ρs) (suc r) = last_at ρs r

-- All seeds, place by place, and then all links.
abbrev pub link_at : List Rule → Places → ℕ → grammar.Rule
link_at ρs s j = cond (nat_lt j 427) (seed_at ρs s (j / 7) (j % 7)) (last_at ρs (j - 427))
