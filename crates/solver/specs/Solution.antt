-- A list of values as the least solution of the equations of some rules.
use Rattle.std.specs.Prelude.{◌≡◌, ℕ, ◌-◌, List, map, length, slice_index_or}
use Rattle.grammar.specs.Grammar as grammar
use Rattle.grammar.specs.Equations.{Kind, Least}
use Rattle.solver.specs.declared.rule.Rule.{Rule}

-- A rule as a grammar has it.
abbrev pub rule_of : Rule → grammar.Rule
rule_of ρ = record { left = ρ.left; right = ρ.right.now }

-- The rules as a grammar has them.
abbrev pub rules_of : List Rule → List grammar.Rule
rules_of ρs = map rule_of ρs

-- The value of each nonterminal: the first of the list is that of 32, and beyond the list all are at bottom.
abbrev pub valuation : {V : Type 0} → Kind V → List V → ℕ → V
valuation o vs A = slice_index_or vs (A - 32) o.bottom

-- The values are the least solution for every grammar that has these rules and as many nonterminals as there are values.
abbrev pub LeastOf : {V : Type 0} → Kind V → List Rule → List V → Type 0
LeastOf o ρs vs = (g : grammar.Grammar) → g.rules ≡ rules_of ρs → g.n ≡ length vs → Least o g (valuation o vs)
