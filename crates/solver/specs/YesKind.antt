-- Yes and no as a kind of value, and what they tell.
use Rattle.std.specs.Prelude.{◌≡◌, ℕ, Bool, cond, List, length, Decides}
use Rattle.grammar.specs.Grammar.{Grammar, IsNonterminal, WellFormed}
use Rattle.grammar.specs.Sound.{Productive}
use Rattle.grammar.specs.Equations.{Kind}
use Rattle.grammar.specs.Sample.{yes_no}
use Rattle.solver.specs.Solution.{rules_of, valuation}
use Rattle.solver.specs.declared.rule.Rule.{Rule}
use Rattle.solver.specs.declared.yes.Yes.{Yes}

-- A truth value as a value of the solver.
abbrev pub of_bool : Bool → Yes
of_bool b = record { 0 = b }

-- Every token string counts as the empty word: a union has one if a part has, a product if both have.
abbrev pub yes_kind : Kind Yes
yes_kind = record {
  bottom = of_bool yes_no.bottom;
  unit = of_bool yes_no.unit;
  token = λ a. of_bool (yes_no.token a);
  join = λ x y. of_bool (yes_no.join x.0 y.0);
  product = λ x y. of_bool (yes_no.product x.0 y.0);
  holds = λ x w. yes_no.holds x.0 w;
}

-- Yes is above no.
abbrev pub yes_height : Yes → ℕ
yes_height x = cond x.0 1 0

-- For every well-formed grammar of these rules the values tell which nonterminals derive a token string.
abbrev pub TellsProductive : List Rule → List Yes → Type 0
TellsProductive ρs vs =
    (g : Grammar) → g.rules ≡ rules_of ρs → g.n ≡ length vs → WellFormed g
    → (A : ℕ) → IsNonterminal g A → Decides (valuation yes_kind vs A).0 (Productive g A)
