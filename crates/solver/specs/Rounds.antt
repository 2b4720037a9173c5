-- What a round over the rules does to the values.
use Rattle.std.specs.Prelude.{◌≡◌, ℕ, ◌-◌, ◌<◌, cond, List, length, nat_lt, slice_index_or, slice_set}
use Rattle.grammar.specs.Grammar.{Grammar, IsNonterminal}
use Rattle.grammar.specs.Equations.{Kind, product_of, join_of, Solves, FromBottom}
use Rattle.solver.specs.Solution.{rule_of, rules_of, valuation}
use Rattle.solver.specs.declared.rule.Rule.{Rule}
use Rattle.std.specs.List.{AllByRecursion}

-- x lies below y.
abbrev pub Below : {V : Type 0} → Kind V → V → V → Type 0
Below o x y = o.join x y ≡ y

-- The values once a rule was applied: its product is joined to the value of its left side, if the list has one.
abbrev pub with_rule : {V : Type 0} → Kind V → Rule → List V → List V
with_rule o ρ vs =
    cond (nat_lt ρ.left 32) vs
    (slice_set vs (ρ.left - 32) (o.join (slice_index_or vs (ρ.left - 32) o.bottom) (product_of o (valuation o vs) (rule_of ρ).right)))

-- All values are at bottom.
abbrev pub AllBottom : {V : Type 0} → Kind V → List V → Type 0
AllBottom o vs = (i : ℕ) → i < length vs → slice_index_or vs i o.bottom ≡ o.bottom

-- Values on the way to the least solution of g: made from bottom by rules, below what the rules give, and below every solution.
pub record Rising {V : Type 0} (o : Kind V) (g : Grammar) (vs : List V) : Type 0 where
  pub reached : FromBottom o g (valuation o vs)
  pub below_rules : (A : ℕ) → IsNonterminal g A → Below o (valuation o vs A) (join_of o (valuation o vs) g.rules A)
  pub below_solutions : (S : ℕ → V) → Solves o g S → (A : ℕ) → IsNonterminal g A → Below o (valuation o vs A) (S A)

-- The same for every grammar that has these rules and as many nonterminals as there are values.
abbrev pub RisingTo : {V : Type 0} → Kind V → List Rule → List V → Type 0
RisingTo o ρs vs = (g : Grammar) → g.rules ≡ rules_of ρs → g.n ≡ length vs → Rising o g vs

-- No rule changes anything.
abbrev pub Settled : {V : Type 0} → Kind V → List Rule → List V → Type 0
Settled o ρs vs = AllByRecursion (λ ρ. with_rule o ρ vs ≡ vs) ρs
