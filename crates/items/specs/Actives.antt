-- What the closure of a set of places has before its dots.
use Rattle.std.specs.Prelude.{◌≡◌, ℕ, ◌-◌, ◌≤◌, true, false, List, length, Decides, slice_index_or}
use Rattle.grammar.specs.Grammar as grammar
use Rattle.grammar.specs.Grammar.{Grammar, IsNonterminal, IsRule, WellFormed}
use Rattle.grammar.specs.Item.{Item, HasNext, NextKernel}
use Rattle.solver.specs.declared.rule.Rule.{Rule}
use Rattle.solver.specs.declared.yes.Yes.{Yes}
use Rattle.solver.specs.Solution.{rules_of}
use Rattle.items.specs.declared.places.Places.{Places}
use Rattle.items.specs.Sets.{has}

-- The items of a set.
abbrev pub In : Places → Item → Type 0
In s i = has s i ≡ true

-- The rules are those of a well-formed grammar, within the bounds of sets and marks.
pub record RulesOf (g : Grammar) (ρs : List Rule) : Type 0 where
  pub same : g.rules ≡ rules_of ρs
  pub well_formed : WellFormed g
  pub few_nonterminals : g.n ≤ 24
  pub few_rules : length ρs ≤ 60
  pub short_sides : (r : ℕ) (ρ : grammar.Rule) → IsRule g r ρ → length ρ.right ≤ 6

-- The mark of a nonterminal, the first that of 32.
abbrev pub mark : List Yes → ℕ → Yes
mark vs A = slice_index_or vs (A - 32) (record { 0 = false })

-- The marks tell which nonterminals stand before a dot of the closure.
abbrev pub Active : List Rule → Places → List Yes → Type 0
Active ρs s vs = (g : Grammar) → RulesOf g ρs → (A : ℕ) → IsNonterminal g A → Decides (mark vs A).0 (HasNext g (In s) A)

-- One set has the kernel of the next of the other by X.
abbrev pub NextOf : List Rule → Places → ℕ → Places → Type 0
NextOf ρs s X s' = (g : Grammar) → RulesOf g ρs → (i : Item) → Decides (has s' i) (NextKernel g (In s) X i)
