-- Seeds and links for the nonterminals that are reachable: the start symbol, and with each of them all that stand on the right of its rules.
use Rattle.std.specs.Prelude.{ℕ, zero, suc, ◌/◌, ◌%◌, cond, List, [], ◌∷◌, Some, Decides, nat_lt}
use Rattle.grammar.specs.Grammar as grammar
use Rattle.grammar.specs.Grammar.{Grammar, IsNonterminal}
use Rattle.grammar.specs.Sound.{Reachable}
use Rattle.solver.specs.declared.rule.Rule.{Rule}
use Rattle.solver.specs.declared.yes.Yes.{Yes}
use Rattle.items.specs.Symbols.{entry_at}
use Rattle.items.specs.Closures.{no_link, seed_of, link_to}
use Rattle.items.specs.Actives.{RulesOf, mark}

-- The symbol at a place of a right side is linked to the left side.
abbrev pub symbol_link : Rule → ℕ → grammar.Rule
symbol_link ρ i = link_to ρ.left (entry_at ρ.right.now i)

-- That of rule r, if there is one.
abbrev pub symbol_link_at : List Rule → ℕ → ℕ → grammar.Rule
symbol_link_at [] r i = no_link
symbol_link_at (ρ ∷ ρs) zero i = symbol_link ρ i
symbol_link_at (ρ ∷ ρs) (suc r) i = symbol_link_at ρs r i

-- All links, place by place of each right side, and the start symbol as the one seed.
abbrev pub reach_at : List Rule → ℕ → grammar.Rule
reach_at ρs j = cond (nat_lt j 360) (symbol_link_at ρs (j / 6) (j % 6)) (seed_of (Some 32))

-- The marks tell which nonterminals are reachable.
abbrev pub Reaches : List Rule → List Yes → Type 0
Reaches ρs vs = (g : Grammar) → RulesOf g ρs → (A : ℕ) → IsNonterminal g A → Decides (mark vs A).0 (Reachable g A)
