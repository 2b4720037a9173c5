-- What is proved of sets of words. The contracts ask for it.
use Rattle.std.specs.Prelude.{◌≡◌, ℕ, ◌≤◌, List, [], ◌∷◌, length, Decides}
use Rattle.grammar.specs.Grammar.{Grammar, IsNonterminal, WellFormed}
use Rattle.grammar.specs.First.{First}
use Rattle.grammar.specs.Equations.{CutTo}
use Rattle.solver.specs.Solution.{rules_of, valuation}
use Rattle.solver.specs.declared.rule.Rule.{Rule}
use Rattle.words.specs.Codes.{cut}
use Rattle.words.specs.Sets.{member, word_kind}
use Rattle.words.specs.declared.set.Words.{Words}

-- The operations are union and concatenation, cut, for every grammar of at most 20 tokens.
abbrev pub CutAsWords : ℕ → Type 0
CutAsWords k = (g : Grammar) → g.t ≤ 20 → CutTo (word_kind k) (cut k) g

-- Sets with the same words are equal.
abbrev pub WordsAreSets : ℕ → Type 0
WordsAreSets k = (s t : Words k) → ((w : List ℕ) → member s w ≡ member t w) → s ≡ t

-- For every well-formed grammar of these rules, with at most 20 tokens, the sets are FIRST of the nonterminals.
abbrev pub AreFirst : (k : ℕ) → List Rule → List (Words k) → Type 0
AreFirst k ρs vs =
    (g : Grammar) → g.rules ≡ rules_of ρs → g.n ≡ length vs → g.k ≡ cut k → WellFormed g → g.t ≤ 20
    → (A : ℕ) → IsNonterminal g A → (w : List ℕ) → Decides (member (valuation (word_kind k) vs A) w) (First g (A ∷ []) w)
