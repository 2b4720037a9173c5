-- What is proved of stored lookahead words. The contracts ask for it.
use Rattle.std.specs.Prelude.{◌≡◌, ℕ, ◌≤◌, ◌↔◌, List, [], ◌∷◌, length, Decides}
use Rattle.frames.specs.declared.header.Header.{Header}
use Rattle.grammar.specs.Grammar.{Grammar, IsSymbol, WellFormed}
use Rattle.grammar.specs.First.{First, FirstWith}
use Rattle.grammar.specs.Equations.{value}
use Rattle.solver.specs.Solution.{rules_of, valuation}
use Rattle.solver.specs.declared.rule.Rule.{Rule}
use Rattle.words.specs.Codes.{cut}
use Rattle.words.specs.Sets.{member, word_kind, Meet}
use Rattle.words.specs.Theorems.{AreFirst}
use Rattle.words.specs.declared.set.Words.{Words}
use Rattle.lookahead.specs.Entries.{WordIn, AllWords}
use Rattle.lookahead.specs.Stored.{StandsFor}

-- Where the sets of the nonterminals are FIRST, the value of every symbol is.
abbrev pub SymbolsFirst : ℕ → Type 0
SymbolsFirst k =
    (ρs : List Rule) (vs : List (Words k)) → AreFirst k ρs vs
    → (g : Grammar) → g.rules ≡ rules_of ρs → g.n ≡ length vs → g.k ≡ cut k → WellFormed g → g.t ≤ 20
    → (X : ℕ) → IsSymbol g X → (w : List ℕ) → Decides (member (value (word_kind k) (valuation (word_kind k) vs) X) w) (First g (X ∷ []) w)

-- Stored sets are equal just when the words are the same.
abbrev pub EqualWords : ℕ → Type 0
EqualWords k =
    (h : Header) (es es' : List ℕ) → AllWords h es → AllWords h es'
    → (W W' : Words k) → StandsFor h W es → StandsFor h W' es'
    → (W ≡ W') ↔ ((y : List ℕ) → WordIn es y ↔ WordIn es' y)

-- A stored set is the product of FIRST(X) and another just when its words are FIRST(X words of the other).
abbrev pub NextWords : ℕ → Type 0
NextWords k =
    (h : Header) (g : Grammar) → h.k ≡ cut k → h.t ≤ 20 → g.k ≡ h.k → g.t ≡ h.t
    → (X : ℕ) (F : Words k) → ((w : List ℕ) → Decides (member F w) (First g (X ∷ []) w))
    → (es es' : List ℕ) → AllWords h es → AllWords h es'
    → (W W' : Words k) → StandsFor h W es → StandsFor h W' es'
    → (W' ≡ (word_kind k).product F W) ↔ ((y : List ℕ) → WordIn es' y ↔ FirstWith g (X ∷ []) (WordIn es) y)

-- Stored sets share a string just when there is a word in both.
abbrev pub WordsMeet : ℕ → Type 0
WordsMeet k =
    (h : Header) (es es' : List ℕ) → AllWords h es → AllWords h es'
    → (W W' : Words k) → StandsFor h W es → StandsFor h W' es'
    → Meet W W' ↔ ((y : List ℕ) × (WordIn es y × WordIn es' y))
