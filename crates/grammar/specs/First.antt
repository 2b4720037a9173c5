-- FIRST: what the strings derived from some symbols can begin with.
use Rattle.std.specs.Prelude.{◌≡◌, ℕ, List, ◌++◌, take}
use Rattle.grammar.specs.Grammar.{Grammar, IsTerminal, Every}
use Rattle.grammar.specs.Derivation.{Derives}

-- The string u of terminals is derived from α.
abbrev pub DerivesTerminals : Grammar → List ℕ → List ℕ → Type 0
DerivesTerminals g α u = Every (IsTerminal g) u × ((rs : List ℕ) × Derives g α rs u)

-- FIRST(α): the strings of terminals derived from α, each cut to its first k symbols.
abbrev pub First : Grammar → List ℕ → List ℕ → Type 0
First g α y = (u : List ℕ) × (DerivesTerminals g α u × (y ≡ take g.k u))

-- FIRST(α W), for a set W of words: each string from α joined to each word of W, and then cut.
abbrev pub FirstWith : Grammar → List ℕ → (List ℕ → Type 0) → List ℕ → Type 0
FirstWith g α W y = (u w : List ℕ) × (DerivesTerminals g α u × W w × (y ≡ take g.k (u ++ w)))
