-- What a reader looks up at a state, besides successors and choices.
use Rattle.std.specs.Prelude.{◌≡◌, ℕ, List, ◌++◌}
use Rattle.grammar.specs.Grammar.{Grammar}
use Rattle.grammar.specs.Item.{Item, raised, Before}
use Rattle.grammar.specs.Table.{Table, Kernel, Word}

-- X stands just after the dots of state q: after the dot of an item of its kernel.
abbrev pub AfterDots : Grammar → Table → ℕ → ℕ → Type 0
AfterDots g T q X = (i : Item) × (Kernel T q i × Before g (raised i) X)

-- A list begins with another.
pub record BeginsWith {A : Type 0} (xs front : List A) : Type 0 where
  pub rest : List A
  pub splits : xs ≡ front ++ rest

-- Some word of state q begins with these symbols.
abbrev pub BeginsWord : Table → ℕ → List ℕ → Type 0
BeginsWord T q w = (y : List ℕ) × (Word T q y × BeginsWith y w)
