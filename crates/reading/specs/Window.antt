-- When a reading requests an entry, and which entries can be let in.
use Rattle.std.specs.Prelude.{◌≡◌, ℕ, ◌<◌, ◌≤◌, ◌⊎◌, List, [], ◌∷◌, ◌++◌, length}
use Rattle.source.specs.declared.token.Entry.{Entry}
use Rattle.source.specs.declared.token.Entry.TheVariants.{Given, End}
use Rattle.source.specs.declared.token.Token.{Token}
use Rattle.grammar.specs.Grammar.{Grammar, IsToken, end_mark}
use Rattle.grammar.specs.Table.{Table}
use Rattle.table.specs.LookUps.{BeginsWord}
use Rattle.reading.specs.Given.{symbol_of}

-- The symbols of a window end in the end mark.
abbrev pub EndsInMark : List ℕ → Type 0
EndsInMark w = (x : List ℕ) × (w ≡ x ++ end_mark ∷ [])

-- A window wants an entry while it has fewer than k and does not end in the end mark.
abbrev pub Wants : Grammar → List ℕ → Type 0
Wants g w = (length w < g.k) × (EndsInMark w → ⊥)

-- Otherwise it is full.
abbrev pub Full : Grammar → List ℕ → Type 0
Full g w = (g.k ≤ length w) ⊎ EndsInMark w

-- With q on top an entry can be let in behind the window: with it the window begins some word of q. A token has to be one of the grammar's.
abbrev pub CanEnter : Grammar → Table → ℕ → List ℕ → Entry Token → Type 0
CanEnter g T q w (Given t) = IsToken g t.kind × BeginsWord T q (w ++ t.kind ∷ [])
CanEnter g T q w (End p) = BeginsWord T q (w ++ end_mark ∷ [])

-- Entries are wanted and let in, one after the other.
abbrev pub Enter : Grammar → Table → ℕ → List ℕ → List (Entry Token) → Type 0
Enter g T q w [] = Unit {0}
Enter g T q w (e ∷ es) = Wants g w × CanEnter g T q w e × Enter g T q (w ++ symbol_of e ∷ []) es
