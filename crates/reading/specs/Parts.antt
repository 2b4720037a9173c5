-- The stack and the window of the code in terms of the definitions.
use Rattle.std.specs.Prelude.{ℕ, ◌<◌, ◌≤◌, ◌==◌, cond, List, [], ◌∷◌, drop}
use Rattle.source.specs.declared.token.Entry.{Entry}
use Rattle.source.specs.declared.token.Entry.TheVariants.{Given, End}
use Rattle.source.specs.declared.token.Place.{Place}
use Rattle.source.specs.declared.token.Token.{Token}
use Rattle.grammar.specs.Grammar.{end_mark}
use Rattle.reading.specs.declared.stack.Stack.{Stack}
use Rattle.reading.specs.declared.window.Window.{Window}

-- The states in use, the top first.
abbrev pub states : Stack → List ℕ
states s = drop s.top s.cells

-- The entry with a symbol and a place.
abbrev pub entry_at : ℕ → Place → Entry Token
entry_at a p = cond (a == end_mark) (End p) (Given (record { kind = a; place = p }))

-- The entries in a window. Where there is none its symbol is 0, and that of the end is the end mark: no token that is let in is of one of these kinds.
abbrev pub entries : Window → List (Entry Token)
entries w =
    cond (w.symbols.first == 0) []
    (entry_at w.symbols.first w.first_place ∷ cond (w.symbols.second == 0) [] (entry_at w.symbols.second w.second_place ∷ []))

-- An entry that its symbol tells, for the contract of putting it behind the others: a token's kind is neither 0 nor the end mark.
abbrev pub ToldBySymbol : Entry Token → Type 0
ToldBySymbol (Given t) = (1 ≤ t.kind) × (t.kind < end_mark)
ToldBySymbol (End p) = Unit {0}
