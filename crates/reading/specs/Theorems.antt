-- What is proved of steps and runs besides what is promised of readings. Placed holds of every reading.
use Rattle.std.specs.Prelude.{◌≡◌, ℕ, List, [], ◌∷◌, Result}
use Rattle.source.specs.Meaning.{Meaning}
use Rattle.grammar.specs.Grammar.{Grammar}
use Rattle.grammar.specs.Sound.{Sound}
use Rattle.grammar.specs.Table.{Table, Accepted}
use Rattle.grammar.specs.Canonical.{Canonical}
use Rattle.reading.specs.declared.answer.Move.{Move}
use Rattle.reading.specs.declared.answer.ReadRefusal.{ReadRefusal}
use Rattle.reading.specs.Given.{Answer, symbols_of}
use Rattle.reading.specs.State.{State}
use Rattle.reading.specs.Stack.{Placed}
use Rattle.reading.specs.Step.{Step}
use Rattle.reading.specs.Run.{Course, Moves, Run}
use Rattle.reading.specs.Actions.{StandsFor, Acts}
use Rattle.grammar.specs.Grammar.{start_symbol, end_mark}
use Rattle.frames.specs.Raw.{Raw}
use Rattle.table.specs.Contents.{grammar_of, table_of}
use Rattle.table.specs.Rows.{AcceptedFile}
use Rattle.reading.specs.declared.answer.Sheet.{Sheet}
use Rattle.reading.specs.declared.reading.Reading.{Reading}
use Rattle.reading.specs.Calls.{Opened, Stepped}
use Rattle.reading.specs.Model.{model, grammar_in, table_in}
use Rattle.reading.specs.Sheet.{SheetRead}

-- A step is determined: one state and one source give one answer, and leave one state and one source.
abbrev pub StepsAreOne : Type 0 → Type 0
StepsAreOne F =
    (g : Grammar) (T : Table) → Sound g → Accepted g T → (s : State) (m : Meaning F) → Placed g T s.stack (symbols_of s.window)
    → (gave₁ gave₂ : List (Answer F)) (a₁ a₂ : Result Move (ReadRefusal F)) (s₁ s₂ : State) (m₁ m₂ : Meaning F)
    → Step g T s m gave₁ a₁ s₁ m₁ → Step g T s m gave₂ a₂ s₂ m₂ → (gave₁ ≡ gave₂) × ((a₁ ≡ a₂) × ((s₁ ≡ s₂) × (m₁ ≡ m₂)))

-- So are the moves of a run.
abbrev pub MovesAreOne : Type 0 → Type 0
MovesAreOne F =
    (g : Grammar) (T : Table) → Sound g → Accepted g T → (n : ℕ) (s : State) (m : Meaning F) → Placed g T s.stack (symbols_of s.window)
    → (c₁ c₂ : Course F) → Moves g T n s m c₁ → Moves g T n s m c₂ → c₁ ≡ c₂

-- And the run.
abbrev pub RunsAreOne : Type 0 → Type 0
RunsAreOne F =
    (g : Grammar) (T : Table) → Sound g → Accepted g T → (n places : ℕ) (s : State) (m : Meaning F) → Placed g T s.stack (symbols_of s.window)
    → (c₁ c₂ : Course F) → Run g T n places s m c₁ → Run g T n places s m c₂ → c₁ ≡ c₂

-- Each move is the action of the canonical parser on the suffix that the stack stands for, and where an entry is refused the parser has none.
abbrev pub StepsAct : Type 0 → Type 0
StepsAct F =
    (g : Grammar) (T : Table) → Sound g → Accepted g T → (c : Canonical g T)
    → (s s' : State) (m m' : Meaning F) (gave : List (Answer F)) (a : Result Move (ReadRefusal F))
    → Placed g T s.stack (symbols_of s.window) → Step g T s m gave a s' m' → Acts g T c s m a s' m'

-- What a step answers and leaves is told by the reading and its source.
abbrev pub StepsOfReadings : Type 0 → Type 0
StepsOfReadings F =
    (r r₁ r₂ : Reading F) (m m₁ m₂ : Meaning F) (a₁ a₂ : Result Move (ReadRefusal F)) → Stepped r m a₁ r₁ m₁ → Stepped r m a₂ r₂ m₂
    → ∥ (a₁ ≡ a₂) × ((model r₁ ≡ model r₂) × (m₁ ≡ m₂)) ∥₁

-- A reading that was opened stands for the start symbol before the end mark.
abbrev pub OpeningsStand : Type 0 → Type 0
OpeningsStand F =
    (R : Raw) → AcceptedFile R → (c : Canonical (grammar_of R) (table_of R)) → (r : Reading F) → Opened R r
    → StandsFor c (model r).stack (start_symbol ∷ end_mark ∷ [])

-- Each move of a reading is the parser's action, and where a reading refuses an entry the parser has none.
abbrev pub ReadingsAct : Type 0 → Type 0
ReadingsAct F =
    (r r' : Reading F) (m m' : Meaning F) (a : Result Move (ReadRefusal F)) → Stepped r m a r' m'
    → (c : Canonical (grammar_in r) (table_in r)) → ∥ Acts (grammar_in r) (table_in r) c (model r) m a (model r') m' ∥₁

-- The reading of a sheet is determined.
abbrev pub SheetsAreOne : Type 0 → Type 0
SheetsAreOne F =
    (R : Raw) → AcceptedFile R → (m m₁ m₂ : Meaning F) (list list₁ list₂ : List ℕ) (a₁ a₂ : Sheet F) → SheetRead R m list a₁ m₁ list₁
    → SheetRead R m list a₂ m₂ list₂ → (a₁ ≡ a₂) × ((m₁ ≡ m₂) × (list₁ ≡ list₂))
