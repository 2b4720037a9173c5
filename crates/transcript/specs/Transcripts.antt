-- All that is printed of a reading.
use Rattle.std.specs.Prelude.{◌≡◌, ℕ, List, ◌++◌, Some, IsSome, Option, Ok, Err, Result}
use Rattle.std.specs.Fmt.{with_newline}
use Rattle.std.specs.Io.KnownBytes.{Appends}
use Rattle.std.proofs.Math.Option.{some}
use Rattle.source.specs.Meaning.{Meaning}
use Rattle.source.specs.declared.token.Token.{Token}
use Rattle.grammar.specs.Grammar.{Grammar, start_symbol}
use Rattle.grammar.specs.Table.{Table}
use Rattle.frames.specs.Raw.{Raw}
use Rattle.table.specs.Contents.{grammar_of, table_of}
use Rattle.reading.specs.declared.answer.Move.TheVariants.{Announce, Take, Finish}
use Rattle.reading.specs.declared.answer.ReadRefusal.{ReadRefusal}
use Rattle.reading.specs.Given.{Answer}
use Rattle.reading.specs.declared.reading.Reading.{Reading}
use Rattle.reading.specs.Model.{model, grammar_in, table_in, view_of}
use Rattle.reading.specs.State.{State, opening}
use Rattle.reading.specs.Step.{Step}
use Rattle.transcript.specs.Lines.{rule_line, token_line, shown_closing}

-- The closing line, closed by a line end, of a reading that stands at s.
abbrev pub Closes : {F : Type 0} → (F → ℕ) → (F → Option (List ℕ)) → Result (Unit {0}) (ReadRefusal F) → State → List ℕ → Type 0
Closes number shown outcome s text = with_newline (shown_closing number shown outcome (view_of s)) ≡ Some text

-- What is printed from s on, with a source that means m: a line for each move, and the closing line.
pub data Told {F : Type 0} (number : F → ℕ) (shown : F → Option (List ℕ)) (g : Grammar) (T : Table) : State → Meaning F → List ℕ → Type 0 where
  rule : {s s' : State} {m m' : Meaning F} {gave : List (Answer F)} {r : ℕ} {text : List ℕ} → Step g T s m gave (Ok (Announce r)) s' m'
      → Told number shown g T s' m' text → Told number shown g T s m (rule_line r ++ text)
  token : {s s' : State} {m m' : Meaning F} {gave : List (Answer F)} {t : Token} {text : List ℕ} → Step g T s m gave (Ok (Take t)) s' m'
      → Told number shown g T s' m' text → Told number shown g T s m (token_line t ++ text)
  finished : {s s' : State} {m m' : Meaning F} {gave : List (Answer F)} {text : List ℕ} → Step g T s m gave (Ok Finish) s' m'
      → Closes number shown (Ok tt) s' text → Told number shown g T s m text
  refused : {s s' : State} {m m' : Meaning F} {gave : List (Answer F)} {e : ReadRefusal F} {text : List ℕ} → Step g T s m gave (Err e) s' m'
      → Closes number shown (Err e) s' text → Told number shown g T s m text

-- The transcript of a reading by a table with the contents R, from its opening on.
pub record Transcript {F : Type 0} (number : F → ℕ) (shown : F → Option (List ℕ)) (R : Raw) (m : Meaning F) (text : List ℕ) : Type 0 where
  pub top : ℕ
  pub next : (table_of R).next 0 start_symbol ≡ some top
  pub told : Told number shown (grammar_of R) (table_of R) (opening top) m text

-- A writer that held `known` holds also the lines of all moves of r, up to r'; with a closing line behind them they are what is printed of r.
pub record MovesWritten {F : Type 0} (number : F → ℕ) (shown : F → Option (List ℕ)) (known known' : Option (List ℕ)) (r : Reading F) (m : Meaning F)
    (outcome : Result (Unit {0}) (ReadRefusal F)) (r' : Reading F) : Type 0 where
  pub text : List ℕ
  pub put : Appends known known' text
  pub closed : (last : List ℕ) → Closes number shown outcome (model r') last
      → Told number shown (grammar_in r) (table_in r) (model r) m (text ++ last)

-- A writer that held `known` holds also the transcript of a reading by a table with the contents R.
pub record Transcribed {F : Type 0} (number : F → ℕ) (shown : F → Option (List ℕ)) (known known' : Option (List ℕ)) (R : Raw) (m : Meaning F)
    : Type 0 where
  pub text : List ℕ
  pub put : Appends known known' text
  pub is : Transcript number shown R m text

-- It is known what is shown of every fault.
abbrev pub ShowsAll : {F : Type 0} → (F → Option (List ℕ)) → Type 0
ShowsAll {F} shown = (f : F) → IsSome (shown f)
