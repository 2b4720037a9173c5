-- What each call on a reading does, as its contract has it.
use Rattle.std.specs.Prelude.{◌≡◌, ℕ, List, length, Result}
use Rattle.std.proofs.Math.Option.{some}
use Rattle.source.specs.Meaning.{Meaning}
use Rattle.grammar.specs.Grammar.{start_symbol}
use Rattle.frames.specs.Raw.{Raw}
use Rattle.table.specs.Checked.{contents}
use Rattle.table.specs.Contents.{table_of}
use Rattle.reading.specs.declared.answer.Move.{Move}
use Rattle.reading.specs.declared.answer.Ran.{Ran}
use Rattle.reading.specs.declared.answer.ReadRefusal.{ReadRefusal}
use Rattle.reading.specs.declared.reading.Reading.{Reading}
use Rattle.reading.specs.Given.{Answer}
use Rattle.reading.specs.State.{opening}
use Rattle.reading.specs.Step.{Step}
use Rattle.reading.specs.Run.{Course, Run, answer_of, at_front}
use Rattle.reading.specs.Model.{model, grammar_in, table_in}

-- The reading r was opened on a table with the contents R.
pub record Opened {F : Type 0} (R : Raw) (r : Reading F) : Type 0 where
  pub table : contents r.table ≡ R
  pub top : ℕ
  pub next : (table_of R).next 0 start_symbol ≡ some top
  pub state : model r ≡ opening top

-- A step of r with a source that meant m answered a, and left r' and m'.
pub record Stepped {F : Type 0} (r : Reading F) (m : Meaning F) (a : Result Move (ReadRefusal F)) (r' : Reading F) (m' : Meaning F) : Type 0 where
  pub table : contents r'.table ≡ contents r.table
  pub gave : List (Answer F)
  pub step : Step (grammar_in r) (table_in r) (model r) m gave a (model r') m'

-- A run of r with n, a source that meant m and a list answered a, and left r', m' and list'.
pub record RunBy {F : Type 0} (r : Reading F) (m : Meaning F) (n : ℕ) (list : List ℕ) (a : Ran F) (r' : Reading F)
    (m' : Meaning F) (list' : List ℕ) : Type 0 where
  pub table : contents r'.table ≡ contents r.table
  pub course : Course F
  pub run : Run (grammar_in r) (table_in r) n (length list) (model r) m course
  pub answers : a ≡ answer_of course
  pub leaves : model r' ≡ course.state
  pub source : m' ≡ course.meaning
  pub written : list' ≡ at_front course.rules list
