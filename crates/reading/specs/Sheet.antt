-- What the reading of a whole sheet does, in one call.
use Rattle.std.specs.Prelude.{◌≡◌, ℕ, ◌+◌, ◌<◌, List, length, take, min, Some}
use Rattle.std.proofs.Math.Option.{some}
use Rattle.source.specs.Meaning.{Meaning}
use Rattle.grammar.specs.Grammar.{Grammar, start_symbol}
use Rattle.frames.specs.Raw.{Raw}
use Rattle.table.specs.Contents.{grammar_of, table_of}
use Rattle.reading.specs.declared.answer.ReadRefusal.TheVariants.{Unfit}
use Rattle.reading.specs.declared.answer.Sheet.{Sheet}
use Rattle.reading.specs.Given.{Answer, Gave, tokens_in}
use Rattle.reading.specs.State.{opening, most_moves}
use Rattle.reading.specs.Run.{Course, Moves, at_front}
use Rattle.reading.specs.Model.{view_of}
use Rattle.reading.specs.Sentences.{let_in_by}
use Rattle.reading.specs.Outcome.{OnTheWay, IsOver, Decided, Outcome}

-- A list with so many places has room for so many moves; a reading never needs more than one above the most that it makes.
abbrev pub moves_for : ℕ → ℕ
moves_for places = min places (most_moves + 1)

-- A reading is opened on a table with the contents R, makes a move for each place of the list, or fewer if it is over before, and is closed. Where
-- the places are used up before, it is closed while it runs, as its view shows.
pub record SheetRead {F : Type 0} (R : Raw) (m : Meaning F) (list : List ℕ) (a : Sheet F) (m' : Meaning F) (list' : List ℕ) : Type 0 where
  pub top : ℕ
  pub next : (table_of R).next 0 start_symbol ≡ some top
  pub course : Course F
  pub moves : Moves (grammar_of R) (table_of R) (moves_for (length list)) (opening top) m course
  pub view : a.view ≡ view_of course.state
  pub refusal : a.refusal ≡ course.refusal
  pub source : m' ≡ course.meaning
  pub written : list' ≡ at_front course.rules list

-- What is known of a sheet then: the source gave some answers; the rules at the front of the list begin every left parse of every sentence that begins
-- with what was let in. If the reading is decided, it has finished exactly on a sentence, or refused the first entry that cannot stand where it does.
-- With a list of more than 1,000,000 places it is over.
pub record SheetKept {F : Type 0} (g : Grammar) (m : Meaning F) (list : List ℕ) (a : Sheet F) (m' : Meaning F) (list' : List ℕ) : Type 0 where
  pub gave : List (Answer F)
  pub source : Gave m gave m'
  pub tokens : a.view.tokens ≡ tokens_in (let_in_by a.refusal gave)
  pub on_the_way : OnTheWay g (let_in_by a.refusal gave) (take a.view.rules list')
  pub outcome : Decided a.view.standing
      → Outcome g m a.view.standing gave (let_in_by a.refusal gave) (take a.view.rules list') a.view.moves (λ p. a.refusal ≡ Some (Unfit p))
  pub ends : most_moves < length list → IsOver a.view.standing
