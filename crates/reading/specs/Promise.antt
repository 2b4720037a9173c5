-- What is promised of a reading after any calls.
use Rattle.std.specs.Prelude.{◌≡◌, ◌<◌, List, length}
use Rattle.source.specs.Meaning.{Meaning}
use Rattle.grammar.specs.Grammar.{Grammar}
use Rattle.frames.specs.Raw.{Raw}
use Rattle.table.specs.Contents.{grammar_of}
use Rattle.reading.specs.declared.answer.View.{View}
use Rattle.reading.specs.declared.reading.Reading.{Reading}
use Rattle.reading.specs.Given.{tokens_in}
use Rattle.reading.specs.State.{most_moves}
use Rattle.reading.specs.Model.{model, view_of}
use Rattle.reading.specs.History.{Call, History}
use Rattle.reading.specs.Trace.{FromSources, let_in, given, announced, moves, asked, RefusedAt, FromOne}
use Rattle.reading.specs.Outcome.{OnTheWay, IsOver, Decided, Outcome}

-- These calls have led to a reading of this view. What they were given is what their sources gave. The view counts what they let in, announced and
-- made. Whatever sources they had, the rules announced begin every left parse of every sentence that begins with what was let in. Where they had
-- one source, and the reading is decided, it has finished exactly on a sentence, or has refused the first entry that cannot stand where it does.
-- And it is over once enough moves have been asked for.
pub record Kept {F : Type 0} (g : Grammar) (v : View) (calls : List (Call F)) : Type 0 where
  pub tokens : v.tokens ≡ tokens_in (let_in calls)
  pub rules : v.rules ≡ length (announced calls)
  pub moves_made : v.moves ≡ moves calls
  pub gave : FromSources calls
  pub on_the_way : OnTheWay g (let_in calls) (announced calls)
  pub outcome : (m : Meaning F) → FromOne m calls → Decided v.standing
      → Outcome g m v.standing (given calls) (let_in calls) (announced calls) (moves calls) (RefusedAt calls)
  pub ends : most_moves < asked calls → IsOver v.standing

-- The promise of a reading: it is kept whatever calls have led to it. (The table is known to be accepted, without the derivations that show it, and
-- so the promise is known without them.)
abbrev pub Promise : {F : Type 0} → Reading F → Type 0
Promise {F} r = (R : Raw) (calls : List (Call F)) → History R r calls → ∥ Kept (grammar_of R) (view_of (model r)) calls ∥₁
