-- What may have happened to a reading since its opening: any calls, in any order, each with a source of its own.
use Rattle.std.specs.Prelude.{◌≡◌, ℕ, List, [], ◌∷◌, ◌++◌, take, Some, None, Ok, Err, Option, Result}
use Rattle.source.specs.Meaning.{Meaning}
use Rattle.frames.specs.Raw.{Raw}
use Rattle.reading.specs.declared.answer.Move.{Move}
use Rattle.reading.specs.declared.answer.Ran.{Ran}
use Rattle.reading.specs.declared.answer.ReadRefusal.{ReadRefusal}
use Rattle.reading.specs.declared.answer.ReadRefusal.TheVariants.{Unfit, StackFull, MovesSpent, Source, Over, ListTooShort}
use Rattle.reading.specs.declared.answer.View.{View}
use Rattle.reading.specs.declared.reading.Reading.{Reading}
use Rattle.reading.specs.Given.{Answer}
use Rattle.reading.specs.Run.{rules_of}
use Rattle.reading.specs.Model.{model, view_of}
use Rattle.reading.specs.Calls.{Opened, Stepped, RunBy}

-- A step or a run, as it went: how many moves it was asked for and made, what its source meant before and after and gave in between, the rules that it
-- returned or wrote, and why it was refused, if it was.
pub record Call (F : Type 0) : Type 0 where
  pub asked : ℕ
  pub made : ℕ
  pub before : Meaning F
  pub gave : List (Answer F)
  pub after : Meaning F
  pub rules : List ℕ
  pub refusal : Option (ReadRefusal F)

-- How many moves a step makes, and which rules it returns.
abbrev pub moves_in : {F : Type 0} → Result Move (ReadRefusal F) → ℕ
moves_in (Ok v) = 1
moves_in (Err e) = 0

abbrev pub rules_in : {F : Type 0} → Result Move (ReadRefusal F) → List ℕ
rules_in (Ok v) = rules_of v
rules_in (Err e) = []

abbrev pub refusal_in : {F : Type 0} → Result Move (ReadRefusal F) → Option (ReadRefusal F)
refusal_in (Ok v) = None
refusal_in (Err e) = Some e

-- A step asks for one move.
abbrev pub step_call : {F : Type 0} → Meaning F → List (Answer F) → Result Move (ReadRefusal F) → Meaning F → Call F
step_call m gave a m' = record { asked = 1; made = moves_in a; before = m; gave = gave; after = m'; rules = rules_in a; refusal = refusal_in a }

-- A run asks for n moves, unless it is refused since its list is too short. What it wrote stands at the front of its list then.
abbrev pub asked_by : {F : Type 0} → ℕ → Option (ReadRefusal F) → ℕ
asked_by n None = n
asked_by n (Some (Unfit p)) = n
asked_by n (Some StackFull) = n
asked_by n (Some MovesSpent) = n
asked_by n (Some (Source f)) = n
asked_by n (Some (Over e)) = n
asked_by n (Some ListTooShort) = 0

abbrev pub run_call : {F : Type 0} → ℕ → Meaning F → List (Answer F) → Ran F → List ℕ → Meaning F → Call F
run_call n m gave a list m' = record {
  asked = asked_by n a.refusal;
  made = a.moves;
  before = m;
  gave = gave;
  after = m';
  rules = take a.rules list;
  refusal = a.refusal;
}

-- The calls on a reading since its opening on a table with the contents R. Each is what the call's contract says; a look changes nothing.
pub data History {F : Type 0} (R : Raw) : Reading F → List (Call F) → Type 0 where
  opened : {r : Reading F} → Opened R r → History R r []
  stepped : {r r' : Reading F} {calls : List (Call F)} → History R r calls
      → {m m' : Meaning F} {a : Result Move (ReadRefusal F)} → (s : Stepped r m a r' m') → History R r' (calls ++ step_call m s.gave a m' ∷ [])
  ran : {r r' : Reading F} {calls : List (Call F)} → History R r calls
      → {m m' : Meaning F} {n : ℕ} {list list' : List ℕ} {a : Ran F} → (s : RunBy r m n list a r' m' list')
      → History R r' (calls ++ run_call n m s.course.gave a list' m' ∷ [])
  looked : {r : Reading F} {calls : List (Call F)} → History R r calls → {v : View} → v ≡ view_of (model r) → History R r calls
