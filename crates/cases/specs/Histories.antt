-- What a caller knows that steps twice, looks, runs and closes, by the promise of readings and its own calls.
use Rattle.std.specs.Prelude.{◌≡◌, ℕ, List, ◌++◌, take, None, Result}
use Rattle.source.specs.declared.token.Entry.{Entry}
use Rattle.source.specs.declared.token.Token.{Token}
use Rattle.source.specs.Meaning.{Meaning}
use Rattle.grammar.specs.Grammar.{Grammar}
use Rattle.reading.specs.declared.answer.Move.{Move}
use Rattle.reading.specs.declared.answer.Ran.{Ran}
use Rattle.reading.specs.declared.answer.ReadRefusal.{ReadRefusal}
use Rattle.reading.specs.declared.answer.Standing.TheVariants.{Running}
use Rattle.reading.specs.declared.answer.View.{View}
use Rattle.reading.specs.Given.{Answer}
use Rattle.reading.specs.History.{Call, rules_in}
use Rattle.reading.specs.Trace.{RefusedAt}
use Rattle.reading.specs.Outcome.{OnTheWay, Decided, Outcome}

-- The rules of the steps.
abbrev pub rules_stepped : {F : Type 0} → Result Move (ReadRefusal F) → Result Move (ReadRefusal F) → List ℕ
rules_stepped a b = rules_in a ++ rules_in b

-- And those that the run wrote.
abbrev pub rules_told : {F : Type 0} → Result Move (ReadRefusal F) → Result Move (ReadRefusal F) → Ran F → List ℕ → List ℕ
rules_told a b ran list = rules_in a ++ (rules_in b ++ take ran.rules list)

-- At the look and at the close the rules begin every left parse of what may come; and the close tells how the list of the source came out.
-- A run that is not refused makes its 20 moves, unless it ends the reading.
pub record Used {F : Type 0} (g : Grammar) (m : Meaning F) (a b : Result Move (ReadRefusal F)) (ran : Ran F) (list : List ℕ) (v : View) : Type 0 where
  pub early : List (Entry Token)
  pub at_look : OnTheWay g early (rules_stepped a b)
  pub whole : ran.refusal ≡ None → ran.standing ≡ Running → ran.moves ≡ 20
  pub let_in : List (Entry Token)
  pub at_close : OnTheWay g let_in (rules_told a b ran list)
  pub gave : List (Answer F)
  pub calls : List (Call F)
  pub outcome : Decided v.standing → Outcome g m v.standing gave let_in (rules_told a b ran list) v.moves (RefusedAt calls)
