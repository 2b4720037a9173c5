-- What a step does.
use Rattle.std.specs.Prelude.{◌≡◌, ℕ, ◌<◌, ◌≤◌, List, [], ◌∷◌, ◌++◌, length, Ok, Err, Result}
use Rattle.source.specs.declared.fault.Faulted.{Faulted}
use Rattle.source.specs.declared.token.Entry.{Entry}
use Rattle.source.specs.declared.token.Entry.TheVariants.{Given}
use Rattle.source.specs.declared.token.Token.{Token}
use Rattle.source.specs.Meaning.{Meaning, answer, rest}
use Rattle.grammar.specs.Grammar.{Grammar, IsToken}
use Rattle.grammar.specs.Table.{Table}
use Rattle.table.specs.LookUps.{AfterDots}
use Rattle.reading.specs.declared.answer.Ending.{Ending}
use Rattle.reading.specs.declared.answer.Ending.TheVariants as ending_by
use Rattle.reading.specs.declared.answer.Move.{Move}
use Rattle.reading.specs.declared.answer.Move.TheVariants.{Announce, Take, Finish}
use Rattle.reading.specs.declared.answer.ReadRefusal.{ReadRefusal}
use Rattle.reading.specs.declared.answer.ReadRefusal.TheVariants.{Unfit, StackFull, MovesSpent, Source, Over}
use Rattle.reading.specs.declared.answer.Standing.TheVariants as standing
use Rattle.reading.specs.Given.{Answer, Gave, as_answers, symbols_of, place_of}
use Rattle.reading.specs.State.{State, most_moves, most_states, filled, finished, taken, announced, ended}
use Rattle.reading.specs.Window.{Wants, Full, CanEnter, Enter}
use Rattle.reading.specs.Stack.{Chosen}

-- The reading runs, has moves left and q on top of its stack; the source is asked for the entries es, and they are let in.
pub record Asks {F : Type 0} (g : Grammar) (T : Table) (s : State) (m : Meaning F) (q : ℕ) (below : List ℕ) (es : List (Entry Token))
    (m' : Meaning F) : Type 0 where
  pub runs : s.standing ≡ standing.Running
  pub moves_left : s.moves < most_moves
  pub stack_is : s.stack ≡ q ∷ below
  pub entered : Enter g T q (symbols_of s.window) es
  pub gave : Gave m (as_answers es) m'

-- Then its window is full.
pub record Fills {F : Type 0} (g : Grammar) (T : Table) (s : State) (m : Meaning F) (q : ℕ) (below : List ℕ) (es : List (Entry Token))
    (m' : Meaning F) : Type 0 where
  pub asks : Asks g T s m q below es m'
  pub full : Full g (symbols_of (filled s es).window)

-- Or it wants one entry more.
pub record Lacks {F : Type 0} (g : Grammar) (T : Table) (s : State) (m : Meaning F) (q : ℕ) (below : List ℕ) (es : List (Entry Token))
    (m' : Meaning F) : Type 0 where
  pub asks : Asks g T s m q below es m'
  pub wants : Wants g (symbols_of (filled s es).window)

-- A step from s with a source that means m: what the source gave, what the step answers, and what state and meaning are then.
pub data Step {F : Type 0} (g : Grammar) (T : Table) (s : State) (m : Meaning F)
    : List (Answer F) → Result Move (ReadRefusal F) → State → Meaning F → Type 0 where
  -- Only state 0 is left: the reading finishes.
  finish : {es : List (Entry Token)} {m' : Meaning F} → Fills g T s m 0 [] es m'
      → Step g T s m (as_answers es) (Ok Finish) (finished (filled s es)) m'
  -- A token stands after the dots of the top: it is taken.
  take : {es : List (Entry Token)} {m' : Meaning F} {q p : ℕ} {below : List ℕ} {a : ℕ} {t : Token} {behind : List (Entry Token)}
      → Fills g T s m q (p ∷ below) es m' → AfterDots g T q a → IsToken g a → (filled s es).window ≡ Given t ∷ behind
      → Step g T s m (as_answers es) (Ok (Take t)) (taken (filled s es)) m'
  -- Otherwise the choice for the state below the top is announced.
  announce : {es : List (Entry Token)} {m' : Meaning F} {q p : ℕ} {below : List ℕ} {A r : ℕ} {stack : List ℕ}
      → Fills g T s m q (p ∷ below) es m' → AfterDots g T q A → Chosen g T p below A (symbols_of (filled s es).window) r stack
      → length stack ≤ most_states
      → Step g T s m (as_answers es) (Ok (Announce r)) (announced (filled s es) stack) m'
  -- The stack would become too long.
  too_deep : {es : List (Entry Token)} {m' : Meaning F} {q p : ℕ} {below : List ℕ} {A r : ℕ} {stack : List ℕ}
      → Fills g T s m q (p ∷ below) es m' → AfterDots g T q A → Chosen g T p below A (symbols_of (filled s es).window) r stack
      → most_states < length stack
      → Step g T s m (as_answers es) (Err StackFull) (ended (filled s es) ending_by.StackFull) m'
  -- An entry cannot be let in.
  refuse : {es : List (Entry Token)} {m' : Meaning F} {q : ℕ} {below : List ℕ} {e : Entry Token}
      → Lacks g T s m q below es m' → answer m' ≡ Ok e → (CanEnter g T q (symbols_of (filled s es).window) e → ⊥)
      → Step g T s m (as_answers es ++ Ok e ∷ []) (Err (Unfit (place_of e))) (ended (filled s es) ending_by.Unfit) (rest m')
  -- The source has a fault.
  fail : {es : List (Entry Token)} {m' : Meaning F} {q : ℕ} {below : List ℕ} {f : Faulted F}
      → Lacks g T s m q below es m' → answer m' ≡ Err f
      → Step g T s m (as_answers es ++ Err f ∷ []) (Err (Source f)) (ended (filled s es) ending_by.SourceFault) (rest m')
  -- All moves have been made.
  spend : s.standing ≡ standing.Running → s.moves ≡ most_moves
      → Step g T s m [] (Err MovesSpent) (ended s ending_by.MovesSpent) m
  -- The reading is over.
  late : {e : Ending} → s.standing ≡ standing.Over e → Step g T s m [] (Err (Over e)) s m
