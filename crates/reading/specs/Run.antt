-- What a run does.
use Rattle.std.specs.Prelude.{◌≡◌, ℕ, suc, ◌<◌, ◌≤◌, List, [], ◌∷◌, ◌++◌, length, drop, Some, None, Ok, Err, Option}
use Rattle.source.specs.Meaning.{Meaning}
use Rattle.grammar.specs.Grammar.{Grammar}
use Rattle.grammar.specs.Table.{Table}
use Rattle.reading.specs.declared.answer.Ending.{Ending}
use Rattle.reading.specs.declared.answer.Move.{Move}
use Rattle.reading.specs.declared.answer.Move.TheVariants.{Announce, Take, Finish}
use Rattle.reading.specs.declared.answer.Ran.{Ran}
use Rattle.reading.specs.declared.answer.ReadRefusal.{ReadRefusal}
use Rattle.reading.specs.declared.answer.ReadRefusal.TheVariants.{Over, ListTooShort}
use Rattle.reading.specs.declared.answer.Standing.TheVariants as standing
use Rattle.reading.specs.Given.{Answer}
use Rattle.reading.specs.State.{State}
use Rattle.reading.specs.Step.{Step}

-- What some steps come to: what the source gave, how many moves were made, the rules announced, why the last step was refused if it was, and the
-- state and the source's meaning then.
pub record Course (F : Type 0) : Type 0 where
  pub gave : List (Answer F)
  pub moves : ℕ
  pub rules : List ℕ
  pub refusal : Option (ReadRefusal F)
  pub state : State
  pub meaning : Meaning F

-- The rule that a move announces, if it does.
abbrev pub rules_of : Move → List ℕ
rules_of (Announce r) = r ∷ []
rules_of (Take t) = []
rules_of Finish = []

-- No step is made.
abbrev pub stays : {F : Type 0} → State → Meaning F → Course F
stays s m = record { gave = []; moves = 0; rules = []; refusal = None; state = s; meaning = m }

-- A move comes before the others.
abbrev pub move_first : {F : Type 0} → List (Answer F) → Move → Course F → Course F
move_first gave v c = record {
  gave = gave ++ c.gave;
  moves = suc c.moves;
  rules = rules_of v ++ c.rules;
  refusal = c.refusal;
  state = c.state;
  meaning = c.meaning;
}

-- At most n moves, and fewer only where the reading is over.
pub data Moves {F : Type 0} (g : Grammar) (T : Table) : ℕ → State → Meaning F → Course F → Type 0 where
  enough : {s : State} {m : Meaning F} → Moves g T 0 s m (stays s m)
  over : {n : ℕ} {s : State} {m : Meaning F} {e : Ending} → s.standing ≡ standing.Over e → Moves g T n s m (stays s m)
  move : {n : ℕ} {s s' : State} {m m' : Meaning F} {gave : List (Answer F)} {v : Move} {c : Course F}
      → Step g T s m gave (Ok v) s' m' → Moves g T n s' m' c → Moves g T (suc n) s m (move_first gave v c)
  stop : {n : ℕ} {s s' : State} {m m' : Meaning F} {gave : List (Answer F)} {e : ReadRefusal F}
      → s.standing ≡ standing.Running → Step g T s m gave (Err e) s' m'
      → Moves g T (suc n) s m (record { gave = gave; moves = 0; rules = []; refusal = Some e; state = s'; meaning = m' })

-- A run of n with a list of so many places: refused where the reading is over or the list is shorter than n, and otherwise at most n moves.
pub data Run {F : Type 0} (g : Grammar) (T : Table) (n places : ℕ) (s : State) (m : Meaning F) : Course F → Type 0 where
  late : {e : Ending} → s.standing ≡ standing.Over e
      → Run g T n places s m (record { gave = []; moves = 0; rules = []; refusal = Some (Over e); state = s; meaning = m })
  short : s.standing ≡ standing.Running → places < n
      → Run g T n places s m (record { gave = []; moves = 0; rules = []; refusal = Some ListTooShort; state = s; meaning = m })
  runs : {c : Course F} → s.standing ≡ standing.Running → n ≤ places → Moves g T n s m c → Run g T n places s m c

-- What a run answers.
abbrev pub answer_of : {F : Type 0} → Course F → Ran F
answer_of c = record { moves = c.moves; rules = length c.rules; standing = c.state.standing; refusal = c.refusal }

-- A list with the rules at its front, and nothing changed behind them.
abbrev pub at_front : List ℕ → List ℕ → List ℕ
at_front rules list = rules ++ drop (length rules) list
