-- The moves of a reading as actions of the canonical parser, and its refusals of entries as places where the parser has none.
use Rattle.std.specs.Prelude.{◌≡◌, ℕ, List, [], ◌∷◌, ◌++◌, Ok, Err, Result}
use Rattle.source.specs.declared.token.Entry.{Entry}
use Rattle.source.specs.declared.token.Entry.TheVariants.{Given, End}
use Rattle.source.specs.declared.token.Place.{Place}
use Rattle.source.specs.declared.token.Token.{Token}
use Rattle.source.specs.Meaning.{Meaning}
use Rattle.grammar.specs.Grammar.{Rule, Grammar, IsToken, IsRule, end_mark}
use Rattle.grammar.specs.Viable.{Viable}
use Rattle.grammar.specs.Parser.{Shifts, Produces}
use Rattle.grammar.specs.Table.{Table}
use Rattle.grammar.specs.Canonical.{Canonical}
use Rattle.table.specs.LookUps.{BeginsWith}
use Rattle.reading.specs.declared.answer.Move.{Move}
use Rattle.reading.specs.declared.answer.Move.TheVariants.{Announce, Take, Finish}
use Rattle.reading.specs.declared.answer.ReadRefusal.{ReadRefusal}
use Rattle.reading.specs.declared.answer.ReadRefusal.TheVariants.{Unfit, StackFull, MovesSpent, Source, Over, ListTooShort}
use Rattle.reading.specs.Given.{Gave, as_answers, symbols_of, place_of}
use Rattle.reading.specs.State.{State}

-- The states of a suffix and of all that lie below its top, the top first.
abbrev pub states_along : (List ℕ → ℕ) → List ℕ → List ℕ
states_along f [] = []
states_along f (X ∷ σ) = f (X ∷ σ) ∷ states_along f σ

-- A stack stands for the viable suffix σ.
abbrev pub StandsFor : {g : Grammar} {T : Table} → Canonical g T → List ℕ → List ℕ → Type 0
StandsFor {g} c s σ = Viable g σ × (s ≡ states_along c.collection.map.state σ)

-- With A σ on the stack, and with the window as lookahead, the parser produces by rule r: the rule's right side comes in place of A.
pub record Announces (g : Grammar) (T : Table) (c : Canonical g T) (s : State) (r : ℕ) (s' : State) : Type 0 where
  pub nonterminal : ℕ
  pub below : List ℕ
  pub rule : Rule
  pub stands : StandsFor c s.stack (nonterminal ∷ below)
  pub is_rule : IsRule g r rule
  pub produces : Produces g below nonterminal (symbols_of s'.window) r
  pub leads : StandsFor c s'.stack (rule.right ++ below)

-- With a token on the stack that begins the lookahead, the parser shifts it.
pub record Takes (g : Grammar) (T : Table) (c : Canonical g T) (s : State) (t : Token) (s' : State) : Type 0 where
  pub below : List ℕ
  pub stands : StandsFor c s.stack (t.kind ∷ below)
  pub shifts : Shifts g below t.kind (symbols_of s'.window)
  pub leads : StandsFor c s'.stack below

-- With only the end mark on the stack the parser accepts.
abbrev pub Finishes : (g : Grammar) (T : Table) → Canonical g T → State → State → Type 0
Finishes g T c s s' = StandsFor c s.stack (end_mark ∷ []) × (symbols_of s'.window ≡ end_mark ∷ [])

-- The parser shifts, produces or accepts with σ on its stack, when the lookahead is y.
pub data HasAction (g : Grammar) : List ℕ → List ℕ → Type 0 where
  shift : {a : ℕ} {σ y : List ℕ} → Shifts g σ a y → HasAction g (a ∷ σ) (a ∷ y)
  produce : {A r : ℕ} {σ y : List ℕ} → Produces g σ A y r → HasAction g (A ∷ σ) y
  accept : HasAction g (end_mark ∷ []) (end_mark ∷ [])

-- It does so with some lookahead that begins with these symbols.
abbrev pub ActsOn : Grammar → List ℕ → List ℕ → Type 0
ActsOn g σ w = (y : List ℕ) × (HasAction g σ y × BeginsWith y w)

-- With σ on its stack it can go on when e stands behind the window. A token has to be one of the grammar's.
abbrev pub GoesOn : Grammar → List ℕ → List ℕ → Entry Token → Type 0
GoesOn g σ w (Given t) = IsToken g t.kind × ActsOn g σ (w ++ t.kind ∷ [])
GoesOn g σ w (End p) = ActsOn g σ (w ++ end_mark ∷ [])

-- Some entries were let in, and the one after them was refused: with it behind the window the parser has no action either, whatever follows.
pub record Refuses {F : Type 0} (g : Grammar) (T : Table) (c : Canonical g T) (s : State) (m : Meaning F) (p : Place) (s' : State) (m' : Meaning F) : Type 0 where
  pub let_in : List (Entry Token)
  pub entry : Entry Token
  pub gave : Gave m (as_answers let_in ++ Ok entry ∷ []) m'
  pub window_is : s'.window ≡ s.window ++ let_in
  pub place_is : place_of entry ≡ p
  pub suffix : List ℕ
  pub stands : StandsFor c s.stack suffix
  pub no_action : GoesOn g suffix (symbols_of s'.window) entry → ⊥

-- Each move is the parser's action, and where an entry is refused the parser has none. (Other refusals are not the parser's: a limit, a fault of the
-- source, or a reading that is over.)
abbrev pub Acts : {F : Type 0} (g : Grammar) (T : Table) → Canonical g T → State → Meaning F → Result Move (ReadRefusal F) → State → Meaning F → Type 0
Acts g T c s m (Ok (Announce r)) s' m' = Announces g T c s r s'
Acts g T c s m (Ok (Take t)) s' m' = Takes g T c s t s'
Acts g T c s m (Ok Finish) s' m' = Finishes g T c s s'
Acts g T c s m (Err (Unfit p)) s' m' = Refuses g T c s m p s' m'
Acts g T c s m (Err StackFull) s' m' = Unit {0}
Acts g T c s m (Err MovesSpent) s' m' = Unit {0}
Acts g T c s m (Err (Source f)) s' m' = Unit {0}
Acts g T c s m (Err (Over e)) s' m' = Unit {0}
Acts g T c s m (Err ListTooShort) s' m' = Unit {0}
