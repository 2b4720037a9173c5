-- A reading as its calls show it.
use Rattle.std.specs.Prelude.{ℕ, ◌+◌, List, [], ◌∷◌, ◌++◌, drop}
use Rattle.source.specs.declared.token.Entry.{Entry}
use Rattle.source.specs.declared.token.Token.{Token}
use Rattle.reading.specs.declared.answer.Ending.{Ending}
use Rattle.reading.specs.declared.answer.Ending.TheVariants.{Finished}
use Rattle.reading.specs.declared.answer.Standing.{Standing}
use Rattle.reading.specs.declared.answer.Standing.TheVariants.{Running, Over}
use Rattle.reading.specs.Given.{tokens_in}

-- The stack of states, the top first; the window, the entries that are let in and not yet taken; how many tokens were let in, rules announced
-- and moves made since the opening; and where the reading stands.
pub record State : Type 0 where
  pub stack : List ℕ
  pub window : List (Entry Token)
  pub tokens : ℕ
  pub rules : ℕ
  pub moves : ℕ
  pub standing : Standing

-- A reading makes at most so many moves.
abbrev pub most_moves : ℕ
most_moves = 1000000

-- A stack has at most so many states.
abbrev pub most_states : ℕ
most_states = 256

-- A reading that was just opened, with state q above state 0.
abbrev pub opening : ℕ → State
opening q = record { stack = q ∷ 0 ∷ []; window = []; tokens = 0; rules = 0; moves = 0; standing = Running }

-- It has let in some entries.
abbrev pub filled : State → List (Entry Token) → State
filled s es = record {
  stack = s.stack;
  window = s.window ++ es;
  tokens = s.tokens + tokens_in es;
  rules = s.rules;
  moves = s.moves;
  standing = s.standing;
}

-- It has made its last move.
abbrev pub finished : State → State
finished s = record { stack = s.stack; window = s.window; tokens = s.tokens; rules = s.rules; moves = s.moves + 1; standing = Over Finished }

-- It has taken a token: top and window lose one.
abbrev pub taken : State → State
taken s = record {
  stack = drop 1 s.stack;
  window = drop 1 s.window;
  tokens = s.tokens;
  rules = s.rules;
  moves = s.moves + 1;
  standing = s.standing;
}

-- It has announced a rule, and this is the stack then.
abbrev pub announced : State → List ℕ → State
announced s stack = record {
  stack = stack;
  window = s.window;
  tokens = s.tokens;
  rules = s.rules + 1;
  moves = s.moves + 1;
  standing = s.standing;
}

-- It has ended without a move.
abbrev pub ended : State → Ending → State
ended s e = record { stack = s.stack; window = s.window; tokens = s.tokens; rules = s.rules; moves = s.moves; standing = Over e }
