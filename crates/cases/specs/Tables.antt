-- The tables of the examples, frame by frame, and what the check answers.
use Rattle.std.specs.Prelude.{ℕ, ◌+◌, Bool, false, cond, ◌&&◌, ◌||◌, List, [], ◌∷◌, ◌++◌, length, Ok, Err, Result}
use Rattle.frames.specs.Raw.{Raw}
use Rattle.table.specs.declared.refused.CheckRefusal.{CheckRefusal}
use Rattle.table.specs.declared.refused.CheckRefusal.TheVariants.{Undefined, TwoFit}
use Rattle.frames.specs.Raw.{Raw}
use Rattle.table.specs.Contents.{same_word}
use Rattle.table.specs.Rows.{Verdict}

-- The bytes of frames, joined.
abbrev pub bytes_of : List (List ℕ) → List ℕ
bytes_of [] = []
bytes_of (f ∷ fs) = f ++ bytes_of fs

-- Where frames begin, the first of them at n.
abbrev pub begins : ℕ → List (List ℕ) → List ℕ
begins n [] = []
begins n (f ∷ fs) = n ∷ begins (n + length f) fs

-- Bytes and starts that fill their memories.
abbrev pub filled : List ℕ → List ℕ → Raw
filled store starts = record { store = store; starts = starts; frames = length starts; bytes = length store }

-- Frames in memory.
abbrev pub file : List (List ℕ) → Raw
file fs = filled (bytes_of fs) (begins 0 fs)

-- The table of 32 → 2 33, 33 → 1 33 and 33 → nothing, with one token of lookahead.
abbrev pub accepted : List (List ℕ)
accepted =
    (1 ∷ 1 ∷ 2 ∷ 2 ∷ 3 ∷ 5 ∷ [])
    ∷ (2 ∷ 32 ∷ 2 ∷ 33 ∷ []) ∷ (2 ∷ 33 ∷ 1 ∷ 33 ∷ []) ∷ (2 ∷ 33 ∷ [])
    ∷ (3 ∷ 3 ∷ 1 ∷ []) ∷ (4 ∷ 31 ∷ 0 ∷ []) ∷ (5 ∷ 32 ∷ 1 ∷ 33 ∷ 2 ∷ []) ∷ (6 ∷ 32 ∷ 2 ∷ 0 ∷ 0 ∷ 33 ∷ 1 ∷ 0 ∷ 1 ∷ 33 ∷ 31 ∷ 0 ∷ 2 ∷ [])
    ∷ (3 ∷ 3 ∷ 0 ∷ []) ∷ (4 ∷ 2 ∷ 0 ∷ []) ∷ (5 ∷ []) ∷ (6 ∷ [])
    ∷ (3 ∷ 0 ∷ 1 ∷ 1 ∷ 1 ∷ []) ∷ (4 ∷ 1 ∷ 0 ∷ 31 ∷ 0 ∷ []) ∷ (5 ∷ 1 ∷ 3 ∷ 2 ∷ 4 ∷ []) ∷ (6 ∷ [])
    ∷ (3 ∷ 1 ∷ 0 ∷ []) ∷ (4 ∷ 1 ∷ 0 ∷ []) ∷ (5 ∷ []) ∷ (6 ∷ [])
    ∷ (3 ∷ 0 ∷ 0 ∷ []) ∷ (4 ∷ 2 ∷ 0 ∷ []) ∷ (5 ∷ []) ∷ (6 ∷ []) ∷ []

-- The same with states 3 and 4 exchanged.
abbrev pub renumbered : List (List ℕ)
renumbered =
    (1 ∷ 1 ∷ 2 ∷ 2 ∷ 3 ∷ 5 ∷ [])
    ∷ (2 ∷ 32 ∷ 2 ∷ 33 ∷ []) ∷ (2 ∷ 33 ∷ 1 ∷ 33 ∷ []) ∷ (2 ∷ 33 ∷ [])
    ∷ (3 ∷ 3 ∷ 1 ∷ []) ∷ (4 ∷ 31 ∷ 0 ∷ []) ∷ (5 ∷ 32 ∷ 1 ∷ 33 ∷ 2 ∷ []) ∷ (6 ∷ 32 ∷ 2 ∷ 0 ∷ 0 ∷ 33 ∷ 1 ∷ 0 ∷ 1 ∷ 33 ∷ 31 ∷ 0 ∷ 2 ∷ [])
    ∷ (3 ∷ 3 ∷ 0 ∷ []) ∷ (4 ∷ 2 ∷ 0 ∷ []) ∷ (5 ∷ []) ∷ (6 ∷ [])
    ∷ (3 ∷ 0 ∷ 1 ∷ 1 ∷ 1 ∷ []) ∷ (4 ∷ 1 ∷ 0 ∷ 31 ∷ 0 ∷ []) ∷ (5 ∷ 1 ∷ 4 ∷ 2 ∷ 3 ∷ []) ∷ (6 ∷ [])
    ∷ (3 ∷ 0 ∷ 0 ∷ []) ∷ (4 ∷ 2 ∷ 0 ∷ []) ∷ (5 ∷ []) ∷ (6 ∷ [])
    ∷ (3 ∷ 1 ∷ 0 ∷ []) ∷ (4 ∷ 1 ∷ 0 ∷ []) ∷ (5 ∷ []) ∷ (6 ∷ []) ∷ []

-- The first with the end mark as the word of state 3.
abbrev pub misworded : List (List ℕ)
misworded =
    (1 ∷ 1 ∷ 2 ∷ 2 ∷ 3 ∷ 5 ∷ [])
    ∷ (2 ∷ 32 ∷ 2 ∷ 33 ∷ []) ∷ (2 ∷ 33 ∷ 1 ∷ 33 ∷ []) ∷ (2 ∷ 33 ∷ [])
    ∷ (3 ∷ 3 ∷ 1 ∷ []) ∷ (4 ∷ 31 ∷ 0 ∷ []) ∷ (5 ∷ 32 ∷ 1 ∷ 33 ∷ 2 ∷ []) ∷ (6 ∷ 32 ∷ 2 ∷ 0 ∷ 0 ∷ 33 ∷ 1 ∷ 0 ∷ 1 ∷ 33 ∷ 31 ∷ 0 ∷ 2 ∷ [])
    ∷ (3 ∷ 3 ∷ 0 ∷ []) ∷ (4 ∷ 2 ∷ 0 ∷ []) ∷ (5 ∷ []) ∷ (6 ∷ [])
    ∷ (3 ∷ 0 ∷ 1 ∷ 1 ∷ 1 ∷ []) ∷ (4 ∷ 1 ∷ 0 ∷ 31 ∷ 0 ∷ []) ∷ (5 ∷ 1 ∷ 3 ∷ 2 ∷ 4 ∷ []) ∷ (6 ∷ [])
    ∷ (3 ∷ 1 ∷ 0 ∷ []) ∷ (4 ∷ 31 ∷ 0 ∷ []) ∷ (5 ∷ []) ∷ (6 ∷ [])
    ∷ (3 ∷ 0 ∷ 0 ∷ []) ∷ (4 ∷ 2 ∷ 0 ∷ []) ∷ (5 ∷ []) ∷ (6 ∷ []) ∷ []

-- The table of 32 → 32 1 and 32 → 1, with one token of lookahead.
abbrev pub left_recursive : List (List ℕ)
left_recursive =
    (1 ∷ 1 ∷ 1 ∷ 1 ∷ 2 ∷ 4 ∷ [])
    ∷ (2 ∷ 32 ∷ 32 ∷ 1 ∷ []) ∷ (2 ∷ 32 ∷ 1 ∷ [])
    ∷ (3 ∷ 2 ∷ 1 ∷ []) ∷ (4 ∷ 31 ∷ 0 ∷ []) ∷ (5 ∷ 1 ∷ 1 ∷ 32 ∷ 2 ∷ []) ∷ (6 ∷ 32 ∷ 1 ∷ 0 ∷ 0 ∷ 32 ∷ 1 ∷ 0 ∷ 1 ∷ [])
    ∷ (3 ∷ 0 ∷ 1 ∷ 1 ∷ 0 ∷ []) ∷ (4 ∷ 1 ∷ 0 ∷ []) ∷ (5 ∷ 1 ∷ 1 ∷ 32 ∷ 3 ∷ []) ∷ (6 ∷ 32 ∷ 1 ∷ 0 ∷ 0 ∷ 32 ∷ 1 ∷ 0 ∷ 1 ∷ [])
    ∷ (3 ∷ 2 ∷ 0 ∷ []) ∷ (4 ∷ 1 ∷ 0 ∷ []) ∷ (5 ∷ []) ∷ (6 ∷ [])
    ∷ (3 ∷ 0 ∷ 0 ∷ []) ∷ (4 ∷ 1 ∷ 0 ∷ []) ∷ (5 ∷ []) ∷ (6 ∷ []) ∷ []

-- The table of these rules with two tokens of lookahead.
abbrev pub looking_further : List (List ℕ)
looking_further =
    (1 ∷ 2 ∷ 1 ∷ 1 ∷ 2 ∷ 5 ∷ [])
    ∷ (2 ∷ 32 ∷ 32 ∷ 1 ∷ []) ∷ (2 ∷ 32 ∷ 1 ∷ [])
    ∷ (3 ∷ 2 ∷ 1 ∷ []) ∷ (4 ∷ 31 ∷ 0 ∷ []) ∷ (5 ∷ 1 ∷ 1 ∷ 32 ∷ 2 ∷ []) ∷ (6 ∷ 32 ∷ 1 ∷ 1 ∷ 0 ∷ 32 ∷ 1 ∷ 31 ∷ 1 ∷ [])
    ∷ (3 ∷ 0 ∷ 1 ∷ 1 ∷ 0 ∷ []) ∷ (4 ∷ 1 ∷ 31 ∷ []) ∷ (5 ∷ 1 ∷ 3 ∷ 32 ∷ 4 ∷ []) ∷ (6 ∷ 32 ∷ 1 ∷ 1 ∷ 0 ∷ 32 ∷ 1 ∷ 1 ∷ 1 ∷ [])
    ∷ (3 ∷ 2 ∷ 0 ∷ []) ∷ (4 ∷ 1 ∷ 1 ∷ 1 ∷ 31 ∷ []) ∷ (5 ∷ []) ∷ (6 ∷ [])
    ∷ (3 ∷ 0 ∷ 1 ∷ 1 ∷ 0 ∷ []) ∷ (4 ∷ 1 ∷ 1 ∷ []) ∷ (5 ∷ 1 ∷ 3 ∷ 32 ∷ 4 ∷ []) ∷ (6 ∷ 32 ∷ 1 ∷ 1 ∷ 0 ∷ 32 ∷ 1 ∷ 1 ∷ 1 ∷ [])
    ∷ (3 ∷ 0 ∷ 0 ∷ []) ∷ (4 ∷ 1 ∷ 1 ∷ []) ∷ (5 ∷ []) ∷ (6 ∷ []) ∷ []

-- The table of 32 → 1 33 1, 32 → 2 33 2 and 33 → nothing, with one token of lookahead.
abbrev pub enclosing : List (List ℕ)
enclosing =
    (1 ∷ 1 ∷ 2 ∷ 2 ∷ 3 ∷ 8 ∷ [])
    ∷ (2 ∷ 32 ∷ 1 ∷ 33 ∷ 1 ∷ []) ∷ (2 ∷ 32 ∷ 2 ∷ 33 ∷ 2 ∷ []) ∷ (2 ∷ 33 ∷ [])
    ∷ (3 ∷ 3 ∷ 1 ∷ []) ∷ (4 ∷ 31 ∷ 0 ∷ []) ∷ (5 ∷ 1 ∷ 1 ∷ 2 ∷ 2 ∷ 32 ∷ 3 ∷ []) ∷ (6 ∷ 32 ∷ 1 ∷ 0 ∷ 0 ∷ 32 ∷ 2 ∷ 0 ∷ 1 ∷ [])
    ∷ (3 ∷ 0 ∷ 2 ∷ []) ∷ (4 ∷ 1 ∷ 0 ∷ []) ∷ (5 ∷ 33 ∷ 4 ∷ []) ∷ (6 ∷ 33 ∷ 1 ∷ 0 ∷ 2 ∷ [])
    ∷ (3 ∷ 1 ∷ 2 ∷ []) ∷ (4 ∷ 2 ∷ 0 ∷ []) ∷ (5 ∷ 33 ∷ 5 ∷ []) ∷ (6 ∷ 33 ∷ 2 ∷ 0 ∷ 2 ∷ [])
    ∷ (3 ∷ 3 ∷ 0 ∷ []) ∷ (4 ∷ 1 ∷ 0 ∷ 2 ∷ 0 ∷ []) ∷ (5 ∷ []) ∷ (6 ∷ [])
    ∷ (3 ∷ 0 ∷ 1 ∷ []) ∷ (4 ∷ 1 ∷ 0 ∷ []) ∷ (5 ∷ 1 ∷ 6 ∷ []) ∷ (6 ∷ [])
    ∷ (3 ∷ 1 ∷ 1 ∷ []) ∷ (4 ∷ 2 ∷ 0 ∷ []) ∷ (5 ∷ 2 ∷ 7 ∷ []) ∷ (6 ∷ [])
    ∷ (3 ∷ 0 ∷ 0 ∷ []) ∷ (4 ∷ 1 ∷ 0 ∷ []) ∷ (5 ∷ []) ∷ (6 ∷ [])
    ∷ (3 ∷ 1 ∷ 0 ∷ []) ∷ (4 ∷ 2 ∷ 0 ∷ []) ∷ (5 ∷ []) ∷ (6 ∷ []) ∷ []

-- A table with the answer of the check.
pub record Example : Type 0 where
  pub frames : List (List ℕ)
  pub answer : Result (Unit {0}) CheckRefusal

-- The memories hold its frames.
abbrev pub holds : Example → List ℕ → List ℕ → Bool
holds e store starts = same_word store (bytes_of e.frames) && same_word starts (begins 0 e.frames)

-- They hold those of some example.
abbrev pub is_known : List Example → List ℕ → List ℕ → Bool
is_known [] store starts = false
is_known (e ∷ es) store starts = holds e store starts || is_known es store starts

-- The answer for these memories; for others nothing is meant.
abbrev pub expected : List Example → List ℕ → List ℕ → Result (Unit {0}) CheckRefusal
expected [] store starts = Ok tt
expected (e ∷ es) store starts = cond (holds e store starts) e.answer (expected es store starts)

-- The six tables: three are accepted, state 2 is not as defined, two rules fit one word at state 0, and at state 1.
abbrev pub examples : List Example
examples =
    record { frames = accepted; answer = Ok tt }
    ∷ record { frames = renumbered; answer = Ok tt }
    ∷ record { frames = misworded; answer = Err (Undefined 2) }
    ∷ record { frames = left_recursive; answer = Err (TwoFit 0) }
    ∷ record { frames = looking_further; answer = Err (TwoFit 1) }
    ∷ record { frames = enclosing; answer = Ok tt }
    ∷ []

-- Each table has its verdict.
abbrev pub Right : List Example → Type 0
Right [] = Unit {0}
Right (e ∷ es) = Verdict (file e.frames) e.answer × Right es

-- All have theirs.
abbrev pub Tables : Type 0
Tables = Right examples
