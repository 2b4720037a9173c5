-- A text and its frames as a relation: a text of frames is its lines, each a frame and closed by byte 0A; any other text begins with
-- some such lines, and no frame follows them.
use Rattle.std.specs.Prelude.{◌≡◌, ℕ, ◌+◌, ◌%◌, ◌<◌, ◌≤◌, true, List, [], ◌∷◌, ◌++◌, map, length, Ok, Err, Result, ◌≢◌}
use Rattle.std.specs.List.{AllByRecursion}
use Rattle.load.specs.Digits.{is_digit, bytes_of}

-- a line that is a frame
pub record Frame (line : List ℕ) : Type 0 where
  pub some : 2 ≤ length line
  pub few : length line ≤ 8192
  pub even : length line % 2 ≡ 0
  pub digits : AllByRecursion (λ b. is_digit b ≡ true) line

-- the text of these lines: each is closed by byte 0A
abbrev pub text_of : List (List ℕ) → List ℕ
text_of [] = []
text_of (l ∷ ls) = l ++ 10 ∷ text_of ls

-- every line of the text is a frame, and these are their bytes
pub record Framed (text : List ℕ) (frames : List (List ℕ)) : Type 0 where
  pub lines : List (List ℕ)
  pub whole : text ≡ text_of lines
  pub each : AllByRecursion Frame lines
  pub bytes : frames ≡ map bytes_of lines

-- the lines before line n are frames; line n is there, and is no frame that is closed
pub record Broken (text : List ℕ) (n : ℕ) : Type 0 where
  pub lines : List (List ℕ)
  pub rest : List ℕ
  pub whole : text ≡ text_of lines ++ rest
  pub each : AllByRecursion Frame lines
  pub number : n ≡ length lines + 1
  pub more : 0 < length rest
  pub none : (line behind : List ℕ) → Frame line → rest ≢ line ++ 10 ∷ behind

-- a text has these frames, or its line n is the first that is no frame
abbrev pub Reads : List ℕ → Result (List (List ℕ)) ℕ → Type 0
Reads text (Ok frames) = Framed text frames
Reads text (Err n) = Broken text n

-- the relation says this of the text, and nothing else
pub record TextLaw (text : List ℕ) (r : Result (List (List ℕ)) ℕ) : Type 0 where
  pub reads : Reads text r
  pub alone : (s : Result (List (List ℕ)) ℕ) → Reads text s → r ≡ s
