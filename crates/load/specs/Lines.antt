-- The lines of a text, and the frames that they hold.
use Rattle.std.specs.Prelude.{ℕ, ◌+◌, ◌%◌, Bool, cond, ◌&&◌, List, [], ◌∷◌, length, Ok, Err, Result, ◌==◌, nat_le}
use Rattle.load.specs.Digits.{all_digits, bytes_of}

-- a line without the byte 0A that closes it; the last line of a text may lack it
pub data Line : Type 0 where
  closed : List ℕ → Line
  unclosed : List ℕ → Line

-- a byte before the first of these lines
abbrev pub onto : ℕ → List Line → List Line
onto b [] = unclosed (b ∷ []) ∷ []
onto b (closed l ∷ ls) = closed (b ∷ l) ∷ ls
onto b (unclosed l ∷ ls) = unclosed (b ∷ l) ∷ ls

-- the lines of a text
abbrev pub lines : List ℕ → List Line
lines [] = []
lines (b ∷ bs) = cond (b == 10) (closed [] ∷ lines bs) (onto b (lines bs))

-- a frame has 2 to 8,192 digits, even in number
abbrev pub is_frame : List ℕ → Bool
is_frame bs = nat_le 2 (length bs) && nat_le (length bs) 8192 && length bs % 2 == 0 && all_digits bs

-- one frame more, before those that follow
abbrev pub before : List ℕ → Result (List (List ℕ)) ℕ → Result (List (List ℕ)) ℕ
before f (Ok fs) = Ok (f ∷ fs)
before f (Err n) = Err n

-- the bytes of each frame, or the number of the first line that is no frame, where the first line has the number n
abbrev pub frames_of : ℕ → List Line → Result (List (List ℕ)) ℕ
frames_of n [] = Ok []
frames_of n (closed bs ∷ ls) = cond (is_frame bs) (before (bytes_of bs) (frames_of (n + 1) ls)) (Err n)
frames_of n (unclosed bs ∷ ls) = Err n

-- the same of a text, whose lines are counted from 1
abbrev pub frames_in : List ℕ → Result (List (List ℕ)) ℕ
frames_in text = frames_of 1 (lines text)
