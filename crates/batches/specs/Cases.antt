-- The first case of a batch.
use Rattle.std.specs.Prelude.{◌≡◌, ℕ, ◌<◌, ◌≤◌, min, List, [], ◌∷◌, length, take, drop, codes}
use Rattle.std.specs.Char.{is_ascii_digit}
use Rattle.std.specs.List.{prefix_len}
use Rattle.std.specs.Str.Parse.{digits_value}

-- the digits in front of a batch, at most nine
abbrev pub digits : List ℕ → List ℕ
digits batch = take (min 9 (prefix_len is_ascii_digit batch)) batch

-- the number that they write: the length of the first case
abbrev pub size : List ℕ → ℕ
size batch = digits_value 10 (digits batch)

-- what stands behind them
abbrev pub behind : List ℕ → List ℕ
behind batch = drop (length (digits batch)) batch

-- behind a length stand the mark, a case of that many bytes, and those that close it
pub record Closed (mark : ℕ) (closing : List ℕ) (size : ℕ) (behind : List ℕ) : Type 0 where
  pub marked : take 1 behind ≡ mark ∷ []
  pub fits : size ≤ length (drop 1 behind)
  pub closes : take (length closing) (drop size (drop 1 behind)) ≡ closing

-- a whole case stands at the front of a batch: its length in some digits, and what belongs behind a length
pub record Whole (mark : ℕ) (closing batch : List ℕ) : Type 0 where
  pub some : 0 < length (digits batch)
  pub closed : Closed mark closing (size batch) (behind batch)

-- a case and what follows it are the first case of a batch and the rest behind what closes it
pub record First (mark : ℕ) (closing batch case rest : List ℕ) : Type 0 where
  pub whole : Whole mark closing batch
  pub is : case ≡ take (size batch) (drop 1 (behind batch))
  pub left : rest ≡ drop (length closing) (drop (size batch) (drop 1 (behind batch)))

-- what is said where none is whole
abbrev pub not_whole : List ℕ
not_whole = codes "it is not whole: a length, its mark, as many bytes and what closes them are wanted"
