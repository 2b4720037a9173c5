-- A table file in memory, as load leaves it, and what its frames hold.
use Rattle.std.specs.Prelude.{ℕ, ◌+◌, ◌*◌, cond, List, [], ◌∷◌, drop, ◌==◌, nat_lt, slice_index, slice_range}
use Rattle.frames.specs.declared.header.Header.{Header}
use Rattle.frames.specs.declared.header.Section.{Section}
use Rattle.frames.specs.declared.header.Section.TheVariants.{Kernel, Words, Successors, Choices}

-- The joined bytes of the frames and where each begins, with the number of frames and of bytes.
pub record Raw : Type 0 where
  pub store : List ℕ
  pub starts : List ℕ
  pub frames : ℕ
  pub bytes : ℕ

-- The bytes from one place up to another.
abbrev pub part : List ℕ → ℕ → ℕ → List ℕ
part bs from to = slice_range bs from to

-- Where frame i begins.
abbrev pub start_of : Raw → ℕ → ℕ
start_of R i = slice_index R.starts i

-- Where it ends: where the next one begins, or with the last byte.
abbrev pub end_of : Raw → ℕ → ℕ
end_of R i = cond (nat_lt (i + 1) R.frames) (start_of R (i + 1)) R.bytes

-- The bytes of frame i.
abbrev pub frame : Raw → ℕ → List ℕ
frame R i = part R.store (start_of R i) (end_of R i)

-- The numbers in the first frame.
abbrev pub header_of : Raw → Header
header_of R = record {
  k = slice_index (frame R 0) 1;
  t = slice_index (frame R 0) 2;
  n = slice_index (frame R 0) 3;
  p = slice_index (frame R 0) 4;
  s = slice_index (frame R 0) 5;
}

-- The left side of rule r.
abbrev pub left_of : Raw → ℕ → ℕ
left_of R r = slice_index (frame R (1 + r)) 1

-- The right side of rule r. The start rule stands behind the last, with the start symbol and the end mark on its right.
abbrev pub right_of : Raw → ℕ → List ℕ
right_of R r = cond (r == (header_of R).p) (32 ∷ 31 ∷ []) (drop 2 (frame R (1 + r)))

-- The place of a section among those of a state.
abbrev pub place : Section → ℕ
place Kernel = 0
place Words = 1
place Successors = 2
place Choices = 3

-- The entries of a section of state q, without the tag.
abbrev pub section_of : Raw → ℕ → Section → List ℕ
section_of R q c = drop 1 (frame R (1 + (header_of R).p + 4 * q + place c))
