-- Entries that rise, as numbers: their bytes are the digits, the first the highest.
use Rattle.std.specs.Prelude.{ℕ, ◌+◌, ◌*◌, ◌<◌, List, length, slice_index}

-- The entry of two bytes with a number.
abbrev pub pair_at : List ℕ → ℕ → ℕ
pair_at es i = slice_index es (2 * i) * 256 + slice_index es (2 * i + 1)

-- The entry of four bytes with a number.
abbrev pub four_at : List ℕ → ℕ → ℕ
four_at es i = slice_index es (4 * i) * 16777216 + slice_index es (4 * i + 1) * 65536 + slice_index es (4 * i + 2) * 256 + slice_index es (4 * i + 3)

-- The entries of two bytes rise.
abbrev pub PairsRise : List ℕ → Type 0
PairsRise es = (i j : ℕ) → i < j → 2 * j + 1 < length es → pair_at es i < pair_at es j

-- The entries of four bytes rise.
abbrev pub FoursRise : List ℕ → Type 0
FoursRise es = (i j : ℕ) → i < j → 4 * j + 3 < length es → four_at es i < four_at es j
