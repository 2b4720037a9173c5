-- Rows of a set, as numbers.
use Rattle.std.specs.Prelude.{ℕ, zero, suc, ◌+◌, ◌-◌, ◌*◌, ◌%◌, Bool, cond, ◌&&◌, ◌||◌, List, [], ◌∷◌, ◌==◌, bit_or}
use Rattle.words.specs.Codes.{bit}

-- Bit a says whether row a has a word.
abbrev pub heads : List ℕ → ℕ
heads [] = 0
heads (x ∷ xs) = cond (x == 0) 0 1 + 2 * heads xs

-- A row whose word of one token goes on by what `after` has.
abbrev pub row_longer : ℕ → ℕ → ℕ
row_longer x after = cond (x % 2 == 1) (bit_or (x - 1) after) x

-- A row of a product: that of the first set, made longer, and that of the second, if the first has the empty word.
abbrev pub row_product : ℕ → ℕ → Bool → ℕ → ℕ
row_product x y empty after = cond empty (bit_or (row_longer x after) y) (row_longer x after)

-- Bit b of it.
abbrev pub row_bit : ℕ → ℕ → Bool → ℕ → ℕ → Bool
row_bit x y empty after zero = (empty && bit y 0) || (bit x 0 && bit after 0)
row_bit x y empty after (suc b) = (empty && bit y (suc b)) || (bit x (suc b) || (bit x 0 && bit after (suc b)))
