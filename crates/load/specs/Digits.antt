-- Digits, and the bytes that they mean.
use Rattle.std.specs.Prelude.{ℕ, ◌+◌, ◌-◌, ◌*◌, ◌/◌, Bool, cond, ◌&&◌, ◌||◌, List, [], ◌∷◌, ◌++◌, length, take, drop, nat_le}
use Rattle.std.specs.List.{list_all}

-- 0 to 9, or A to F; no small letters
abbrev pub is_digit : ℕ → Bool
is_digit b = (nat_le 48 b && nat_le b 57) || (nat_le 65 b && nat_le b 70)

-- the value of a digit, 0 to 15
abbrev pub value_of : ℕ → ℕ
value_of b = cond (nat_le 65 b) (b - 55) (b - 48)

-- nothing but digits
abbrev pub all_digits : List ℕ → Bool
all_digits line = list_all is_digit line

-- two digits to a byte, the high one first; one that is left over means nothing, and no frame has it
abbrev pub bytes_of : List ℕ → List ℕ
bytes_of [] = []
bytes_of (a ∷ []) = []
bytes_of (a ∷ b ∷ rest) = (16 * value_of a + value_of b) ∷ bytes_of rest

-- a store in which the bytes of these digits stand from an index on
abbrev pub decoded : List ℕ → ℕ → List ℕ → List ℕ
decoded digits at store = take at store ++ (bytes_of digits ++ drop (at + length digits / 2) store)
