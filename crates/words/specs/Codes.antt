-- Words of one or two tokens by two numbers, first and second token, 0 where there is none; and rows of bits.
use Rattle.std.specs.Prelude.{ℕ, zero, suc, ◌+◌, ◌*◌, ◌/◌, ◌%◌, ◌^◌, Bool, cond, ◌&&◌, List, [], ◌∷◌, ◌==◌, nat_lt}

-- The length to which words are cut, 1 or 2.
abbrev pub cut : ℕ → ℕ
cut k = cond (nat_lt k 2) 1 2

-- How many words begin with token a, or, at 0, with none.
abbrev pub width : ℕ → ℕ → ℕ
width k zero = 1
width k (suc a) = cond (nat_lt k 2) 1 21

-- The word of two numbers. A second token without a first makes no word of tokens.
abbrev pub word_of : ℕ → ℕ → List ℕ
word_of zero zero = []
word_of zero (suc b) = 0 ∷ suc b ∷ []
word_of (suc a) zero = suc a ∷ []
word_of (suc a) (suc b) = suc a ∷ suc b ∷ []

-- Whether the two numbers are those of a word of tokens from 1 to 20 that is not longer than words are cut to.
abbrev pub is_word : ℕ → ℕ → ℕ → Bool
is_word k a b = nat_lt a 21 && nat_lt b (width k a)

-- Bit b of a row.
abbrev pub bit : ℕ → ℕ → Bool
bit x b = x / 2 ^ b % 2 == 1

-- The row of n bits whose bit b is g b.
abbrev pub mask : (ℕ → Bool) → ℕ → ℕ
mask g zero = 0
mask g (suc n) = cond (g 0) 1 0 + 2 * mask (λ b. g (suc b)) n
