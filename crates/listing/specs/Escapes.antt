-- Bytes as printable text.
use Rattle.std.specs.Prelude.{ℕ, ◌/◌, ◌%◌, Bool, true, cond, not, ◌&&◌, List, [], ◌∷◌, ◌++◌, codes, ◌==◌, nat_le, nat_lt}
use Rattle.std.specs.Fmt.{digit_glyph}

-- printable ASCII, but for the backslash
abbrev pub plain : ℕ → Bool
plain b = nat_le 32 b && (nat_le b 126 && not (b == 92))

-- \xHH
abbrev pub escape : ℕ → List ℕ
escape b = codes "\\x" ++ digit_glyph true (b / 16) ∷ digit_glyph true (b % 16) ∷ []

-- what stands before the digits of a byte: a byte below 16 has one digit, behind a zero
abbrev pub lead : ℕ → List ℕ
lead b = cond (nat_lt b 16) (codes "\\x0") (codes "\\x")

-- a byte as it is, or as \xHH
abbrev pub escaped : ℕ → List ℕ
escaped b = cond (plain b) (b ∷ []) (escape b)

-- one after the other
abbrev pub escaped_text : List ℕ → List ℕ
escaped_text [] = []
escaped_text (b ∷ bs) = escaped b ++ escaped_text bs
