-- The class of a byte.
use Rattle.std.specs.Prelude.{ℕ, Bool, cond, ◌&&◌, ◌||◌, List, map, ◌==◌, nat_le}
use Rattle.std.specs.List.{range_with_len}
use Rattle.byte_classes.specs.declared.class.Class.{Class}
use Rattle.byte_classes.specs.declared.class.Class.TheVariants.{Letter, Digit, Blank, LineEnd, Quote, Hash, Other}
use Rattle.byte_classes.specs.declared.class.Class.TheVariants as class
use Rattle.byte_classes.specs.declared.class.Mark.TheVariants.{Colon, Equals, Comma, Semicolon, Minus}

-- a to z
abbrev pub letter : ℕ → Bool
letter b = nat_le 97 b && nat_le b 122

-- 0 to 9
abbrev pub digit : ℕ → Bool
digit b = nat_le 48 b && nat_le b 57

-- space and tab
abbrev pub blank : ℕ → Bool
blank b = b == 32 || b == 9

-- letters, digits, blanks, the line end, the marks : = , ; and -, the quote, the hash, and no class
abbrev pub class_of : ℕ → Class
class_of b =
    cond (letter b) Letter
    (cond (digit b) Digit
    (cond (blank b) Blank
    (cond (b == 10) LineEnd
    (cond (b == 58) (class.Mark Colon)
    (cond (b == 61) (class.Mark Equals)
    (cond (b == 44) (class.Mark Comma)
    (cond (b == 59) (class.Mark Semicolon)
    (cond (b == 45) (class.Mark Minus)
    (cond (b == 34) Quote
    (cond (b == 35) Hash Other))))))))))

-- the classes of all bytes, in order
abbrev pub classes : List Class
classes = map class_of (range_with_len 0 256)
