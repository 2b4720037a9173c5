-- The numbers of the kinds of words and marks. The other kinds are 1 number, 3 quoted name, 15 line end and 16 comment.
use Rattle.std.specs.Prelude.{ℕ, Some, None, Option}
use Rattle.byte_classes.specs.declared.class.Mark.{Mark}
use Rattle.byte_classes.specs.declared.class.Mark.TheVariants.{Colon, Equals, Comma, Semicolon, Minus}
use Rattle.byte_classes.specs.declared.keyword.Keyword.{Keyword}
use Rattle.byte_classes.specs.declared.keyword.Keyword.TheVariants.{Zone, Curve, Set, From, To, Off}

-- the marks : = , ; and -
abbrev pub mark_kind : Mark → ℕ
mark_kind Colon = 4
mark_kind Equals = 5
mark_kind Comma = 6
mark_kind Semicolon = 7
mark_kind Minus = 8

-- the six words
abbrev pub keyword_kind : Keyword → ℕ
keyword_kind Zone = 9
keyword_kind Curve = 10
keyword_kind Set = 11
keyword_kind From = 12
keyword_kind To = 13
keyword_kind Off = 14

-- a word: one of the six, or any other
abbrev pub word_kind : Option Keyword → ℕ
word_kind (Some k) = keyword_kind k
word_kind None = 2
