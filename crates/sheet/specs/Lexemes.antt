-- The kind and the bytes of a lexeme.
use Rattle.std.specs.Prelude.{ℕ, List}
use Rattle.sheet.specs.Kinds.{mark_kind, keyword_kind}
use Rattle.sheet.specs.declared.lexeme.Lexeme.{Lexeme}
use Rattle.sheet.specs.declared.lexeme.Lexeme.TheVariants.{Number, Word, Keyword, Name, Mark, LineEnd, Comment}

-- the bytes that it borrows
abbrev pub text_of : Lexeme → List ℕ
text_of (Number s) = s.now
text_of (Word s) = s.now
text_of (Name s) = s.now
text_of (Mark m s) = s.now
text_of (Keyword k s) = s.now
text_of (LineEnd s) = s.now
text_of (Comment s) = s.now

-- the number of its kind
abbrev pub kind_of : Lexeme → ℕ
kind_of (Number s) = 1
kind_of (Word s) = 2
kind_of (Name s) = 3
kind_of (Mark m s) = mark_kind m
kind_of (Keyword k s) = keyword_kind k
kind_of (LineEnd s) = 15
kind_of (Comment s) = 16
