-- What the code cuts off the front of a text, and how that answers to the definition.
use Rattle.std.specs.Prelude.{◌≡◌, ℕ, ◌<◌, List, length, take, slice_index, Ok, Err, Result, Some, None, Option}
use Rattle.byte_classes.specs.Classes.{class_of}
use Rattle.byte_classes.specs.declared.class.Class.TheVariants.{Blank}
use Rattle.sheet.specs.Lexemes.{kind_of, text_of}
use Rattle.sheet.specs.Scan.{Front, token, fault, front}
use Rattle.sheet.specs.declared.fault.ScanFault.{ScanFault}
use Rattle.sheet.specs.declared.lexeme.Lexeme.{Lexeme}

-- what was cut off by the definition
abbrev pub shape : Result Lexeme ScanFault → Front
shape (Ok x) = token (kind_of x) (length (text_of x))
shape (Err f) = fault f

-- a lexeme's bytes are the first of the text, and it has some
abbrev pub Part : Result Lexeme ScanFault → List ℕ → Type 0
Part (Ok x) s = (text_of x ≡ take (length (text_of x)) s) × (0 < length (text_of x))
Part (Err f) s = Unit {0}

-- r is what the definition wants, cut from the front of s
pub record Cut (want : Front) (s : List ℕ) (r : Result Lexeme ScanFault) : Type 0 where
  pub shaped : shape r ≡ want
  pub part : Part r s

-- the same of what stands at the front of s; nothing of it where that is a blank
abbrev pub CutUnlessBlank : List ℕ → Result (Option Lexeme) ScanFault → Type 0
CutUnlessBlank s (Ok (Some x)) = Cut (front s) s (Ok x)
CutUnlessBlank s (Ok None) = class_of (slice_index s 0) ≡ Blank
CutUnlessBlank s (Err f) = Cut (front s) s (Err f)
