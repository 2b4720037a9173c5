-- The tokens of a sheet as a function: from the front of a text, one after the other. `Reads` says the same as a relation.
use Rattle.std.specs.Prelude.{ℕ, zero, suc, ◌+◌, ◌-◌, cond, List, [], ◌∷◌, take, drop, ◌==◌, nat_le}
use Rattle.std.specs.List.{prefix_len}
use Rattle.byte_classes.specs.Classes.{class_of, letter, digit}
use Rattle.byte_classes.specs.Keywords.{keyword_of}
use Rattle.byte_classes.specs.declared.class.Class.{Class}
use Rattle.byte_classes.specs.declared.class.Class.TheVariants.{Letter, Digit, Blank, LineEnd, Mark, Quote, Hash, Other}
use Rattle.source.specs.Meaning.{Last, ends, faults}
use Rattle.source.specs.declared.token.Place.{Place}
use Rattle.source.specs.declared.token.Place.TheVariants.{Two}
use Rattle.sheet.specs.Kinds.{mark_kind, word_kind}
use Rattle.sheet.specs.Runs.{in_name, in_comment}
use Rattle.sheet.specs.declared.fault.ScanFault.{ScanFault}
use Rattle.sheet.specs.declared.fault.ScanFault.TheVariants.{NoClass, OpenQuote, Oversized}

-- what stands at the front of a text: nothing, a blank, a token of some kind and length, or a fault
pub data Front : Type 0 where
  ending : Front
  gap : Front
  token : (kind len : ℕ) → Front
  fault : ScanFault → Front

-- a word or a number has at most 32 bytes
abbrev pub limited : ℕ → ℕ → Front
limited kind len = cond (nat_le len 32) (token kind len) (fault Oversized)

-- letters, as many as there are
abbrev pub word_front : List ℕ → Front
word_front s = let n = prefix_len letter s in limited (word_kind (keyword_of (take n s))) n

-- digits, as many as there are
abbrev pub number_front : List ℕ → Front
number_front s = limited 1 (prefix_len digit s)

-- a hash, and all up to the line end
abbrev pub comment_front : List ℕ → Front
comment_front s = token 16 (prefix_len in_comment s)

-- what follows the n bytes of a name has to be its second quote
abbrev pub closed : ℕ → List ℕ → Front
closed n [] = fault OpenQuote
closed n (b ∷ bs) = cond (b == 34) (token 3 (n + 2)) (fault OpenQuote)

-- a quote, the name's bytes, and a quote
abbrev pub name_front : List ℕ → Front
name_front s = let n = prefix_len in_name (drop 1 s) in closed n (drop n (drop 1 s))

-- the front of a text whose first byte is of this class
abbrev pub by_class : Class → List ℕ → Front
by_class Letter s = word_front s
by_class Digit s = number_front s
by_class Blank s = gap
by_class LineEnd s = token 15 1
by_class (Mark m) s = token (mark_kind m) 1
by_class Quote s = name_front s
by_class Hash s = comment_front s
by_class Other s = fault NoClass

-- the front of any text
abbrev pub front : List ℕ → Front
front [] = ending
front (b ∷ bs) = by_class (class_of b) (b ∷ bs)

-- a token of a sheet: its kind, its bytes, and the place of the first of them
pub record Spot : Type 0 where
  pub kind : ℕ
  pub text : List ℕ
  pub place : Place

-- the tokens of a text, and the last entry
pub record Scanned : Type 0 where
  pub spots : List Spot
  pub last : Last ScanFault

-- a token, and then what follows it
abbrev pub before : Spot → Scanned → Scanned
before t m = record { spots = t ∷ m.spots; last = m.last }

-- no token, but the last entry
abbrev pub only : Last ScanFault → Scanned
only l = record { spots = []; last = l }

-- the line behind a token of this kind: only a line end moves it
abbrev pub line_after : ℕ → ℕ → ℕ
line_after kind line = cond (kind == 15) (line + 1) line

-- a line end is followed by column 1
abbrev pub column_after : ℕ → ℕ → ℕ → ℕ
column_after kind len column = cond (kind == 15) 1 (column + len)

-- the tokens of a text that has this at its front and begins at this line and column. `rest` has those of what follows: it takes
-- how many bytes behind the first still belong to the front, and the place behind the front
abbrev pub go_on : Front → List ℕ → ℕ → ℕ → (ℕ → ℕ → ℕ → Scanned) → Scanned
go_on ending s line column rest = only (ends (Two line column))
go_on gap s line column rest = rest 0 line (column + 1)
go_on (token kind len) s line column rest =
    before (record { kind = kind; text = take len s; place = Two line column }) (rest (len - 1) (line_after kind line) (column_after kind len column))
go_on (fault f) s line column rest = only (faults (record { fault = f; place = Two line column }))

-- the tokens of a text, but for its first bytes, of which `inside` belong to the token before
abbrev pub scan_from : ℕ → List ℕ → ℕ → ℕ → Scanned
scan_from inside [] line column = only (ends (Two line column))
scan_from (suc inside) (b ∷ bs) line column = scan_from inside bs line column
scan_from zero (b ∷ bs) line column = go_on (front (b ∷ bs)) (b ∷ bs) line column (λ k l c. scan_from k bs l c)

-- the tokens of a sheet
abbrev pub scan : List ℕ → Scanned
scan sheet = scan_from 0 sheet 1 1
