-- The lines of a listing.
use Rattle.std.specs.Prelude.{ℕ, Bool, true, false, Ok, Err, Result, cond, ◌||◌, List, [], ◌∷◌, ◌++◌, codes, decimal, ◌==◌, nat_le, slice_index_or}
use Rattle.sheet.specs.Faults.{fault_number, reason_of}
use Rattle.sheet.specs.Scan.{Spot}
use Rattle.sheet.specs.Scanners.{spot_of}
use Rattle.sheet.specs.declared.fault.ScanFault.{ScanFault}
use Rattle.source.specs.Refusals.{too_long}
use Rattle.source.specs.Shown.{place_text, reason_too_long}
use Rattle.source.specs.declared.fault.Faulted.{Faulted}
use Rattle.source.specs.declared.fault.TooLong.{TooLong}
use Rattle.sheet.specs.declared.lexeme.PlacedLexeme.{PlacedLexeme}
use Rattle.source.specs.declared.token.Entry.{Entry}
use Rattle.source.specs.declared.token.Entry.TheVariants.{Given, End}
use Rattle.source.specs.declared.token.Place.{Place}
use Rattle.listing.specs.Escapes.{escaped_text}
use Rattle.listing.specs.declared.line.Line.{Line}
use Rattle.listing.specs.declared.line.Line.TheVariants as line

-- the names of the kinds, from 0, which is none
abbrev pub kind_names : List (List ℕ)
kind_names =
    [] ∷ codes "number" ∷ codes "word" ∷ codes "name" ∷ codes "colon" ∷ codes "equals" ∷ codes "comma" ∷ codes "semicolon" ∷ codes "minus" ∷ codes "zone" ∷ codes "curve" ∷ codes "set" ∷ codes "from" ∷ codes "to" ∷ codes "off" ∷ codes "line-end" ∷ codes "comment" ∷ []

-- the name of a kind
abbrev pub kind_name : ℕ → List ℕ
kind_name kind = slice_index_or kind_names kind []

-- numbers, words, names and comments are listed with their text
abbrev pub has_text : ℕ → Bool
has_text kind = nat_le kind 3 || kind == 16

-- a blank and the text, or nothing
abbrev pub tail_text : ℕ → List ℕ → List ℕ
tail_text kind text = cond (has_text kind) (codes " " ++ escaped_text text) []

-- LINE:COLUMN KIND NAME, and the text where it is listed
abbrev pub spot_line : Spot → List ℕ
spot_line t =
    place_text t.place ++ (codes " " ++ (decimal t.kind ++ (codes " " ++ (kind_name t.kind ++ tail_text t.kind t.text))))

-- end LINE:COLUMN
abbrev pub end_line : Place → List ℕ
end_line p = codes "end " ++ place_text p

-- refused NUMBER LINE:COLUMN: reason
abbrev pub fault_line : Faulted ScanFault → List ℕ
fault_line f =
    codes "refused " ++ (decimal (fault_number f.fault) ++ (codes " " ++ (place_text f.place ++ (codes ": " ++ reason_of f.fault))))

-- refused 18 LENGTH: reason
abbrev pub too_long_line : TooLong → List ℕ
too_long_line e = codes "refused " ++ (decimal (too_long e).number ++ (codes " " ++ (decimal e.length ++ (codes ": " ++ reason_too_long))))

-- what is printed of each line
abbrev pub line_text : Line → List ℕ
line_text (line.Token x) = spot_line (spot_of x)
line_text (line.End p) = end_line p
line_text (line.Fault f) = fault_line f
line_text (line.TooLong e) = too_long_line e

-- the line for what a scanner gave
abbrev pub line_of : Result (Entry PlacedLexeme) (Faulted ScanFault) → Line
line_of (Ok (Given x)) = line.Token x
line_of (Ok (End p)) = line.End p
line_of (Err f) = line.Fault f

-- no line follows
abbrev pub last : Line → Bool
last (line.Token x) = false
last (line.End p) = true
last (line.Fault f) = true
last (line.TooLong e) = true
