-- The listing of a sheet: a line for each token, and one for the last entry.
use Rattle.std.specs.Prelude.{ℕ, cond, List, [], ◌∷◌, ◌++◌, length, nat_le}
use Rattle.source.specs.Meaning.{Last, ends, faults}
use Rattle.sheet.specs.Scan.{Spot, Scanned, scan}
use Rattle.sheet.specs.declared.fault.ScanFault.{ScanFault}
use Rattle.listing.specs.Lines.{spot_line, fault_line, end_line, too_long_line}

-- the line of the last entry
abbrev pub last_line : Last ScanFault → List ℕ
last_line (ends p) = end_line p
last_line (faults f) = fault_line f

-- each line is closed by a line end
abbrev pub lines : List Spot → Last ScanFault → List ℕ
lines [] l = last_line l ++ 10 ∷ []
lines (t ∷ ts) l = spot_line t ++ (10 ∷ lines ts l)

-- the listing of what a scanner has to come
abbrev pub listing : Scanned → List ℕ
listing m = lines m.spots m.last

-- the listing of a sheet, or the one line that refuses it
abbrev pub sheet_listing : List ℕ → List ℕ
sheet_listing sheet =
    cond (nat_le (length sheet) 60000) (listing (scan sheet)) (too_long_line (record { length = length sheet }) ++ 10 ∷ [])
