-- Where the tokens of a sheet stand, counted byte by byte.
use Rattle.std.specs.Prelude.{◌≡◌, ℕ, ◌+◌, cond, List, ◌++◌, fold, ◌==◌}
use Rattle.source.specs.Meaning.{Last, ends, faults}
use Rattle.source.specs.declared.token.Place.{Place}
use Rattle.source.specs.declared.token.Place.TheVariants.{Two}
use Rattle.sheet.specs.Scan.{Spot}
use Rattle.sheet.specs.declared.fault.ScanFault.{ScanFault}

-- a line and a column
abbrev pub Position : Type 0
Position = ℕ × ℕ

-- as a source has it
abbrev pub place : Position → Place
place p = Two p.0 p.1

-- a line end moves to the front of the next line, and any other byte by a column
abbrev pub moved : Position → ℕ → Position
moved p b = cond (b == 10) (p.0 + 1, 1) (p.0, p.1 + 1)

-- the position behind these bytes
abbrev pub along : Position → List ℕ → Position
along p bs = fold moved p bs

-- the place behind the first bytes of a sheet, which begins at line 1, column 1
abbrev pub behind : List ℕ → Place
behind bs = place (along (1, 1) bs)

-- the token's bytes are a part of the sheet, and it has the place of the first of them
pub record Stands (sheet : List ℕ) (t : Spot) : Type 0 where
  pub earlier : List ℕ
  pub later : List ℕ
  pub parts : sheet ≡ earlier ++ (t.text ++ later)
  pub placed : t.place ≡ behind earlier

-- the end comes just past the last byte, and a fault where some byte or the end of the sheet stands
abbrev pub Stops : List ℕ → Last ScanFault → Type 0
Stops sheet (ends p) = p ≡ behind sheet
Stops sheet (faults f) = (earlier : List ℕ) × (later : List ℕ) × (sheet ≡ earlier ++ later) × (f.place ≡ behind earlier)
