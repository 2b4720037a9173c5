-- What is promised of the tokens of a sheet.
use Rattle.std.specs.Prelude.{◌≡◌, ℕ, List}
use Rattle.std.specs.List.{AllByRecursion}
use Rattle.source.specs.Meaning.{Last}
use Rattle.sheet.specs.Places.{Stands, Stops}
use Rattle.sheet.specs.Reads.{Reads}
use Rattle.sheet.specs.Scan.{Spot, Scanned}
use Rattle.sheet.specs.declared.fault.ScanFault.{ScanFault}

-- each token stands in the sheet where its place says, the tokens are those that the relation names, and it names no others
pub record SheetLaw (sheet : List ℕ) (m : Scanned) : Type 0 where
  pub stands : AllByRecursion (Stands sheet) m.spots
  pub stops : Stops sheet m.last
  pub reads : Reads sheet (1, 1) m.spots m.last
  pub alone : (ts : List Spot) (l : Last ScanFault) → Reads sheet (1, 1) ts l → m ≡ record { spots = ts; last = l }
