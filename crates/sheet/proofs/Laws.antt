-- What is promised of the tokens of a sheet, put together.
use Rattle.std.proofs.Common.{ℕ, List, [], length, refl, arith}
use Rattle.sheet.specs.Laws.{SheetLaw}
use Rattle.sheet.specs.Scan.{scan}
use Rattle.sheet.proofs.Alone.{alone}
use Rattle.sheet.proofs.Reading.{reads}
use Rattle.sheet.proofs.Standing.{standing}

pub sheet_law : (sheet : List ℕ) → SheetLaw sheet (scan sheet)
sheet_law sheet =
    let read = reads (length sheet) sheet 1 1 (omega arith) in
    let stand = standing sheet [] sheet (1, 1) (scan sheet).spots (scan sheet).last refl refl read in
    record { stands = stand.0; stops = stand.1; reads = read; alone = λ ts l r. alone sheet (1, 1) ts l r }
