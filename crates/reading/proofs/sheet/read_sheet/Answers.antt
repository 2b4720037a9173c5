use Rattle.std.proofs.Common.{refl}
use mathlib.Core.Logic.{∥∥₁_map}
use Rattle.table.specs.Checked.{is_accepted}
use Rattle.reading.proofs.Sheets.{sheet_read, sheet_kept}
use Rattle.reading.proofs.sheet.read_sheet.Goals as goal

pub returns-clause-read : goal.returns-clause-read
returns-clause-read g c = sheet_read c.open-reading.ensures c.min-moves.ensures c.run-ran.ensures c.close-view.ensures.shows refl

pub returns-clause-kept : goal.returns-clause-kept
returns-clause-kept g c =
    ∥∥₁_map (is_accepted c.args.table)
    (λ good. sheet_kept _ good (sheet_read c.open-reading.ensures c.min-moves.ensures c.run-ran.ensures c.close-view.ensures.shows refl))
