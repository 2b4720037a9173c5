use Rattle.std.proofs.Common.{ℕ, ap, ◌∙◌}
use Rattle.frames.specs.Views.{raw}
use Rattle.table.specs.Contents.{table_of}
use Rattle.table.specs.States.{answered}
use Rattle.table.proofs.fits.finding.behind_left.Goals as goal

pub returns : goal.returns
returns c = c.successor_of.ensures ∙ ap (λ (A : ℕ). answered ((table_of (raw c.args.frames)).next c.args.q A)) c.left.ensures
