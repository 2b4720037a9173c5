use Rattle.std.proofs.Common.{subst}
use Rattle.frames.specs.Raw.{Raw}
use Rattle.table.specs.Rows.{Verdict}
use Rattle.table.proofs.judging.check.Goals as goal

pub returns : goal.returns
returns c = subst (λ (R : Raw). Verdict R c.judge.result) c.new.ensures c.judge.ensures
