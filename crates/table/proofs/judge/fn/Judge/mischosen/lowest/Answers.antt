use Rattle.std.proofs.Common.{Decides, subst}
use Rattle.table.specs.declared.at.At.{At}
use Rattle.table.specs.Rows.{ChoicesGood}
use Rattle.table.specs.States.{file}
use Rattle.table.proofs.judge.fn.Judge.mischosen.lowest.Goals as goal

pub returns : goal.returns
returns g c = subst (λ (a : At g.row.K). Decides c.choices_good.result (ChoicesGood (file a.draft.now) a.q)) c.new.ensures c.choices_good.ensures
