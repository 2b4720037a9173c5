use Rattle.table.proofs.Verdicts.{verdict_is_one, ok_accepts}
use Rattle.table.proofs.Files.{accepted_is_canonical, conflict_is_not_LL}
use Rattle.table.proofs.Causes.{ok_without, answers_not_ll}
use Rattle.table.proofs.theorems.verdicts_stand.Goals as goal

pub returns : goal.returns
returns c = (verdict_is_one, ok_accepts, ok_without, accepted_is_canonical, conflict_is_not_LL, answers_not_ll)
