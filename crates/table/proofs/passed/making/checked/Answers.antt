use Rattle.std.proofs.Common.{sym, subst}
use Rattle.table.specs.Rows.{AcceptedFile}
use Rattle.table.proofs.Verdicts.{ok_accepts}
use Rattle.table.proofs.passed.making.checked.Goals as goal

pub invariant_of-result-clause-good : goal.invariant_of-result-clause-good
invariant_of-result-clause-good c = ∣ subst AcceptedFile (sym c.new-frames.ensures) ((ok_accepts _).0 c.requires) ∣₁
