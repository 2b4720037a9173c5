use Rattle.table.proofs.Comparisons.{decides_both, decides_first}
use Rattle.table.proofs.at.At.is_good.Goals as goal

pub returns-then-start_good : goal.returns-then-start_good
returns-then-start_good g c =
    decides_both c.successors_once.result c.successors_defined.result c.successors_once.ensures c.if-successors_once.true
    (decides_both c.start_good.result c.successors_defined.result c.start_good.ensures c.if-start_good.true c.successors_defined.ensures)

pub returns-else-start_good : goal.returns-else-start_good
returns-else-start_good g c =
    decides_both c.successors_once.result c.start_good.result c.successors_once.ensures c.if-successors_once.true
    (decides_first c.start_good.result c.start_good.ensures c.if-start_good.false)
