use Rattle.grammar.proofs.Least.{least_is_productive, least_is_first}
use Rattle.grammar.proofs.Reachable.{reachable_is_found}
use Rattle.grammar.proofs.equations_stand.Goals as goal

pub returns : goal.returns
returns g c = (least_is_productive _, least_is_first _, reachable_is_found)
