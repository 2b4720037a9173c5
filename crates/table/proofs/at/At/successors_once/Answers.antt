use Rattle.table.specs.States.{file}
use Rattle.table.proofs.AsDefined.{once_decides}
use Rattle.table.proofs.at.At.successors_once.Goals as goal

pub returns : goal.returns
returns g c = once_decides (file c.args.self.now.draft.now) c.args.self.now.q c.section.result.now c.section.ensures c.named_once.result c.named_once.ensures
