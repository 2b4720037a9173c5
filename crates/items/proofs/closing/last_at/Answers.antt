use Rattle.std.proofs.Common.{rules}
use Rattle.items.proofs.Closed.{last_told}
use Rattle.items.proofs.closing.last_at.Goals as goal

pub returns : goal.returns
returns c = last_told c.args.rules.now c.args.rule c.get.result _ c.get.ensures.lookup (search rules)
