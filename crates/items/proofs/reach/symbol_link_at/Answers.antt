use Rattle.std.proofs.Common.{rules}
use Rattle.items.proofs.Reached.{symbol_link_told}
use Rattle.items.proofs.reach.symbol_link_at.Goals as goal

pub returns : goal.returns
returns c = symbol_link_told c.args.at c.args.rules.now c.args.rule c.get.result _ c.get.ensures.lookup (search rules)
