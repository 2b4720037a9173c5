use Rattle.items.proofs.Reached.{reach_told}
use Rattle.items.proofs.reach.reachable.Goals as goal

pub returns : goal.returns
returns c =
    λ g ok A n.
    reach_told c.args.rules.now c.write_reach_links.new.links c.write_reach_links.ensures.long c.write_reach_links.ensures.each g ok
    c.solve.new.values c.solve.ensures.as_many c.solve.ensures.least A n
