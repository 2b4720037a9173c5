use Rattle.items.proofs.Closed.{active_told}
use Rattle.items.proofs.closing.active.Goals as goal

pub returns : goal.returns
returns c =
    active_told c.args.rules.now c.args.places.now c.write_links.new.links c.write_links.ensures.long c.write_links.ensures.each
    c.solve.new.values c.solve.ensures.as_many c.solve.ensures.least
