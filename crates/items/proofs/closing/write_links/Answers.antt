use Rattle.std.proofs.Common.{◌<◌, length, arith, rules}
use Rattle.items.specs.Closures.{link_at}
use Rattle.items.proofs.Made.{one_written, all_written}
use Rattle.items.proofs.closing.write_links.Goals as goal

pub loop-j-init : goal.loop-j-init
loop-j-init c = (search rules, λ k h d. absurd (omega (arith, h)))

pub loop-j-preserved : goal.loop-j-preserved
loop-j-preserved c =
    let (long, before) = c.loop-j.invariant in
    let within : c.loop-j.j < length c.loop-j.links = omega (arith, long, c.loop-j-test.true) in
    (search rules, one_written (link_at c.args.rules.now c.args.places.now) c.loop-j.links c.loop-j.j _ within c.link_at.ensures before)

pub returns-clause-each : goal.returns-clause-each
returns-clause-each c =
    let (long, all) = c.loop-j.invariant in
    all_written (link_at c.args.rules.now c.args.places.now) c.loop-j.links 487 long (λ k h d. all k (omega (arith, h, c.loop-j-test.false)) d)
