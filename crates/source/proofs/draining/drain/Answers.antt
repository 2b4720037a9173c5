use Rattle.std.proofs.Common.{Ok, subst}
use Rattle.source.specs.Meaning.{Asked}
use Rattle.source.proofs.Drains.{drains_more}
use Rattle.source.proofs.draining.drain.Goals as goal

pub loop-tokens-preserved : goal.loop-tokens-preserved
loop-tokens-preserved g c =
    let m = g.S.Source.meaning in
    let there = m c.loop-tokens.source in
    let then = m c.next.new.self in
    drains_more (m c.args.source.now) c.args.list.now c.loop-tokens.tokens c.loop-tokens.list there c.loop-tokens.invariant c.loop-tokens-test.true c.in-Ok-Given.token then (subst (λ e. Asked there (Ok e) then) c.in-Ok-Given.field-0-is c.in-Ok-Given.ensures)
