use Rattle.std.proofs.Common.{arith}
use Rattle.reading.proofs.Running.{begins, goes_on, ends_all, ends_over, ends_refused}
use Rattle.reading.proofs.reading.Reading.make_moves.Goals as goal

pub loop-moves-init : goal.loop-moves-init
loop-moves-init g c = begins c.args.self.now (g.S.Source.meaning c.args.source.now) c.args.n c.args.list.now

pub returns-in-Over : goal.returns-in-Over
returns-in-Over g c = ends_over c.loop-moves.invariant c.requires.running c.requires.room c.loop-moves-test.true c.in-Over.is

pub returns-in-Err : goal.returns-in-Err
returns-in-Err g c = ends_refused c.loop-moves.invariant c.requires.running c.requires.room c.loop-moves-test.true c.in_default.is c.in-Err.ensures

pub loop-moves-preserved : goal.loop-moves-preserved
loop-moves-preserved g c =
    let so_far = c.loop-moves.invariant in
    let written = c.write_rule-rules.ensures.written so_far.written c.args.list.now so_far.counted so_far.list_is in
    goes_on so_far c.in-Ok.ensures c.write_rule-rules.ensures.rules written

pub returns : goal.returns
returns g c = ends_all c.loop-moves.invariant c.requires.running c.requires.room (omega (arith, c.loop-moves-test.false))
