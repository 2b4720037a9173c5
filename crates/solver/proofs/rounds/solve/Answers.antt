use Rattle.std.proofs.Common.{◌≡◌, length, arith}
use Rattle.solver.proofs.Turns.{rising_none, least_all, room_shrinks}
use Rattle.solver.proofs.rounds.solve.Goals as goal

pub loop-init : goal.loop-init
loop-init g c γ rules size = rising_none g.V.Value.laws γ c.clear.new.values size c.clear.ensures

-- a round that changed something raised the sum, which has a bound
pub loop-smaller : goal.loop-smaller
loop-smaller g c =
    let same : length c.round.new.values ≡ length c.loop.values = omega arith in
    room_shrinks g.V.Value.laws c.loop.values c.round.new.values same c.loop-test.ensures.says

pub returns-clause-least : goal.returns-clause-least
returns-clause-least g c γ rules size = least_all g.V.Value.laws γ c.args.rules.now c.round.new.values rules size (c.round.ensures.rising γ rules size) c.loop-test.ensures.says
