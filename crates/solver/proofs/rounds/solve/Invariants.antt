use Rattle.std.proofs.Common.{◌-◌, ◌*◌, length, sum_by}
use Rattle.solver.specs.Rounds.{RisingTo}
use Rattle.solver.proofs.rounds.solve.Given as goal

abbrev pub invariant-loop : goal.invariant-loop
invariant-loop g l = RisingTo g.V.Value.kind l.rules l.values

-- how much higher the values can rise
abbrev pub decreases-loop : goal.decreases-loop
decreases-loop g l = length l.values * g.V.Value.CHAIN - sum_by g.V.Value.height l.values
