use Rattle.std.proofs.Common.{◌<◌, ◌≤◌, take, MatchBool, sum_by}
use Rattle.solver.specs.Rounds.{RisingTo, Settled}
use Rattle.solver.proofs.rounds.round.Given as goal

abbrev pub invariant-loop-rule : goal.invariant-loop-rule
invariant-loop-rule g l =
    let o = g.V.Value.kind in
    let height = g.V.Value.height in
    RisingTo o l.rules l.values × (sum_by height l.initial.values ≤ sum_by height l.values)
    × MatchBool l.changed (sum_by height l.initial.values < sum_by height l.values) (Settled o (take l.rule-index l.rules) l.values)
