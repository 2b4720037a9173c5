use Rattle.std.proofs.Common.{◌≡◌, ℕ, ◌<◌, get_or}
use Rattle.solver.proofs.rounds.clear.Given as goal

abbrev pub invariant-loop-value : goal.invariant-loop-value
invariant-loop-value g l = let o = g.V.Value.kind in (i : ℕ) → i < l.value-index → get_or l.values i o.bottom ≡ o.bottom
