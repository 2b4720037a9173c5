use Rattle.std.proofs.Common.{ℕ, ◌<◌, ◌≤◌}
use Rattle.table.specs.States.{file, SuccessorDefined}
use Rattle.table.proofs.at.At.successors_defined.Given as goal

-- the successors by the symbols so far are as defined
abbrev pub invariant-loop-symbol : goal.invariant-loop-symbol
invariant-loop-symbol g l = (k : ℕ) → 1 ≤ k → k < l.symbol → SuccessorDefined (file l.self.draft.now) l.self.q k
