use Rattle.std.proofs.Common.{ℕ, ◌<◌, true}
use Rattle.table.proofs.lowest.lowest.Given as goal

-- the numbers so far pass
abbrev pub invariant-loop-k : goal.invariant-loop-k
invariant-loop-k g l = (j : ℕ) → j < l.k → goal.F-post g l.passes j true
