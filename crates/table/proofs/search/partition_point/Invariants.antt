use Rattle.std.proofs.Common.{◌-◌, ◌<◌, ◌≤◌, true, false}
use Rattle.table.proofs.search.partition_point.Given as goal

-- just before `low` the test is true, and at `high` false
abbrev pub invariant-loop-low : goal.invariant-loop-low
invariant-loop-low g l =
    (l.low ≤ l.high)
    × (l.high ≤ l.count)
    × (0 < l.low → goal.F-post g l.is_before (l.low - 1) true)
    × (l.high < l.count → goal.F-post g l.is_before l.high false)

abbrev pub decreases-loop-low : goal.decreases-loop-low
decreases-loop-low g l = l.high - l.low
