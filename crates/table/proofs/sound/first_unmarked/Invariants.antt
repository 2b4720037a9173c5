use Rattle.std.proofs.Common.{ℕ, ◌+◌, ◌<◌}
use Rattle.table.specs.Marks.{Unmarked}
use Rattle.table.proofs.sound.first_unmarked.Given as goal

-- the nonterminals so far are marked
abbrev pub invariant-loop-a : goal.invariant-loop-a
invariant-loop-a l = (k : ℕ) → k < 32 + l.a → Unmarked l.n l.marks k → ⊥
