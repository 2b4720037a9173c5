use Rattle.std.proofs.Common.{ℕ, ◌<◌}
use Rattle.grammar.specs.Table.{EqualStates}
use Rattle.table.specs.Contents.{table_of}
use Rattle.table.specs.States.{file}
use Rattle.table.proofs.at.At.is_distinct.Given as goal

-- the states so far are others
abbrev pub invariant-loop-m : goal.invariant-loop-m
invariant-loop-m g l = (k : ℕ) → k < l.m → EqualStates (table_of (file l.self.draft.now)) k l.self.q → ⊥
