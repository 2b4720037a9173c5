use Rattle.std.proofs.Common.{◌≡◌}
use Rattle.std.specs.Slice.Iter.{chunks_exact_rest, chunks_exact_size}
use Rattle.table.specs.States.{once_in}
use Rattle.table.proofs.lookup.named_once.Given as goal

-- what is left to test decides
abbrev pub invariant-loop-entry : goal.invariant-loop-entry
invariant-loop-entry l = (chunks_exact_size l.entry-iterator ≡ 2) × (once_in l.entries (chunks_exact_rest l.entry-iterator) ≡ once_in l.entries l.entries)
