use Rattle.std.proofs.Common.{◌≡◌}
use Rattle.std.specs.Slice.Iter.{chunks_exact_rest, chunks_exact_size}
use Rattle.table.specs.States.{LeadsTo}
use Rattle.table.proofs.at.rows.leads_to.Given as goal

-- what is left has the state if the list has it
abbrev pub invariant-loop-entry : goal.invariant-loop-entry
invariant-loop-entry l =
    (chunks_exact_size l.entry-iterator ≡ 2)
    × (LeadsTo l.entries l.q → LeadsTo (chunks_exact_rest l.entry-iterator) l.q)
    × (LeadsTo (chunks_exact_rest l.entry-iterator) l.q → LeadsTo l.entries l.q)
