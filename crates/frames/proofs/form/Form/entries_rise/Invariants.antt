use Rattle.std.proofs.Common.{◌≡◌, ◌%◌, [], length}
use Rattle.std.specs.Slice.Iter.{chunks_exact_rest, chunks_exact_size}
use Rattle.frames.specs.Form.{entries_rise, width}
use Rattle.frames.specs.Views.{raw}
use Rattle.frames.proofs.form.Form.entries_rise.Given as goal

-- what is left to test decides
abbrev pub invariant-loop-entry : goal.invariant-loop-entry
invariant-loop-entry l =
    (goal.iterator-loop-entry).can_next l.entry-iterator
    × (goal.iterator-loop-entry).is_finite l.entry-iterator
    × (chunks_exact_size l.entry-iterator ≡ width l.section)
    × (length (chunks_exact_rest l.entry-iterator) % width l.section ≡ length l.entries % width l.section)
    × (entries_rise (raw l.self.frames) l.section l.last (chunks_exact_rest l.entry-iterator) ≡ entries_rise (raw l.self.frames) l.section [] l.entries)
