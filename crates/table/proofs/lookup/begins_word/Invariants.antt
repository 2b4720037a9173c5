use Rattle.std.proofs.Common.{◌≡◌, ℕ, List, ◌↔◌}
use Rattle.std.specs.Slice.Iter.{chunks_exact_rest, chunks_exact_size}
use Rattle.frames.specs.Form.{word_of}
use Rattle.frames.specs.declared.header.Section.TheVariants.{Words}
use Rattle.frames.specs.Raw.{section_of}
use Rattle.frames.specs.Views.{raw}
use Rattle.lookahead.specs.Entries.{WordIn}
use Rattle.table.specs.LookUps.{BeginsWith}
use Rattle.table.proofs.lookup.begins_word.Given as goal

-- the words so far begin otherwise
abbrev pub invariant-loop-entry : goal.invariant-loop-entry
invariant-loop-entry l =
    (goal.iterator-loop-entry).can_next l.entry-iterator
    × (goal.iterator-loop-entry).is_finite l.entry-iterator
    × (chunks_exact_size l.entry-iterator ≡ 2)
    × ((y : List ℕ) → BeginsWith y (word_of l.front.first l.front.second)
    → WordIn (chunks_exact_rest l.entry-iterator) y ↔ WordIn (section_of (raw l.frames) l.q Words) y)
