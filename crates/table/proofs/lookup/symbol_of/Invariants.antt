use Rattle.std.proofs.Common.{◌≡◌, ◌↔◌}
use mathlib.Core.List.{Memᴰ}
use Rattle.std.specs.Slice.Iter.{chunks_exact_rest, chunks_exact_size}
use Rattle.grammar.specs.Item.{Item, IsKernel}
use Rattle.frames.specs.declared.header.Section.TheVariants.{Kernel}
use Rattle.frames.specs.Raw.{section_of}
use Rattle.frames.specs.Views.{raw}
use Rattle.items.specs.Entries.{items}
use Rattle.table.specs.Contents.{grammar_of}
use Rattle.table.proofs.lookup.symbol_of.Given as goal

-- the places so far have no symbol after their dots
abbrev pub invariant-loop-entry : goal.invariant-loop-entry
invariant-loop-entry l =
    (goal.iterator-loop-entry).can_next l.entry-iterator
    × (goal.iterator-loop-entry).is_finite l.entry-iterator
    × (chunks_exact_size l.entry-iterator ≡ 2)
    × ((i : Item) → IsKernel (grammar_of (raw l.frames)) i
    → Memᴰ i (items (chunks_exact_rest l.entry-iterator)) ↔ Memᴰ i (items (section_of (raw l.frames) l.q Kernel)))
