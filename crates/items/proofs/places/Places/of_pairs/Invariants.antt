use Rattle.std.proofs.Common.{◌≡◌, ◌&&◌, ◌||◌}
use Rattle.std.specs.Slice.Iter.{chunks_exact_rest, chunks_exact_size}
use Rattle.grammar.specs.Item.{Item}
use Rattle.items.specs.Entries.{mentions}
use Rattle.items.specs.Sets.{has, in_grid}
use Rattle.items.proofs.places.Places.of_pairs.Given as goal

-- the set has the pairs so far, and those that are left come in
abbrev pub invariant-loop-pair : goal.invariant-loop-pair
invariant-loop-pair l =
    (goal.iterator-loop-pair).can_next l.pair-iterator
    × (goal.iterator-loop-pair).is_finite l.pair-iterator
    × (chunks_exact_size l.pair-iterator ≡ 2)
    × ((i : Item) → (has l.places i || (in_grid i && mentions (chunks_exact_rest l.pair-iterator) i)) ≡ (in_grid i && mentions l.pairs i))
