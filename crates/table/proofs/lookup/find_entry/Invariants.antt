use Rattle.std.proofs.Common.{◌≡◌, ℕ, ◌+◌, [], ◌∷◌, length}
use Rattle.std.specs.Slice.Iter.{chunks_exact_rest, chunks_exact_size}
use Rattle.frames.specs.Form.{word_of}
use Rattle.lookahead.specs.Entries.{choices_in}
use Rattle.table.specs.Contents.{successor_in, choice_in}
use Rattle.table.proofs.lookup.find_entry.Given as goal

-- the entries so far are for other keys
abbrev pub invariant-loop-entry : goal.invariant-loop-entry
invariant-loop-entry l =
    (goal.iterator-loop-entry).can_next l.entry-iterator
    × (goal.iterator-loop-entry).is_finite l.entry-iterator
    × (chunks_exact_size l.entry-iterator ≡ length l.key + 1)
    × ((X : ℕ) → l.key ≡ X ∷ [] → successor_in X (chunks_exact_rest l.entry-iterator) ≡ successor_in X l.entries)
    × ((A a b : ℕ) → l.key ≡ A ∷ a ∷ b ∷ []
    → choice_in A (word_of a b) (choices_in (chunks_exact_rest l.entry-iterator)) ≡ choice_in A (word_of a b) (choices_in l.entries))
