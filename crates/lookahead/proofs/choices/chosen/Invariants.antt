use Rattle.std.proofs.Common.{◌≡◌}
use Rattle.std.specs.Slice.Iter.{chunks_exact_rest, chunks_exact_size}
use Rattle.words.specs.Sets.{no_words}
use Rattle.lookahead.specs.Stored.{with_choices}
use Rattle.lookahead.proofs.choices.chosen.Given as goal

-- with what is left put in, the set is the whole
abbrev pub invariant-loop-entry : goal.invariant-loop-entry
invariant-loop-entry g l =
    (chunks_exact_size l.entry-iterator ≡ 4)
    × (with_choices l.rule l.found (chunks_exact_rest l.entry-iterator) ≡ with_choices l.rule (no_words g.row.K) l.entries)
