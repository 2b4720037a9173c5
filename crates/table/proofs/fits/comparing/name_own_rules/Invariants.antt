use Rattle.std.proofs.Common.{◌≡◌}
use Rattle.std.specs.Slice.Iter.{chunks_exact_rest, chunks_exact_size}
use Rattle.frames.specs.Views.{raw}
use Rattle.table.specs.Fitted.{own_rules}
use Rattle.table.proofs.fits.comparing.name_own_rules.Given as goal

-- the entries so far name rules of their nonterminals
abbrev pub invariant-loop-entry : goal.invariant-loop-entry
invariant-loop-entry l =
    (chunks_exact_size l.entry-iterator ≡ 4)
    × (own_rules (raw l.frames) (chunks_exact_rest l.entry-iterator) ≡ own_rules (raw l.frames) l.entries)
