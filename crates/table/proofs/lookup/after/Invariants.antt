use Rattle.std.proofs.Common.{◌≡◌, ℕ, List, ◌++◌, Some}
use Rattle.std.specs.Slice.Iter.{iter_rest}
use Rattle.std.specs.Iterator.Adapters.{rev_source}
use Rattle.frames.specs.Views.{raw}
use Rattle.table.specs.Contents.{table_of}
use Rattle.table.specs.States.{after_in}
use Rattle.table.proofs.lookup.after.Given as goal

-- the symbols gone through so far lead to the state
abbrev pub invariant-loop-symbol : goal.invariant-loop-symbol
invariant-loop-symbol l =
    (ω : List ℕ) × ((l.symbols ≡ iter_rest (rev_source l.symbol-iterator) ++ ω) × (after_in (table_of (raw l.frames)) l.q ω ≡ Some l.state))
