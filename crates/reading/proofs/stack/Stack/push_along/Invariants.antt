use Rattle.std.proofs.Common.{◌≡◌, ℕ, List, ◌++◌}
use Rattle.std.specs.Slice.Iter.{iter_rest}
use Rattle.std.specs.Iterator.Adapters.{rev_source}
use Rattle.table.specs.Checked.{contents}
use Rattle.table.specs.Contents.{table_of}
use Rattle.reading.specs.Parts.{states}
use Rattle.reading.specs.Stack.{Pushes}
use Rattle.reading.proofs.stack.Stack.push_along.Given as goal

-- the states for the symbols gone through so far are on the stack
abbrev pub invariant-loop-symbol : goal.invariant-loop-symbol
invariant-loop-symbol l =
    (ω : List ℕ)
    × ((l.symbols ≡ iter_rest (rev_source l.symbol-iterator) ++ ω) × Pushes (table_of (contents l.table)) ω (states l.initial.self) (states l.self))
