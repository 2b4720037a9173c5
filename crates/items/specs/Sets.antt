-- Sets of places.
use Rattle.std.specs.Prelude.{◌+◌, ◌*◌, Bool, false, ◌&&◌, nat_lt, slice_index_or}
use mathlib.Core.Bool.{beq}
use lib.Pointwise.{pointwise}
use Rattle.grammar.specs.Item.{Item}
use Rattle.items.specs.declared.places.Places.{Places}
pub use Rattle.items.specs.Entries.{same_item}

-- The item lies within the bounds of a set: a rule up to 60, a dot up to 6.
abbrev pub in_grid : Item → Bool
in_grid i = nat_lt i.rule 61 && nat_lt i.dot 7

-- The item is in the set.
abbrev pub has : Places → Item → Bool
has s i = nat_lt i.dot 7 && slice_index_or s.marks (7 * i.rule + i.dot) false

-- What `==` of two sets answers.
abbrev pub alike : Places → Places → Bool
alike s t = pointwise beq s.marks t.marks
