use Rattle.items.proofs.Grids.{unmarked, unmarked_has, same_as_none}
use Rattle.items.proofs.places.Places.none.Goals as goal

pub returns : goal.returns
returns c = record { nothing = unmarked_has; alone = same_as_none unmarked unmarked_has }
