use Rattle.std.proofs.Common.{◌∙◌, arith}
use Rattle.items.proofs.Grids.{pair_in}
use Rattle.items.proofs.places.Places.of_pairs.Goals as goal

pub loop-pair-preserved : goal.loop-pair-preserved
loop-pair-preserved c =
    let (same, (cut, long), _) = c.in-Some.ensures.steps in
    let (some, _, wide, so_far) = c.loop-pair.invariant in (
      omega (arith, same, some),
      tt,
      same ∙ wide,
      λ i. pair_in c.loop-pair.places c.insert.new.self c.in-Some.pair.now _ _ i cut (long ∙ wide) (c.insert.ensures i) ∙ so_far i,
    )
