use Rattle.std.proofs.Common.{arith}
use Rattle.table.proofs.Drafting.{numbers, p_is}
use Rattle.table.proofs.fits.Fits.new.Goals as goal

pub fittings-sets-requires : goal.fittings-sets-requires
fittings-sets-requires g c =
    let d = c.args.at.draft.now in
    (omega arith, (omega arith, (omega (arith, p_is d, (numbers d).p_high), p_is d)))
