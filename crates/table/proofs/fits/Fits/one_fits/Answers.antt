use Rattle.std.proofs.Common.{arith}
use Rattle.std.proofs.lemmas.Bool.{false≢true}
use Rattle.table.specs.Fitted.{MeetsLower}
use Rattle.table.specs.States.{file}
use Rattle.table.proofs.Drafting.{numbers, p_is}
use Rattle.table.proofs.Starting.{decides_no, decides_yes}
use Rattle.table.proofs.Fitting.{none_more, lower_two, two_lower, fitted_by}
use Rattle.table.proofs.fits.Fits.one_fits.Goals as goal

pub meets_lower-requires : goal.meets_lower-requires
meets_lower-requires g c =
    let d = c.args.self.now.at.draft.now in
    omega (arith, c.loop-r-test.true, p_is d, (numbers d).p_high)

pub returns-then-meets_lower : goal.returns-then-meets_lower
returns-then-meets_lower g c =
    let f = c.args.self.now in
    let d = f.at.draft.now in
    decides_no (λ none. none (lower_two (file d) d.formed f.at.q f.at.within f.sets (fitted_by (file d) d.formed f.at.q f.at.within f.at.cut_is f.sets f.many f.each) c.loop-r.r
    (omega (arith, c.loop-r-test.true, p_is d)) (c.meets_lower.ensures.0 c.if-meets_lower.true)))

pub loop-r-preserved : goal.loop-r-preserved
loop-r-preserved g c =
    none_more (MeetsLower (file c.args.self.now.at.draft.now) c.args.self.now.sets) c.loop-r.r (λ m. false≢true (c.if-meets_lower.ensures.1 m)) c.loop-r.invariant

pub returns : goal.returns
returns g c =
    let f = c.args.self.now in
    let d = f.at.draft.now in
    decides_yes (λ t.
    let (r, l, m) = two_lower (file d) d.formed f.at.q f.at.within f.sets (fitted_by (file d) d.formed f.at.q f.at.within f.at.cut_is f.sets f.many f.each) t in
    c.loop-r.invariant r (omega (arith, l, c.loop-r-test.false, p_is d)) m)
