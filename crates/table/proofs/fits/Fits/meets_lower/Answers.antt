use Rattle.std.proofs.Common.{ℕ, sym, ◌∙◌, arith, below_more}
use Rattle.std.proofs.lemmas.Bool.{true≢false}
use Rattle.table.specs.Fitted.{Share}
use Rattle.table.specs.States.{file}
use Rattle.table.proofs.Starting.{decides_no, decides_yes}
use Rattle.table.proofs.fits.Fits.meets_lower.Goals as goal

pub returns-then-share : goal.returns-then-share
returns-then-share g c = decides_yes (c.loop-lower.lower, c.loop-lower-test.true, c.share.ensures.0 c.if-share.true)

pub loop-lower-preserved : goal.loop-lower-preserved
loop-lower-preserved g c =
    below_more (λ (k : ℕ). Share (file c.args.self.now.at.draft.now) c.args.self.now.sets k c.args.r → ⊥) c.loop-lower.lower c.loop-lower.invariant
    (λ s. true≢false (sym (c.share.ensures.1 s) ∙ c.if-share.false))

pub returns : goal.returns
returns g c = decides_no (λ (m, l, s). c.loop-lower.invariant m (omega (arith, c.loop-lower-test.false, l)) s)
