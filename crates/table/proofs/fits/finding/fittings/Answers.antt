use Rattle.std.proofs.Common.{◌≡◌, ℕ, List, ap, ◌∙◌, arith, length-set}
use Rattle.words.specs.Sets.{member, no_words}
use Rattle.words.specs.declared.set.Words.{Words}
use Rattle.frames.specs.Views.{raw}
use Rattle.table.specs.Fitted.{fitting_words}
use Rattle.table.proofs.Fitting.{filled_more}
use Rattle.table.proofs.fits.finding.fittings.Goals as goal

pub loop-r-preserved : goal.loop-r-preserved
loop-r-preserved g c = (
  length-set c.loop-r.fits c.loop-r.r c.fitting.result ∙ c.loop-r.invariant.0,
  filled_more (λ (k : ℕ) (W : Words g.row.K). (w : List ℕ) → member W w ≡ member (fitting_words g.row.K (raw c.args.frames) c.args.q k) w) (no_words g.row.K)
      c.loop-r.fits c.loop-r.r c.fitting.result (omega (arith, c.loop-r-test.true, c.loop-r.invariant.0, c.requires.few))
      (λ w. ap (λ (W : Words g.row.K). member W w) c.fitting.ensures) c.loop-r.invariant.1,
)

pub returns : goal.returns
returns g c = record {
  many = c.loop-r.invariant.0;
  each = λ r l. c.loop-r.invariant.1 r (omega (arith, l, c.loop-r-test.false, c.requires.number));
}
