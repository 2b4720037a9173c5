use Rattle.std.proofs.Common.{◌≡◌, ℕ, sym, ◌∙◌, below_more}
use Rattle.std.proofs.lemmas.Bool.{not-false}
use Rattle.words.specs.Sets.{no_words}
use Rattle.words.specs.WordLaws.{rows_decide}
use Rattle.lookahead.specs.Stored.{with_choices}
use Rattle.table.specs.Fitted.{set_of}
use Rattle.table.proofs.fits.Fits.chosen_as.Goals as goal

pub loop-r-preserved : goal.loop-r-preserved
loop-r-preserved g c =
    below_more (λ (k : ℕ). with_choices k (no_words g.row.K) c.args.entries.now ≡ set_of c.args.self.now.sets k) c.loop-r.r c.loop-r.invariant
    (sym c.chosen.ensures.is ∙ (rows_decide g.row.K c.chosen.result c.of.result).0 (not-false _ (sym c.ne.ensures ∙ c.if-ne.false)) ∙ c.of.ensures)
