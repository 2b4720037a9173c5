use Rattle.std.proofs.Common.{◌≡◌, ℕ, ◌<◌, List, length}
use Rattle.words.specs.Sets.{member}
use Rattle.frames.specs.Views.{raw}
use Rattle.table.specs.Fitted.{fitting_words, set_of}
use Rattle.table.proofs.fits.finding.fittings.Given as goal

-- the rules so far have their words
abbrev pub invariant-loop-r : goal.invariant-loop-r
invariant-loop-r g l =
    (length l.fits ≡ 60) × ((k : ℕ) → k < l.r → (w : List ℕ) → member (set_of l.fits k) w ≡ member (fitting_words g.row.K (raw l.frames) l.q k) w)
