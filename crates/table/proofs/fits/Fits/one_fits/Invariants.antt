use Rattle.std.proofs.Common.{ℕ, ◌<◌}
use Rattle.table.specs.Fitted.{MeetsLower}
use Rattle.table.specs.States.{file}
use Rattle.table.proofs.fits.Fits.one_fits.Given as goal

-- the rules so far meet no lower one
abbrev pub invariant-loop-r : goal.invariant-loop-r
invariant-loop-r g l = (k : ℕ) → k < l.r → MeetsLower (file l.self.at.draft.now) l.self.sets k → ⊥
