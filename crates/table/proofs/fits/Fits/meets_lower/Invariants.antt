use Rattle.std.proofs.Common.{ℕ, ◌<◌}
use Rattle.table.specs.Fitted.{Share}
use Rattle.table.specs.States.{file}
use Rattle.table.proofs.fits.Fits.meets_lower.Given as goal

-- the rules so far share no word with this one
abbrev pub invariant-loop-lower : goal.invariant-loop-lower
invariant-loop-lower g l = (k : ℕ) → k < l.lower → Share (file l.self.at.draft.now) l.self.sets k l.r → ⊥
