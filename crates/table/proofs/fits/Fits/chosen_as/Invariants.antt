use Rattle.table.specs.Fitted.{ChosenAs}
use Rattle.table.proofs.fits.Fits.chosen_as.Given as goal

-- the rules so far are chosen for just their words
abbrev pub invariant-loop-r : goal.invariant-loop-r
invariant-loop-r g l = ChosenAs l.r l.entries l.self.sets
