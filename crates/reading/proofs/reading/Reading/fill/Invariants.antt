use Rattle.std.proofs.Common.{◌-◌, length}
use Rattle.reading.specs.Filling.{Filling}
use Rattle.reading.specs.Parts.{entries}
use Rattle.reading.proofs.reading.Reading.fill.Given as goal

-- some entries are let in
abbrev pub invariant-loop-self : goal.invariant-loop-self
invariant-loop-self g l =
    let m = g.S.Source.meaning in
    Filling l.initial.self (m l.initial.source) l.top l.self (m l.source)

abbrev pub decreases-loop-self : goal.decreases-loop-self
decreases-loop-self g l = 2 - length (entries l.self.window)
