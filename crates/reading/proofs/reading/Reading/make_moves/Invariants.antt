use Rattle.reading.proofs.Running.{SoFar}
use Rattle.reading.proofs.reading.Reading.make_moves.Given as goal

-- what was done so far
abbrev pub invariant-loop-moves : goal.invariant-loop-moves
invariant-loop-moves g l =
    let m = g.S.Source.meaning in
    SoFar l.initial.self (m l.initial.source) l.n l.initial.list l.moves l.rules l.self (m l.source) l.list
