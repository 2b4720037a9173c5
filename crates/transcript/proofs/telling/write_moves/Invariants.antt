use Rattle.std.proofs.Common.{◌-◌}
use Rattle.reading.specs.State.{most_moves}
use Rattle.transcript.proofs.Writing.{SoFar}
use Rattle.transcript.proofs.telling.write_moves.Given as goal

abbrev pub invariant-moves : goal.invariant-moves
invariant-moves g l =
    SoFar g.F.Numbered.number g.F.Display.output (g.W.Write.contents l.initial.out) l.initial.reading (g.S.Source.meaning l.initial.source)
    (g.W.Write.contents l.out) l.reading (g.S.Source.meaning l.source)

abbrev pub decreases-moves : goal.decreases-moves
decreases-moves g l = most_moves - l.reading.moves
