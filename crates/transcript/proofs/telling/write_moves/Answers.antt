use Rattle.std.proofs.Common.{sym, ◌∙◌}
use Rattle.transcript.proofs.Writing.{fewer_left, nothing_yet, one_more, when_finished, when_refused}
use Rattle.transcript.proofs.telling.write_moves.Goals as goal

pub moves-init : goal.moves-init
moves-init g c = nothing_yet

pub moves-smaller : goal.moves-smaller
moves-smaller g c = fewer_left c.in-Ok.made c.step.ensures c.in-Ok.is

pub moves-preserved : goal.moves-preserved
moves-preserved g c =
    one_more c.moves.invariant c.step.ensures c.in-Ok.made (sym c.is_last.ensures ∙ c.if-is_last.false) c.in-Ok.is c.in_ok-write.ensures.bytes

pub returns-then-is_last : goal.returns-then-is_last
returns-then-is_last g c =
    when_finished c.moves.invariant c.step.ensures c.in-Ok.made (sym c.is_last.ensures ∙ c.if-is_last.true) c.in-Ok.is

pub returns-in-Err : goal.returns-in-Err
returns-in-Err g c = when_refused c.moves.invariant c.step.ensures c.in-Err.refusal c.in-Err.is
