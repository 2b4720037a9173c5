use Rattle.solver.proofs.Turns.{rising_to_more, turn_says}
use Rattle.solver.proofs.rounds.round.Goals as goal

pub loop-rule-preserved : goal.loop-rule-preserved
loop-rule-preserved g c =
    let laws = g.V.Value.laws in
    let within = c.loop-rule-test.true in
    let is = c.apply-changed.ensures.writes in
    let (rising, low, found) = c.loop-rule.invariant in
    let says = turn_says laws _ _ _ _ within _ is _ low _ _ c.apply-changed.ensures.says found in
    (rising_to_more laws _ _ _ _ _ within rising is, says.0, says.1)
