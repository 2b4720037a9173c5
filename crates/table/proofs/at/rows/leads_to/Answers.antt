use Rattle.std.proofs.Common.{◌∙◌, arith}
use Rattle.table.proofs.Comparisons.{leads_here, leads_on, leads_back, leads_nowhere}
use Rattle.table.proofs.Starting.{decides_yes, decides_no}
use Rattle.table.proofs.at.rows.leads_to.Goals as goal

pub returns-then-entry-q : goal.returns-then-entry-q
returns-then-entry-q c =
    let (_, (cut, long), _) = c.in-Some.ensures.steps in
    let (wide, _, back) = c.loop-entry.invariant in
    decides_yes (back (leads_here c.args.q _ c.in-Some.entry.now _ cut (long ∙ wide) c.if-entry-q.true))

pub loop-entry-preserved : goal.loop-entry-preserved
loop-entry-preserved c =
    let (same, (cut, long), _) = c.in-Some.ensures.steps in
    let (wide, on, back) = c.loop-entry.invariant in (
      same ∙ wide,
      λ l. leads_on c.args.q _ c.in-Some.entry.now _ cut (long ∙ wide) c.if-entry-q.false (on l),
      λ l. back (leads_back c.args.q _ c.in-Some.entry.now _ cut (long ∙ wide) l),
    )

pub returns : goal.returns
returns c =
    let (_, (short, _), _) = c.in-None.ensures.steps in
    let (wide, on, _) = c.loop-entry.invariant in
    decides_no (λ l. leads_nowhere c.args.q _ (omega (arith, short, wide)) (on l))
