use Rattle.std.proofs.Common.{◌∙◌, arith}
use Rattle.frames.specs.Views.{raw}
use Rattle.frames.proofs.Turns.{entry_passes, entry_long}
use Rattle.frames.proofs.form.Form.entries_rise.Goals as goal

pub loop-entry-preserved : goal.loop-entry-preserved
loop-entry-preserved c =
    let (same, (cut, long), _) = c.in-Some.ensures.steps in
    let (some, _, wide, ends, rest) = c.loop-entry.invariant in (
      omega (arith, same, some),
      tt,
      same ∙ wide,
      entry_long (raw c.args.self.now.frames) c.args.section c.loop-entry.last.now c.in-Some.entry.now _ _ cut (long ∙ wide) ∙ ends,
      entry_passes (raw c.args.self.now.frames) c.args.section c.loop-entry.last.now c.in-Some.entry.now _ _ cut (long ∙ wide) c.if-not-follows.ensures ∙ rest,
    )
