use Rattle.std.proofs.Common.{List, subst}
use Rattle.solver.specs.declared.rule.Rule.{Rule}
use Rattle.items.specs.Reaching.{Reaches}
use Rattle.frames.specs.Views.{raw}
use Rattle.table.specs.Contents.{grammar_of}
use Rattle.table.proofs.Drafting.{draft_rules}
use Rattle.table.proofs.sound.reachable_marks.Goals as goal

pub returns : goal.returns
returns c =
    subst (λ (ρs : List Rule). Reaches ρs c.reachable.result) c.rules.ensures c.reachable.ensures (grammar_of (raw c.args.draft.now.frames))
    (draft_rules c.args.draft.now)
