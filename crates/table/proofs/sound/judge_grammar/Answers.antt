use Rattle.std.proofs.Common.{[], inr}
use Rattle.frames.specs.Views.{raw}
use Rattle.table.specs.Rows.{productive, reachable}
use Rattle.table.proofs.Judgements.{none_good, row_refuses}
use Rattle.table.proofs.sound.judge_grammar.Goals as goal

pub returns-in_err-refuse-2 : goal.returns-in_err-refuse-2
returns-in_err-refuse-2 c =
    let R = raw c.args.draft.now.frames in
    inr (
      none_good R productive c.unproductive.result c.unproductive.ensures c.in_ok-refuse.ensures,
      row_refuses R reachable [] c.unreachable.result c.in_err-refuse-2.field-0.0 c.from_residual-in_err-refuse-2.result c.unreachable.ensures
          c.in_err-refuse-2.ensures c.from_residual-in_err-refuse-2.ensures.1,
    )
