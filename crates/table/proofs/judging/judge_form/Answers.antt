use Rattle.std.proofs.Common.{[], sym, refl, inr}
use Rattle.frames.specs.Views.{raw}
use Rattle.table.specs.Rows.{starts, frames}
use Rattle.table.proofs.FormRows.{starts_answer, frames_answer}
use Rattle.table.proofs.Judgements.{none_good, row_refuses}
use Rattle.table.proofs.judging.judge_form.Goals as goal

pub returns-in_err-refuse-2 : goal.returns-in_err-refuse-2
returns-in_err-refuse-2 c =
    let R = raw c.args.frames in
    inr (
      λ i z. sym c.if-not-numbers_good.ensures,
      inr (
        none_good R starts c.bad_start.result (starts_answer R c.bad_start.result c.bad_start.ensures) c.in_ok-refuse.ensures,
        row_refuses R frames [] c.bad_frame.result c.in_err-refuse-2.field-0.0 c.from_residual-in_err-refuse-2.result
            (frames_answer R c.bad_frame.result c.bad_frame.ensures) c.in_err-refuse-2.ensures c.from_residual-in_err-refuse-2.ensures.1,
      ),
    )

pub returns : goal.returns
returns c =
    let R = raw c.args.frames in
    inr (
      λ i z. sym c.if-not-numbers_good.ensures,
      inr (
        none_good R starts c.bad_start.result (starts_answer R c.bad_start.result c.bad_start.ensures) c.in_ok-refuse.ensures,
        inr (none_good R frames c.bad_frame.result (frames_answer R c.bad_frame.result c.bad_frame.ensures) c.in_ok-refuse-2.ensures, refl),
      ),
    )
