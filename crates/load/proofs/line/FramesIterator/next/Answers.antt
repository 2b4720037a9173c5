use Rattle.std.proofs.Common.{sym, refl, subst, ◌∙◌}
use Rattle.load.specs.Fronts.{Cuts}
use Rattle.load.proofs.Cuts.{Ends, cut_all, cut_none}
use Rattle.load.proofs.line.FramesIterator.next.Goals as goal
use Rattle.load.proofs.line.FramesIterator.next.Goals.{After-split_at}

ends : (c : After-split_at) → Ends c.args.self.now.rest.now c.line_len.result
ends c = let e = c.line_len.ensures in record { within = e.within; inside = e.inside; closed = e.closed }

pub returns-in_err-rest-clause-steps : goal.returns-in_err-rest-clause-steps
returns-in_err-rest-clause-steps c =
    let k = (goal.at.returns-in_err-rest-clause-steps c).After-split_at in
    let text = c.args.self.now.rest.now in
    subst (λ r. Cuts text r text) (sym c.from_residual.ensures) (cut_all text c.line_len.result (ends k) _ c.split_at.ensures.back c.in_err-rest.ensures.cases, refl)

pub returns-then-not-is_frame-clause-steps : goal.returns-then-not-is_frame-clause-steps
returns-then-not-is_frame-clause-steps c =
    let k = (goal.at.returns-then-not-is_frame-clause-steps c).After-split_at in
    (cut_none c.args.self.now.rest.now c.line_len.result (ends k) _ c.split_at.ensures.front (sym c.is_frame.ensures ∙ c.if-not-is_frame.true), refl)
