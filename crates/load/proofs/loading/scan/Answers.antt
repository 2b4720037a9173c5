use Rattle.std.proofs.Common.{length, sym, ap, ◌∙◌, subst}
use Rattle.load.specs.Counts.{concluded}
use Rattle.load.proofs.Counts.{Counting, count_more, count_all}
use Rattle.load.proofs.loading.scan.Goals as goal

pub frames-preserved : goal.frames-preserved
frames-preserved c =
    let cut = c.in-Some.ensures.steps in
    subst (Counting c.args.text.now c.next.new.self.rest.now) (sym c.and_frame-found.ensures)
    (count_more c.args.text.now c.frames.frames.rest.now c.frames.found c.frames.invariant _ _ cut.0 cut.1)

pub returns : goal.returns
returns c =
    let told = c.in_default.ensures.steps in
    c.conclude.ensures
    ∙ ap (λ rest. concluded c.frames.found (length rest)) told.1
    ∙ count_all _ c.frames.frames.rest.now _ c.frames.invariant told.0
