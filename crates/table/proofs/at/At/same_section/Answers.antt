use Rattle.std.proofs.Common.{sym, ◌∙◌}
use Rattle.std.proofs.lemmas.Slice.Eq.{slice_eq-Decides}
use Rattle.std.specs.Cmp.{unsigned_Decides}
use Rattle.table.proofs.Comparisons.{decides_like}
use Rattle.table.proofs.at.At.same_section.Goals as goal

pub returns : goal.returns
returns g c =
    decides_like c.eq.result (λ e. sym c.section.ensures ∙ e ∙ c.section-2.ensures) (λ e. c.section.ensures ∙ e ∙ sym c.section-2.ensures)
    (slice_eq-Decides unsigned_Decides c.section.result.now c.section-2.result.now c.eq.result c.eq.ensures)
