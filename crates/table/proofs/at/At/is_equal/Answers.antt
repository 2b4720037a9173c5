use Rattle.table.specs.States.{file}
use Rattle.table.proofs.SameEntries.{same_equal, equal_same}
use Rattle.table.proofs.Comparisons.{decides_both, decides_first, decides_like}
use Rattle.table.proofs.at.At.is_equal.Goals as goal

pub returns-then-same_section : goal.returns-then-same_section
returns-then-same_section g c =
    let a = c.args.self.now in
    let R = file a.draft.now in
    decides_like c.same_section-then-same_section.result (same_equal R c.args.m a.q) (equal_same R a.draft.now.formed c.args.m a.q c.requires a.within)
    (decides_both c.same_section.result c.same_section-then-same_section.result c.same_section.ensures c.if-same_section.true c.same_section-then-same_section.ensures)

pub returns-else-same_section : goal.returns-else-same_section
returns-else-same_section g c =
    let a = c.args.self.now in
    let R = file a.draft.now in
    decides_like c.same_section.result (same_equal R c.args.m a.q) (equal_same R a.draft.now.formed c.args.m a.q c.requires a.within)
    (decides_first c.same_section.result c.same_section.ensures c.if-same_section.false)
