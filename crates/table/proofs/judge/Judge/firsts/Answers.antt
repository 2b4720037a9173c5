use Rattle.std.proofs.Common.{◌≡◌, ◌-◌, length, replicate, sym, ap, ◌∙◌, arith}
use Rattle.std.proofs.lemmas.List.{length-take-le}
use Rattle.solver.specs.Solution.{rules_of}
use Rattle.frames.specs.Raw.{header_of}
use Rattle.frames.specs.Views.{raw}
use Rattle.table.proofs.Drafting.{numbers, n_is}
use Rattle.table.proofs.Firsts.{firsts_told}
use Rattle.table.proofs.judge.Judge.firsts.Goals as goal

pub slice_bounds-sets-end : goal.slice_bounds-sets-end
slice_bounds-sets-end g c = omega (arith, n_is c.args.self.now.draft.now, (numbers c.args.self.now.draft.now).n_high)

pub returns : goal.returns
returns g c =
    let d = c.args.self.now.draft.now in
    let R = raw d.frames in
    let vs = c.first_sets.new.sets in
    let small = (numbers d).n_high in
    let many : length vs ≡ (header_of R).n =
    c.first_sets.ensures.as_many ∙ length-take-le (d.header.n - 0) (replicate 24 c.bottom-sets.result) (omega (arith, n_is d, small)) ∙ omega (arith, n_is d) in
    firsts_told g.row.K R d.formed c.args.self.now.cut_is vs _ many c.rules.result.now (sym d.rules_are ∙ sym (ap rules_of c.rules.ensures)) c.first_sets.ensures.first
