use Rattle.std.proofs.Common.{◌≡◌, ◌-◌, false, List, length, replicate, Decides, sym, ◌∙◌, subst, arith}
use Rattle.std.proofs.lemmas.List.{length-take-le}
use Rattle.grammar.specs.Sound.{Productive}
use Rattle.solver.specs.declared.rule.Rule.{Rule}
use Rattle.solver.specs.declared.yes.Yes.{Yes}
use Rattle.solver.specs.YesKind.{TellsProductive}
use Rattle.frames.specs.Views.{raw}
use Rattle.table.specs.Contents.{grammar_of}
use Rattle.table.proofs.Formed.{well_formed}
use Rattle.table.proofs.Drafting.{numbers, n_is}
use Rattle.table.proofs.Marking.{front_mark}
use Rattle.table.proofs.sound.productive_marks.Goals as goal

pub slice_bounds-marks-end : goal.slice_bounds-marks-end
slice_bounds-marks-end c = omega (arith, n_is c.args.draft.now, (numbers c.args.draft.now).n_high)

pub returns : goal.returns
returns c =
    λ A n.
    let d = c.args.draft.now in
    let g = grammar_of (raw d.frames) in
    let vs = c.productive.new.values in
    let tells = subst (λ (ρs : List Rule). TellsProductive ρs vs) c.rules.ensures c.productive.ensures.tells in
    let small = (numbers d).n_high in
    let many : length vs ≡ g.n = c.productive.ensures.as_many ∙ length-take-le (d.header.n - 0) (replicate 24 (record { 0 = false })) (omega (arith, n_is d, small)) ∙ omega (arith, n_is d) in
    subst (λ (y : Yes). Decides y.0 (Productive g A)) (front_mark vs _ A g.n n.0 n.1 many)
    (tells g (sym d.rules_are) (sym many) (well_formed (raw d.frames) d.formed) A n)
