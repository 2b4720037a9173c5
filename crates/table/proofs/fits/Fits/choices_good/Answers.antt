use Rattle.std.proofs.Common.{◌≡◌, ℕ, true, List, Decides, sym, ap, ◌∙◌, subst, arith}
use Rattle.std.proofs.lemmas.Bool.{false≢true}
use Rattle.frames.specs.Raw.{header_of, section_of}
use Rattle.frames.specs.declared.header.Section.TheVariants.{Choices}
use Rattle.table.specs.Fitted.{own_rules, ChosenAs}
use Rattle.table.specs.States.{file}
use Rattle.table.proofs.Drafting.{numbers, p_is}
use Rattle.table.proofs.Fitting.{fitted_by}
use Rattle.table.proofs.Choosing.{passed_good, good_own, good_chosen}
use Rattle.table.proofs.fits.Fits.choices_good.Goals as goal
use Rattle.table.proofs.fits.Fits.choices_good.Given as given

pub chosen_as-requires : goal.chosen_as-requires
chosen_as-requires g c =
    let d = c.args.self.now.at.draft.now in
    omega (arith, p_is d, (numbers d).p_high)

decided : (g : given.Over) (c : goal.After-chosen_as g)
    → Decides c.chosen_as.result (ChosenAs (header_of (file c.args.self.now.at.draft.now)).p (section_of (file c.args.self.now.at.draft.now) c.args.self.now.at.q Choices) c.args.self.now.sets)
decided g c =
    let f = c.args.self.now in
    let d = f.at.draft.now in
    subst (λ (p : ℕ). Decides c.chosen_as.result (ChosenAs p (section_of (file d) f.at.q Choices) f.sets)) (p_is d)
    (subst (λ (es : List ℕ). Decides c.chosen_as.result (ChosenAs d.header.p es f.sets)) c.section-entries.ensures c.chosen_as.ensures)

pub returns-then-name_own_rules : goal.returns-then-name_own_rules
returns-then-name_own_rules g c =
    let f = c.args.self.now in
    let d = f.at.draft.now in
    let R = file d in
    let fitted = fitted_by R d.formed f.at.q f.at.within f.at.cut_is f.sets f.many f.each in
    let own : own_rules R (section_of R f.at.q Choices) ≡ true = ap (own_rules R) (sym c.section-entries.ensures) ∙ sym c.if-name_own_rules.ensures in (
      λ e. passed_good R d.formed f.at.q f.at.within f.at.cut_is (numbers d).t_high f.sets fitted own ((decided g c).0 e) c.requires,
      λ good. (decided g c).1 (good_chosen R d.formed f.at.q f.at.within f.at.cut_is (numbers d).t_high f.sets fitted good),
    )

pub returns-else-name_own_rules : goal.returns-else-name_own_rules
returns-else-name_own_rules g c =
    let f = c.args.self.now in
    let d = f.at.draft.now in
    let R = file d in
    let fitted = fitted_by R d.formed f.at.q f.at.within f.at.cut_is f.sets f.many f.each in (
      λ e. absurd (false≢true (sym c.if-name_own_rules.false ∙ e)),
      λ good.
          c.name_own_rules.ensures ∙ ap (own_rules R) c.section-entries.ensures
          ∙ good_own R d.formed f.at.q f.at.within f.at.cut_is (numbers d).t_high f.sets fitted good,
    )
