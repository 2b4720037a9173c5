use Rattle.std.proofs.Common.{◌≡◌, ℕ, true, eqb, ◌⊎◌, List, sym, ◌∙◌, subst, inl, inr, arith, below_more}
use Rattle.std.proofs.lemmas.Bool.{true≢false, cases_eq, eq-eqb, eqb-true}
use Rattle.grammar.specs.Table.{NotFound}
use Rattle.frames.specs.declared.header.Section as section
use Rattle.frames.specs.Raw.{section_of}
use Rattle.table.specs.Contents.{table_of}
use Rattle.table.specs.States.{file, LeadsTo}
use Rattle.table.proofs.Comparisons.{leads_found, found_leads}
use Rattle.table.proofs.Starting.{decides_yes}
use Rattle.table.proofs.at.At.is_found.Goals as goal

pub returns-then-leads_to : goal.returns-then-leads_to
returns-then-leads_to g c =
    let a = c.args.self.now in
    let R = file a.draft.now in
    decides_yes (λ (up, none). none (leads_found R c.loop-m.m a.q c.loop-m-test.true (c.requires c.loop-m.m (omega (arith, c.loop-m-test.true, a.within)))
    (subst (λ (es : List ℕ). LeadsTo es a.q) c.section.ensures (c.leads_to.ensures.0 c.if-leads_to.true))))

pub loop-m-preserved : goal.loop-m-preserved
loop-m-preserved g c =
    let a = c.args.self.now in
    below_more (λ (k : ℕ). LeadsTo (section_of (file a.draft.now) k section.TheVariants.Successors) a.q → ⊥) c.loop-m.m c.loop-m.invariant
    (λ l. true≢false (sym (c.leads_to.ensures.1 (subst (λ (es : List ℕ). LeadsTo es a.q) (sym c.section.ensures) l)) ∙ c.if-leads_to.false))

pub returns : goal.returns
returns g c =
    let a = c.args.self.now in (
      λ e (up, none). absurd (omega (arith, eqb-true a.q 0 e, up)),
      λ never. by (cases_eq a.q 0) never,
    )
  where
    by : (c.args.self.now.q ≡ 0) ⊎ (c.args.self.now.q ≡ 0 → ⊥) → (NotFound (table_of (file c.args.self.now.draft.now)) c.args.self.now.q → ⊥) → eqb c.args.self.now.q 0 ≡ true
    by (inl e) never = eq-eqb c.args.self.now.q 0 e
    by (inr up) never = absurd (never (
      omega arith,
      λ f. let (m, (l, leads)) = found_leads (file c.args.self.now.draft.now) c.args.self.now.q f in c.loop-m.invariant m (omega (arith, c.loop-m-test.false, l)) leads,
    ))
