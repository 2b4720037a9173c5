use Rattle.std.proofs.Common.{List, take, sym, refl, ◌∙◌, subst}
use Rattle.solver.specs.declared.rule.Rule.{Rule}
use Rattle.items.specs.declared.places.Places.{Places}
use Rattle.items.specs.Actives.{NextOf}
use Rattle.table.proofs.Defining.{none_defined, within, some_defined}
use Rattle.table.proofs.StateSets.{states_decide}
use Rattle.table.proofs.at.At.symbol_defined.Goals as goal
use Rattle.table.proofs.at.At.symbol_defined.Goals.{After-next_state-next}
use Rattle.table.proofs.at.At.symbol_defined.Given as given

next_is : (g : given.Over) (c : After-next_state-next g)
    → NextOf (take c.args.self.now.draft.now.header.p c.args.self.now.draft.now.rules) c.args.here.now.places c.args.symbol c.next_state-next.result.places
next_is g c =
    subst (λ (s : Places). NextOf (take c.args.self.now.draft.now.header.p c.args.self.now.draft.now.rules) s c.args.symbol c.next_state-next.result.places) c.requires.places
    (subst (λ (ρs : List Rule). NextOf ρs c.args.closure.now.places.now c.args.symbol c.next_state-next.result.places) c.requires.rules c.next_state-next.ensures.places)

pub invariant_of-there : goal.invariant_of-there
invariant_of-there g c = record {
  cut_is = c.args.self.now.cut_is;
  within = within c.args.self.now c.args.sets.now c.requires.firsts c.args.here.now c.requires.here c.args.symbol
      c.next_state-next.result.places (next_is g (goal.at.invariant_of-there g c).After-next_state-next) c.in-Some.q (sym c.successor_of.ensures ∙ c.in-Some.is);
}

pub returns-in-None : goal.returns-in-None
returns-in-None g c =
    none_defined c.args.self.now c.args.sets.now c.requires.firsts c.args.here.now c.requires.here c.args.symbol
    c.next_state-next.result.places (next_is g (goal.at.returns-in-None g c).After-next_state-next) (sym c.successor_of.ensures ∙ c.in-None.is) c.is_empty.result c.is_empty.ensures

pub returns-in-Some : goal.returns-in-Some
returns-in-Some g c =
    some_defined c.args.self.now c.args.sets.now c.requires.firsts c.args.here.now c.requires.here c.args.symbol
    c.next_state-next.result.places (next_is g (goal.at.returns-in-Some g c).After-next_state-next) c.in-Some.q (sym c.successor_of.ensures ∙ c.in-Some.is)
    c.read.result c.read.ensures c.next_state-next.result refl c.next_state-next.ensures.words c.eq.result (states_decide c.next_state-next.result c.read.result c.eq.result c.eq.ensures)
