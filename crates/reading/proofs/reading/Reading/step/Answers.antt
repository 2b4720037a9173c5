use Rattle.std.proofs.Common.{[], length, Err, refl, sym, ap, subst, arith}
use Rattle.table.specs.Checked.{contents}
use Rattle.reading.specs.declared.answer.ReadRefusal.TheVariants.{MovesSpent}
use Rattle.reading.specs.Model.{model, grammar_in, table_in}
use Rattle.reading.specs.State.{State}
use Rattle.reading.specs.Step.{Step, late, spend}
use Rattle.reading.proofs.Held.{held_some}
use Rattle.reading.proofs.reading.Reading.step.Goals as goal

pub returns-in-Over : goal.returns-in-Over
returns-in-Over g c = record { table = refl; gave = []; step = late c.in-Over.is }

pub returns-then-self-eq-MOST_MOVES : goal.returns-then-self-eq-MOST_MOVES
returns-then-self-eq-MOST_MOVES g c =
    let r = c.args.self.now in
    let m = g.S.Source.meaning c.args.source.now in
    record {
      table = ap contents c.end.ensures.table;
      gave = [];
      step = subst (λ (s : State). Step (grammar_in r) (table_in r) (model r) m [] (Err MovesSpent) s m) (sym c.end.ensures.state)
          (spend c.in_default.is c.if-self-eq-MOST_MOVES.true);
    }

pub unreachable-requires : goal.unreachable-requires
unreachable-requires g c =
    let r = c.args.self.now in
    omega (arith, held_some (contents r.table) r.table.good _ _ r.placed, c.in_default-states.len_below, ap length c.states.ensures)
