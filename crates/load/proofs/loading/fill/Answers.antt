use Rattle.std.proofs.Common.{length, sym, subst, arith}
use Rattle.load.proofs.Filling.{Filling, Turn, fill_none, fill_turn, fill_all}
use Rattle.load.proofs.Judging.{passed}
use Rattle.load.specs.Counts.{none}
use Rattle.load.proofs.loading.fill.Goals as goal
use Rattle.load.proofs.loading.fill.Goals.{In-Some}

turn : (c : In-Some) → Turn c.args.text.now c.args.store.now c.args.starts.now c.loop-digits.written c.loop-digits.store c.loop-digits.starts c.in-Some.digits.now c.next.new.self.rest.now
turn c =
    let cut = c.in-Some.ensures.steps in
    let admitted = passed c.args.text.now (length c.args.store.now) (length c.args.starts.now) c.requires in
    fill_turn _ _ _ c.loop-digits.digits-iterator.rest.now _ _ _ c.loop-digits.invariant admitted _ _ cut.0 cut.1

pub loop-digits-init : goal.loop-digits-init
loop-digits-init c =
    let text = c.args.text.now in
    let store = c.args.store.now in
    let starts = c.args.starts.now in
    subst (λ frames. Filling text store starts frames.rest.now none store starts) (sym c.into_iter-digits-iterator.ensures.into_iter_gives)
    (fill_none text store starts (passed text (length store) (length starts) c.requires))

pub write_frame-written-requires : goal.write_frame-written-requires
write_frame-written-requires c =
    let t = turn (goal.at.write_frame-written-requires c).In-Some in record {
      digits = t.digits;
      store = omega (arith, t.stored, c.loop-digits.auto.store);
      starts = omega (arith, t.listed, c.loop-digits.auto.starts);
    }

pub loop-digits-preserved : goal.loop-digits-preserved
loop-digits-preserved c =
    let told = c.write_frame-written.ensures in
    simp (told.counts, told.store, told.starts) (turn (goal.at.loop-digits-preserved c).In-Some).more

pub returns : goal.returns
returns c =
    let admitted = passed c.args.text.now (length c.args.store.now) (length c.args.starts.now) c.requires in
    let all = fill_all _ _ _ c.loop-digits.digits-iterator.rest.now _ _ _ c.loop-digits.invariant admitted c.in-None.ensures.steps.0 in
    record { store = all.0; starts = all.1 }
