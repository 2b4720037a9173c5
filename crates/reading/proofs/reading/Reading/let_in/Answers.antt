use Rattle.std.proofs.Common.{arith}
use Rattle.table.specs.Checked.{contents}
use Rattle.reading.specs.Parts.{entries}
use Rattle.reading.proofs.Held.{few_symbols, told_by_symbol, held_enter}
use Rattle.reading.proofs.Windows.{symbols_length}
use Rattle.reading.proofs.reading.Reading.let_in.Goals as goal

pub push-requires-clause-room : goal.push-requires-clause-room
push-requires-clause-room g c =
    let r = c.args.self.now in
    omega (arith, c.requires.wants.0, few_symbols (contents r.table) r.table.good, symbols_length (entries r.window))

pub push-requires-clause-told : goal.push-requires-clause-told
push-requires-clause-told g c =
    let r = c.args.self.now in
    told_by_symbol (contents r.table) r.table.good _ _ c.args.entry c.requires.enters.can_enter

pub invariant_of-self-clause-placed : goal.invariant_of-self-clause-placed
invariant_of-self-clause-placed g c =
    let r = c.args.self.now in
    let e = c.requires.enters in
    held_enter (contents r.table) r.table.good (entries r.window) _ c.args.entry e.top e.below c.push.ensures e.stack_is r.placed
    c.requires.wants e.can_enter

pub invariant_of-self-in_default-clause-placed : goal.invariant_of-self-in_default-clause-placed
invariant_of-self-in_default-clause-placed g c =
    let r = c.args.self.now in
    let e = c.requires.enters in
    held_enter (contents r.table) r.table.good (entries r.window) _ c.args.entry e.top e.below c.push.ensures e.stack_is r.placed
    c.requires.wants e.can_enter
