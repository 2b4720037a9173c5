use Rattle.std.proofs.Common.{length, ap, arith}
use Rattle.table.specs.Checked.{contents}
use Rattle.reading.proofs.Held.{held_some, held_last}
use Rattle.reading.proofs.Moving.{finishes}
use Rattle.reading.proofs.reading.Reading.act.Goals as goal

pub unreachable-requires : goal.unreachable-requires
unreachable-requires g c =
    let r = c.args.self.now in
    omega (arith, held_some (contents r.table) r.table.good _ _ r.placed, c.in-empty.len_below, ap length c.states.ensures)

pub returns-in-len1 : goal.returns-in-len1
returns-in-len1 g c =
    let r = c.args.self.now in
    λ from q m m' so_far.
    finishes so_far c.finish.new.self c.finish.ensures.table
    (held_last (contents r.table) r.table.good _ _ r.placed (omega (arith, c.in-len1.len_below, ap length c.states.ensures)))
    c.requires.full c.finish.ensures.state
