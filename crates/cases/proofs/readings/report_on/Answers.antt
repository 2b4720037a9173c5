-- The memories hold one of the readings, so its table is accepted, its list is opened, and the run comes to what is known.
use Rattle.cases.proofs.Reports.{no_refusal, few_kinds, reported}
use Rattle.std.proofs.Common.{arith}
use Rattle.cases.proofs.readings.report_on.Goals as goal

pub unreachable-requires : goal.unreachable-requires
unreachable-requires c =
    no_refusal c.args.store.now c.args.starts.now c.args.kinds.now c.verdict_of.result c.in_default.field-0 c.requires c.verdict_of.ensures
    c.in_default.is

pub unreachable-requires-in_default-open : goal.unreachable-requires-in_default-open
unreachable-requires-in_default-open c =
    let few = few_kinds c.args.store.now c.args.starts.now c.args.kinds.now c.requires in
    let many = c.in_default-open.ensures.0 in
    absurd (omega (arith, few, many))

pub returns : goal.returns
returns c =
    reported c.args.store.now c.args.starts.now c.args.kinds.now c.requires c.checked-table.ensures c.open-reading.ensures c.in-Ok-open.ensures.1
    c.run-ran.ensures c.close-view.ensures.shows
