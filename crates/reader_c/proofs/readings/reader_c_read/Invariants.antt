use Rattle.table.specs.Checked.{contents}
use Rattle.reader_c.specs.Readings.{ReadsMore}
use Rattle.reader_c.proofs.readings.reader_c_read.Given as goal

-- The sheet was read once and then `counter` times.
abbrev pub invariant-loop : goal.invariant-loop
invariant-loop l = ReadsMore l.counter (contents l.table) l.sheet l.fn.list l.answer l.list
