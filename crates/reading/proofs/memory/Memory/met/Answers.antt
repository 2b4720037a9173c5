use Rattle.std.proofs.Common.{sym, ◌∙◌, arith}
use Rattle.reading.proofs.memory.Memory.met.Goals as goal

pub returns-then-known-key : goal.returns-then-known-key
returns-then-known-key c = λ R m.
    let w = c.args.word in
    m.cells c.cell_of.result _ (omega (arith, c.cell_of.ensures)) c.args.top c.args.below w.first w.second (omega arith) (omega arith) (omega arith)
    (sym (c.if-known-key.true ∙ c.key_of-key.ensures)) c.requires
