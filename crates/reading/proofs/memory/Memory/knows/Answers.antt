use Rattle.reading.proofs.memory.Memory.knows.Goals as goal

pub returns : goal.returns
returns c = λ R m known. m.fronts c.args.state c.args.symbol c.requires known
