use Rattle.std.proofs.Common.{◌∙◌, arith}
use Rattle.std.proofs.lemmas.List.{take-take}
use Rattle.reading.proofs.Blocks.{above}
use Rattle.reading.proofs.stack.Stack.above_lowest.Goals as goal

pub returns : goal.returns
returns c = λ upper lowest few is.
    let (unused, cut) = above c.args.self.now.cells upper c.args.self.now.top lowest (omega arith) few is in
    (unused, take-take 8 9 _ (omega arith) ∙ cut)
