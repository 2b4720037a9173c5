use Rattle.std.proofs.Common.{arith}
use Rattle.table.specs.Checked.{contents}
use Rattle.reading.proofs.Held.{few_tokens}
use Rattle.reading.proofs.reading.Reading.can_enter.Goals as goal

pub begins-requires-clause-symbol : goal.begins-requires-clause-symbol
begins-requires-clause-symbol g c =
    let r = c.args.self.now in
    let token = c.is_token.ensures.0 c.if-is_token.true in
    omega (arith, token.1, few_tokens (contents r.table) r.table.good)
