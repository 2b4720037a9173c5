use Rattle.std.proofs.Common.{arith, refl}
use Rattle.sheet.specs.Short.{few_left}
use Rattle.reader_c.proofs.scanning.sum_up.Goals as goal

pub tokens-init : goal.tokens-init
tokens-init c =
    let s = c.args.scanner.now in
    (refl, omega (arith, few_left s.rest.now s.at.line s.at.column s.few.0 s.few.2))
