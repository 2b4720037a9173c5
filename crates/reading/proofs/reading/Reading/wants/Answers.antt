use Rattle.std.proofs.Common.{sym, ap, arith}
use Rattle.frames.specs.declared.header.Header.{Header}
use Rattle.table.specs.Checked.{contents}
use Rattle.reading.specs.Model.{grammar_in}
use Rattle.reading.proofs.Held.{some_symbol, few_symbols}
use Rattle.reading.proofs.reading.Reading.wants.Goals as goal

pub wants-requires-clause-some : goal.wants-requires-clause-some
wants-requires-clause-some g c =
    let t = c.args.self.now.table in
    omega (arith, ap (λ (h : Header). h.k) c.header.ensures, some_symbol (contents t) t.good)

pub wants-requires-clause-few : goal.wants-requires-clause-few
wants-requires-clause-few g c =
    let t = c.args.self.now.table in
    omega (arith, ap (λ (h : Header). h.k) c.header.ensures, few_symbols (contents t) t.good)

pub returns : goal.returns
returns g c = c.wants.ensures (grammar_in c.args.self.now) (ap (λ (h : Header). h.k) (sym c.header.ensures))
