use Rattle.std.proofs.Common.{length, refl, ap}
use Rattle.sheet.specs.Scanners.{scanned}
use Rattle.sheet.proofs.Steps.{gives_lexeme}
use Rattle.sheet.proofs.scanner.Scanner.dropping.Goals as goal

pub returns : goal.returns
returns c =
    let left = c.args.self.now in
    let x = c.args.lexeme in
    let behind = c.behind-self in
    gives_lexeme (scanned c.args.self.now) left.rest.now left.at.line left.at.column x c.from-place.result (length c.text-len.result.now) behind.result.line behind.result.column refl c.requires c.from-place.ensures (ap length c.text-len.ensures) behind.ensures.line behind.ensures.column
