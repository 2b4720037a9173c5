use Rattle.std.proofs.Common.{sym, refl, ◌∙◌}
use Rattle.sheet.specs.Scanners.{scanned}
use Rattle.listing.specs.Listings.{listing}
use Rattle.listing.proofs.Listings.{listed_more, listed_all}
use Rattle.listing.proofs.listing.write_lines.Goals as goal

pub returns-then-is_last : goal.returns-then-is_last
returns-then-is_last g c = λ plain ok.
    let before = c.lines.invariant plain in
    let wrote = c.in_ok-writeln.ensures.writes before.put.plain refl in
    listed_all g.W.Write.write_str_gives c.args.f.now (listing (scanned c.args.scanner.now)) c.lines.f c.writeln.new.self (scanned c.lines.scanner) (scanned c.next_lexeme.new.self) c.next_lexeme.result c.from-line.result c.from-line.ensures before c.next_lexeme.ensures wrote (sym c.is_last.ensures ∙ c.if-is_last.true)

pub lines-preserved : goal.lines-preserved
lines-preserved g c = λ plain.
    let before = c.lines.invariant plain in
    let wrote = c.in_ok-writeln.ensures.writes before.put.plain refl in
    listed_more g.W.Write.write_str_gives c.args.f.now (listing (scanned c.args.scanner.now)) c.lines.f c.writeln.new.self (scanned c.lines.scanner) (scanned c.next_lexeme.new.self) c.next_lexeme.result c.from-line.result c.from-line.ensures before c.next_lexeme.ensures wrote (sym c.is_last.ensures ∙ c.if-is_last.false)
