use Rattle.std.proofs.Common.{ap, inl, arith}
use Rattle.frames.specs.Raw.{Raw}
use Rattle.frames.specs.declared.header.Header.{Header}
use Rattle.table.specs.Contents.{grammar_of}
use Rattle.reading.specs.Parts.{entries}
use Rattle.reading.proofs.Requests.{none_yet, ok_both}
use Rattle.reading.proofs.Windows.{symbols_length}
use Rattle.reading.proofs.reading.Reading.fill.Goals as goal

pub returns-then-wants-clause-full : goal.returns-then-wants-clause-full
returns-then-wants-clause-full g c =
    let r = c.args.self.now in
    let m = g.S.Source.meaning c.args.source.now in
    let r' = c.request.new.self in
    let one = ap (λ (h : Header). h.k) c.header.ensures in
    ok_both _ _ c.request.result
    (λ x more so_far.
    inl (omega (arith, more, one, c.if-header-eq1.true, ap (λ (R : Raw). (grammar_of R).k) so_far.table, symbols_length (entries r'.window))))
    c.request.ensures.longer (c.request.ensures.fills r m (none_yet r m c.requires.top c.requires.running c.requires.moves))

pub returns-then-wants-clause-fills : goal.returns-then-wants-clause-fills
returns-then-wants-clause-fills g c =
    let r = c.args.self.now in
    let m = g.S.Source.meaning c.args.source.now in
    c.request.ensures.fills r m (none_yet r m c.requires.top c.requires.running c.requires.moves)
