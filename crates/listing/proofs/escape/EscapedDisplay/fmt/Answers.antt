use Rattle.std.proofs.Common.{get_or, take, refl, arith}
use Rattle.std.proofs.Output.{has_written_of_eq, has_written_append}
use Rattle.listing.specs.Escapes.{escaped, escaped_text}
use Rattle.listing.proofs.Escapes.{escaped_more}
use Rattle.listing.proofs.escape.EscapedDisplay.fmt.Goals as goal

pub loop-byte-preserved : goal.loop-byte-preserved
loop-byte-preserved g c = λ plain.
    let took = g.W.Write.write_str_gives in
    let bytes = c.args.self.now.bytes.now in
    let i = c.loop-byte.byte-index in
    let start = c.args.f.now in
    let before = c.loop-byte.invariant plain in
    let more = c.in_ok-write_byte.ensures before.plain refl in
    has_written_of_eq took start _ _ c.write_byte.new.f (escaped_more bytes i (omega arith))
    (has_written_append took start (escaped_text (take i bytes)) c.loop-byte.f (escaped (get_or bytes i 0)) c.write_byte.new.f before more)
