use Rattle.std.proofs.Common.{sym, ap, subst, arith}
use Rattle.frames.specs.declared.header.Header.{Header}
use Rattle.frames.specs.Views.{raw}
use Rattle.table.specs.Rising.{PairsRise}
use Rattle.table.proofs.FrameEnds.{words_rise}
use Rattle.table.proofs.Searching.{Bytes}
use Rattle.table.proofs.passed.CheckedTable.begins_word.Goals as goal

pub rising_word-requires : goal.rising_word-requires
rising_word-requires c =
    let bytes : Bytes c.entries-entries.result.now = λ i. omega (arith, c.type_inv.entries i) in
    subst PairsRise (sym c.entries-entries.ensures) (words_rise (raw c.args.self.frames) c.args.self.good c.args.state (omega (arith, ap (λ (h : Header). h.s) c.args.self.header_is)) (subst Bytes c.entries-entries.ensures bytes))
