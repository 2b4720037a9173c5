use Rattle.std.proofs.Common.{ℕ, subst, arith}
use Rattle.std.proofs.lemmas.List.Elements.{All-set}
use Rattle.frames.specs.Form.{word_of}
use Rattle.table.specs.Contents.{table_of}
use Rattle.table.specs.LookUps.{BeginsWord}
use Rattle.reading.specs.Remembered.{IsKnown}
use Rattle.reading.proofs.Remembering.{noted, one_front}
use Rattle.reading.proofs.memory.Memory.note.Goals as goal

pub returns-then-word-lt-SYMBOLS : goal.returns-then-word-lt-SYMBOLS
returns-then-word-lt-SYMBOLS c = λ R m meets.
    let w = c.args.word in
    let known = noted R c.args.met c.key_of-key.result c.args.top c.args.below w.first w.second c.key_of-key.ensures (omega arith) (omega arith) (omega arith)
    meets in
    let begins = subst (λ (s : ℕ). BeginsWord (table_of R) c.args.top (word_of w.first s)) c.if-word-eq0.true meets.begins in
    record {
      cells = All-set (IsKnown R) c.args.self.now.cells c.cell_of.result _ known m.cells;
      fronts = one_front R c.args.self.now.fronts c.args.top w.first c.if-word-lt-SYMBOLS.true begins m.fronts;
    }

pub returns-else-word-eq0 : goal.returns-else-word-eq0
returns-else-word-eq0 c = λ R m meets.
    let w = c.args.word in
    let known = noted R c.args.met c.key_of-key.result c.args.top c.args.below w.first w.second c.key_of-key.ensures (omega arith) (omega arith) (omega arith)
    meets in
    record { cells = All-set (IsKnown R) c.args.self.now.cells c.cell_of.result _ known m.cells; fronts = m.fronts }
