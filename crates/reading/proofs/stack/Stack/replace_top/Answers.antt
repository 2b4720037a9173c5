use Rattle.std.proofs.Common.{◌≡◌, ◌+◌, ◌-◌, ◌<◌, ap, ◌∙◌, length, drop, take, arith, length-drop}
use Rattle.std.proofs.lemmas.List.{take_all, length-take-le}
use Rattle.std.proofs.lemmas.Simd.{put_chunk_whole}
use Rattle.reading.proofs.Blocks.{replaced}
use Rattle.reading.proofs.stack.Stack.replace_top.Goals as goal

pub returns : goal.returns
returns c = λ unused upper cut many.
    let s = c.args.self.now in
    let block = c.args.block.now in
    let start = s.top + 1 - 8 in
    let there : s.top < length s.cells = omega (arith, c.requires.top, length-drop s.top s.cells) in
    let same : take 8 block ≡ block = take_all 8 block (omega arith) in
    let eight : length (take (start + 8 - start) (drop start s.cells)) ≡ 8 =
    length-take-le (start + 8 - start) (drop start s.cells) (omega (arith, length-drop start s.cells)) ∙ omega arith in
    let written = put_chunk_whole (take (start + 8 - start) (drop start s.cells)) (take 8 block) (omega (arith, eight, ap length same)) ∙ same in
    replaced s.cells _ unused upper s.top c.args.count _ _ there (written ∙ cut)
    (omega (arith, ap length written)) many (omega arith) (omega arith) (omega arith)
