use Rattle.std.proofs.Common.{◌≡◌, ◌+◌, ◌*◌, ◌/◌, ◌<◌, ◌++◌, length, get_or, take, drop, set, sym, ap, ◌∙◌, arith, length-drop}
use lib.Seq.{paste}
use Rattle.std.specs.Slice.Iter.{chunks_exact_rest}
use Rattle.std.proofs.lemmas.List.Edits.{paste_more, paste_all}
use Rattle.load.specs.Digits.{is_digit, value_of, bytes_of}
use Rattle.load.proofs.Values.{Pair, pair_cut, bytes_length, byte_at, digit_at}
use Rattle.load.proofs.digit.decode_into.Goals as goal
use Rattle.load.proofs.digit.decode_into.Goals.{In-Some}

cut : (c : In-Some) → Pair c.args.digits.now c.in-Some.digits.now (chunks_exact_rest c.next.new.self.iter) c.loop-j.j-iterator.count
cut c =
    let told = c.in-Some.ensures.steps in
    let so_far = c.loop-j.invariant in
    pair_cut c.args.digits.now (chunks_exact_rest c.loop-j.j-iterator.iter) _ _ _ so_far.left told.0.1.0 (told.0.1.1 ∙ so_far.size)

pub pair-requires : goal.pair-requires
pair-requires c =
    let at = cut (goal.at.pair-requires c).In-Some in
    let ws = c.args.digits.now in
    let j = c.loop-j.j-iterator.count in
    record {
      high = ap is_digit at.high ∙ digit_at ws (2 * j) c.requires.digits (omega (arith, at.inside));
      low = ap is_digit at.low ∙ digit_at ws (2 * j + 1) c.requires.digits at.inside;
    }

pub loop-j-preserved : goal.loop-j-preserved
loop-j-preserved c =
    let told = c.in-Some.ensures.steps in
    let so_far = c.loop-j.invariant in
    let at = cut (goal.at.loop-j-preserved c).In-Some in
    let d = c.args.store.now in
    let ws = c.args.digits.now in
    let j = c.loop-j.j-iterator.count in
    let in_bytes : j < length (bytes_of ws) = omega (arith, bytes_length ws, at.inside) in
    let in_store : c.args.at + j < length d = omega (arith, c.requires.room, at.inside) in
    let byte : c.pair.result ≡ get_or (bytes_of ws) j 0 =
    c.pair.ensures
    ∙ ap (λ b. 16 * value_of b + value_of (get_or c.in-Some.digits.now 1 0)) at.high
    ∙ ap (λ b. 16 * value_of (get_or ws (2 * j) 0) + value_of b) at.low
    ∙ sym (byte_at ws j at.inside) in record {
      size = told.0.0 ∙ so_far.size;
      within = omega (arith, at.inside, told.2);
      left = at.behind ∙ ap (λ k. drop (2 * k) ws) (sym told.2);
      written =
          ap (λ k. set c.loop-j.store (c.args.at + k) c.pair.result) told.1
          ∙ ap (λ l. set l (c.args.at + j) c.pair.result) so_far.written
          ∙ ap (set (paste d c.args.at (bytes_of ws) j) (c.args.at + j)) byte
          ∙ paste_more d c.args.at (bytes_of ws) j 0 in_store in_bytes
          ∙ ap (paste d c.args.at (bytes_of ws)) (sym told.2);
    }

pub returns : goal.returns
returns c =
    let so_far = c.loop-j.invariant in
    let d = c.args.store.now in
    let ws = c.args.digits.now in
    let j = c.loop-j.j-iterator.count in
    let all : j ≡ length ws / 2 = omega (arith, so_far.within, so_far.size, ap length so_far.left, length-drop (2 * j) ws, c.in-None.ensures.steps.0.1.0) in
    so_far.written
    ∙ paste_all d c.args.at (bytes_of ws) j (all ∙ sym (bytes_length ws))
    ∙ ap (λ k. take c.args.at d ++ (bytes_of ws ++ drop (c.args.at + k) d)) all
