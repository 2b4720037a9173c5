use Rattle.std.proofs.Common.{rules, ℕ, ◌+◌, ◌-◌, ◌<◌, ◌≤◌, length, get_or, take, drop, ap, ◌∙◌, arith}
use Rattle.frames.specs.Raw.{start_of, end_of}
use Rattle.frames.specs.Views.{raw}
use Rattle.table.proofs.FrameEnds.{starts_there, starts_before, ends_within, frame_long, range_behind}
use Rattle.table.proofs.passed.CheckedTable.behind.Goals as goal

pub offset_bounds-self-i : goal.offset_bounds-self-i
offset_bounds-self-i c =
    let l : c.args.i < length c.args.self.frames.starts.now = omega (arith, starts_there (raw c.args.self.frames) c.args.self.good) in search rules

pub bounds-self-i : goal.bounds-self-i
bounds-self-i c = omega (arith, starts_there (raw c.args.self.frames) c.args.self.good)

pub slice_bounds-result-count : goal.slice_bounds-result-count
slice_bounds-result-count c =
    let R = raw c.args.self.frames in
    let there = c.requires.there in
    omega (arith, c.end.ensures, c.requires.long, starts_before R c.args.self.good c.args.i there, frame_long R c.args.self.good c.args.i there)

pub slice_bounds-result-start : goal.slice_bounds-result-start
slice_bounds-result-start c =
    let R = raw c.args.self.frames in
    let there = c.requires.there in
    let l : get_or R.starts c.args.i 0 + c.args.many ≤ c.end.result =
    omega (arith, c.end.ensures, c.requires.long, starts_before R c.args.self.good c.args.i there, frame_long R c.args.self.good c.args.i there) in
    let m : c.end.result ≤ length c.args.self.frames.store.now = omega (arith, c.end.ensures, ends_within R c.args.self.good c.args.i there) in
    search rules

pub slice_bounds-result-end : goal.slice_bounds-result-end
slice_bounds-result-end c =
    let R = raw c.args.self.frames in
    let there = c.requires.there in
    let l : get_or R.starts c.args.i 0 + c.args.many ≤ c.end.result =
    omega (arith, c.end.ensures, c.requires.long, starts_before R c.args.self.good c.args.i there, frame_long R c.args.self.good c.args.i there) in
    let m : c.end.result ≤ length c.args.self.frames.store.now = omega (arith, c.end.ensures, ends_within R c.args.self.good c.args.i there) in
    search rules

pub returns : goal.returns
returns c =
    let R = raw c.args.self.frames in
    let there = c.requires.there in
    let s = start_of R c.args.i in
    let l : s + c.args.many ≤ end_of R c.args.i =
    omega (arith, c.requires.long, starts_before R c.args.self.good c.args.i there, frame_long R c.args.self.good c.args.i there) in
    ap (λ (e : ℕ). take (e - (s + c.args.many)) (drop (s + c.args.many) R.store)) c.end.ensures ∙ range_behind R.store s (end_of R c.args.i) c.args.many l
