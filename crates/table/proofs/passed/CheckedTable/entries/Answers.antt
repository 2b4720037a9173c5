use Rattle.std.proofs.Common.{◌+◌, ◌*◌, ◌<◌, ap, arith}
use Rattle.frames.specs.declared.header.Header.{Header}
use Rattle.frames.specs.Views.{raw}
use Rattle.table.proofs.FrameEnds.{section_there, starts_before, frame_long}
use Rattle.table.proofs.passed.CheckedTable.entries.Goals as goal

pub behind-requires-clause-there : goal.behind-requires-clause-there
behind-requires-clause-there c =
    let R = raw c.args.self.frames in
    let p = ap (λ (h : Header). h.p) c.args.self.header_is in
    omega (arith, p, c.place.ensures, section_there R c.args.self.good c.args.state c.requires c.args.section)

pub behind-requires-clause-long : goal.behind-requires-clause-long
behind-requires-clause-long c =
    let R = raw c.args.self.frames in
    let p = ap (λ (h : Header). h.p) c.args.self.header_is in
    let i = 1 + c.args.self.header.p + 4 * c.args.state + c.place.result in
    let there : i < R.frames = omega (arith, p, c.place.ensures, section_there R c.args.self.good c.args.state c.requires c.args.section) in
    omega (arith, frame_long R c.args.self.good i there, starts_before R c.args.self.good i there)
