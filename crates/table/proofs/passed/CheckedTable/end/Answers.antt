use Rattle.std.proofs.Common.{rules, ◌+◌, ◌<◌, length, arith}
use Rattle.frames.specs.Views.{raw}
use Rattle.table.proofs.FrameEnds.{starts_there}
use Rattle.table.proofs.passed.CheckedTable.end.Goals as goal

pub offset_bounds-self-next : goal.offset_bounds-self-next
offset_bounds-self-next c =
    let l : c.args.i + 1 < length c.args.self.frames.starts.now = omega (arith, starts_there (raw c.args.self.frames) c.args.self.good) in search rules

pub bounds-self-next : goal.bounds-self-next
bounds-self-next c = omega (arith, starts_there (raw c.args.self.frames) c.args.self.good)
