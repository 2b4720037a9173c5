use Rattle.std.proofs.Common.{arith}
use Rattle.frames.specs.Views.{raw}
use Rattle.table.proofs.Drafting.{numbers, n_is}
use Rattle.table.proofs.Marking.{reachable_answers}
use Rattle.table.proofs.sound.unreachable.Goals as goal

pub first_unmarked-requires : goal.first_unmarked-requires
first_unmarked-requires c = omega (arith, n_is c.args.draft.now, (numbers c.args.draft.now).n_high)

pub returns : goal.returns
returns c =
    reachable_answers (raw c.args.draft.now.frames) c.reachable_marks.result c.args.draft.now.header.n (n_is c.args.draft.now)
    c.reachable_marks.ensures c.first_unmarked.result c.first_unmarked.ensures
