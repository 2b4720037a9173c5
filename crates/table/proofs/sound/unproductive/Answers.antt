use Rattle.std.proofs.Common.{arith}
use Rattle.frames.specs.Views.{raw}
use Rattle.table.proofs.Drafting.{numbers, n_is}
use Rattle.table.proofs.Marking.{productive_answers}
use Rattle.table.proofs.sound.unproductive.Goals as goal

pub first_unmarked-requires : goal.first_unmarked-requires
first_unmarked-requires c = omega (arith, n_is c.args.draft.now, (numbers c.args.draft.now).n_high)

pub returns : goal.returns
returns c =
    productive_answers (raw c.args.draft.now.frames) c.productive_marks.result c.args.draft.now.header.n (n_is c.args.draft.now)
    c.productive_marks.ensures c.first_unmarked.result c.first_unmarked.ensures
