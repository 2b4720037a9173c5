use Rattle.std.proofs.Common.{arith}
use Rattle.table.proofs.Drafting.{numbers, p_is}
use Rattle.table.proofs.draft.Draft.rules.Goals as goal

pub slice_bounds-result-end : goal.slice_bounds-result-end
slice_bounds-result-end c = omega (arith, p_is c.args.self.now, (numbers c.args.self.now).p_high)
