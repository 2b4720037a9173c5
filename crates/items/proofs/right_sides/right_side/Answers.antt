use Rattle.std.proofs.Common.{arith}
use Rattle.items.proofs.RightSides.{got, not_got, right_there, right_start, right_beyond}
use Rattle.items.proofs.right_sides.right_side.Goals as goal

pub returns-in-Some : goal.returns-in-Some
returns-in-Some c = right_there c.args.rules.now c.args.rule c.in-Some.found.now (got c.args.rules.now c.args.rule c.in-Some.found c.in-Some.ensures.lookup)

pub returns-in-None : goal.returns-in-None
returns-in-None c = right_start c.args.rules.now c.args.rule c.if-r-rules.true

pub returns-in-None-2 : goal.returns-in-None-2
returns-in-None-2 c = right_beyond c.args.rules.now c.args.rule (let h = not_got c.args.rules.now c.args.rule c.in-None.ensures.lookup in omega (arith, h, c.if-r-rules.false))
