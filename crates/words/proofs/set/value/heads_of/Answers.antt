use Rattle.std.proofs.Common.{arith}
use Rattle.words.proofs.RowFacts.{heads_drop_lt}
use Rattle.words.proofs.set.value.heads_of.Goals as goal

pub overflow_mul-found : goal.overflow_mul-found
overflow_mul-found c = let h = heads_drop_lt c.args.rows (omega arith) c.loop-a.a in omega arith

pub overflow_add-found : goal.overflow_add-found
overflow_add-found c = let h = heads_drop_lt c.args.rows (omega arith) c.loop-a.a in grind (arith, h)
