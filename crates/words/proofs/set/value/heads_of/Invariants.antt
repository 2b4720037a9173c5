use Rattle.std.proofs.Common.{◌≡◌, drop}
use Rattle.words.specs.Rows.{heads}
use Rattle.words.proofs.set.value.heads_of.Given as goal

abbrev pub invariant-loop-a : goal.invariant-loop-a
invariant-loop-a l = l.found ≡ heads (drop l.a l.rows)
