use Rattle.load.proofs.Filling.{Filling}
use Rattle.load.proofs.loading.fill.Given as goal

abbrev pub invariant-loop-digits : goal.invariant-loop-digits
invariant-loop-digits l = Filling l.text l.initial.store l.initial.starts l.digits-iterator.rest.now l.written l.store l.starts
