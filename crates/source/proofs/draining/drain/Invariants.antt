use Rattle.source.proofs.Drains.{Drains}
use Rattle.source.proofs.draining.drain.Given as goal

abbrev pub invariant-loop-tokens : goal.invariant-loop-tokens
invariant-loop-tokens g l =
    let m = g.S.Source.meaning in
    Drains (m l.initial.source) l.initial.list l.tokens l.list (m l.source)
