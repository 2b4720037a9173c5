use Rattle.std.proofs.Common.{Err, sym, subst, ◌∙◌}
use Rattle.std.proofs.lemmas.Bool.{true≢false}
use Rattle.reading.specs.declared.answer.ReadRefusal.{ReadRefusal}
use Rattle.reading.specs.Calls.{Stepped}
use Rattle.reading.proofs.Requests.{fills_more, refuses, fails}
use Rattle.reading.proofs.reading.Reading.request.Goals as goal

pub returns-in-Err-clause-fills : goal.returns-in-Err-clause-fills
returns-in-Err-clause-fills g c =
    let (fault, (given, lifted)) = c.in-Err.ensures.gives in
    λ r m so_far.
    subst (λ (x : ReadRefusal _). Stepped r m (Err x) c.end.new.self (g.S.Source.meaning c.ask.new.source)) (sym lifted)
    (fails so_far c.requires.wants c.end.new.self c.end.ensures.table c.ask.ensures.asks (sym given) c.end.ensures.state)

pub returns-then-not-can_enter-clause-fills : goal.returns-then-not-can_enter-clause-fills
returns-then-not-can_enter-clause-fills g c =
    λ r m so_far.
    refuses so_far c.requires.wants c.end-then-not-can_enter.new.self c.end-then-not-can_enter.ensures.table c.ask.ensures.asks
    (sym c.in-Ok.ensures.gives) (λ can. true≢false (sym (c.can_enter.ensures.1 can) ∙ c.if-not-can_enter.true)) c.place_of.ensures
    c.end-then-not-can_enter.ensures.state

pub returns-clause-fills : goal.returns-clause-fills
returns-clause-fills g c =
    λ r m so_far.
    fills_more so_far c.requires.wants c.let_in.new.self c.let_in.ensures.table c.ask.ensures.asks (sym c.in-Ok.ensures.gives)
    (c.can_enter.ensures.0 c.if-not-can_enter.false) c.let_in.ensures.state
