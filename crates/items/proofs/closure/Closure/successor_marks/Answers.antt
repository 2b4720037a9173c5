use Rattle.std.proofs.Common.{◌≡◌, ◌/◌, ◌%◌, rules}
use Rattle.items.specs.Nexts.{next_has}
use Rattle.items.proofs.Made.{made}
use Rattle.items.proofs.closure.Closure.successor_marks.Goals as goal

pub returns : goal.returns
returns c =
    λ j h.
    made _ _ (λ i y. y ≡ next_has c.args.self.now.rules.now c.args.self.now.places.now c.args.self.now.marks c.args.symbol (i / 7) (i % 7))
    (λ i y q k. search rules) c.from_fn.result 427 c.from_fn.ensures.items j _ h
