use Rattle.std.proofs.Common.{◌≡◌, ◌/◌, ◌%◌, rules}
use Rattle.items.specs.Nexts.{moved_by}
use Rattle.items.proofs.Made.{made}
use Rattle.items.proofs.closure.successors.Marked.moves.Goals as goal

pub returns : goal.returns
returns c =
    λ j h.
    made _ _ (λ i y. y ≡ moved_by c.args.self.now.rules.now c.args.self.now.places.now c.args.self.now.marks (i / 7) (i % 7))
    (λ i y q k. search rules) c.from_fn.result 427 c.from_fn.ensures.items j _ h
