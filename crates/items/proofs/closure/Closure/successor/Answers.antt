use Rattle.std.proofs.Common.{Bool, false, List, get_or, ap, ◌∙◌}
use Rattle.items.proofs.Closed.{active_there}
use Rattle.items.proofs.Succeeding.{places_told}
use Rattle.items.proofs.closure.Closure.successor.Goals as goal

pub returns : goal.returns
returns c =
    λ g ok i.
    places_told c.args.self.now.rules.now c.args.self.now.places.now c.args.self.now.marks
    (active_there c.args.self.now.rules.now c.args.self.now.places.now c.args.self.now.marks c.args.self.now.active) g ok c.args.symbol c.of_marks.result
    (λ j h. ap (λ (m : List Bool). get_or m j false) c.of_marks.ensures ∙ c.successor_marks.ensures j h) i
