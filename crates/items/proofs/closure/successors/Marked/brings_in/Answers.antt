use Rattle.std.proofs.Common.{Some, None, refl}
use Rattle.items.proofs.Succeeding.{brought_told}
use Rattle.items.proofs.closure.successors.Marked.brings_in.Goals as goal

pub returns-in-Some : goal.returns-in-Some
returns-in-Some c =
    brought_told c.args.self.now.marks c.args.place.dot c.args.self.now.rules.now c.args.place.rule (Some c.in-Some.rule) _ c.in-Some.ensures.lookup c.ends_marked.ensures

pub returns-in-None : goal.returns-in-None
returns-in-None c = brought_told c.args.self.now.marks c.args.place.dot c.args.self.now.rules.now c.args.place.rule None _ c.in-None.ensures.lookup refl
