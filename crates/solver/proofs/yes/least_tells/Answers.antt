use Rattle.std.proofs.Common.{refl}
use Rattle.std.proofs.lemmas.Bool.{and_parts, and_from}
use Rattle.grammar.proofs.Least.{least_is_productive}
use Rattle.solver.specs.Solution.{valuation}
use Rattle.solver.specs.YesKind.{yes_kind}
use Rattle.solver.proofs.YesCut.{yes_cut}
use Rattle.solver.proofs.yes.least_tells.Goals as goal

pub returns : goal.returns
returns c g rules size wf A n =
    let S = valuation yes_kind c.args._values.now in
    let d = least_is_productive _ yes_kind g wf (yes_cut g) S (c.requires g rules size) A n in
    (λ yes. d.0 (and_from _ _ yes refl), λ p. (and_parts _ _ (d.1 p)).0)
