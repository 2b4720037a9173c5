use Rattle.std.proofs.Common.{◌≡◌, true, false, rules}
use Rattle.std.proofs.lemmas.Iterator.{first_from_Range}
use Rattle.frames.specs.Form.{start_good, BadStart}
use Rattle.frames.specs.Views.{raw}
use Rattle.frames.proofs.Ends.{lowest_found}
use Rattle.frames.proofs.frames.Frames.bad_start.Goals as goal

pub returns : goal.returns
returns c =
    lowest_found (BadStart (raw c.args.self)) (start_good (raw c.args.self)) _ c.find.result (λ i l e. (l, e)) (λ i (l, e). e) (λ h i (l, e). h i l (l, e))
    (first_from_Range _ _ _ _ (λ i. start_good (raw c.args.self) i ≡ false) (λ i. start_good (raw c.args.self) i ≡ true)
    c.find.ensures.ran (λ x q k. search rules) (λ x q k. search rules))
