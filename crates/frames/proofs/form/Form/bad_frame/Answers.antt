use Rattle.std.proofs.Common.{◌≡◌, true, false, arith, rules}
use Rattle.std.proofs.lemmas.Iterator.{first_from_Range}
use Rattle.frames.specs.Form.{frame_good, BadFrame}
use Rattle.frames.specs.Views.{raw}
use Rattle.frames.proofs.Ends.{good_throughout, lowest_found}
use Rattle.frames.proofs.form.Form.bad_frame.Goals as goal

pub returns : goal.returns
returns c =
    lowest_found (BadFrame (raw c.args.self.now.frames)) (frame_good (raw c.args.self.now.frames)) _ c.find.result (λ i l e. e) (λ i e. e)
    (λ h. good_throughout (raw c.args.self.now.frames) (λ k l. h k (omega (arith, l, c.frames_needed.ensures.needed))))
    (first_from_Range _ _ _ _ (λ i. frame_good (raw c.args.self.now.frames) i ≡ false) (λ i. frame_good (raw c.args.self.now.frames) i ≡ true)
    c.find.ensures.ran (λ x q k. search rules) (λ x q k. search rules))
