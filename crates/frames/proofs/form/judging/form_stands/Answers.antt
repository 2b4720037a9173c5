use Rattle.frames.proofs.Formed.{form_law, first_law, frame_law}
use Rattle.frames.proofs.form.judging.form_stands.Goals as goal

pub returns : goal.returns
returns c = (form_law, first_law, frame_law)
