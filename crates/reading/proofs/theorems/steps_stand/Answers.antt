use Rattle.reading.proofs.Unique.{steps_are_one, moves_are_one, runs_are_one}
use Rattle.reading.proofs.Acting.{steps_act}
use Rattle.reading.proofs.theorems.steps_stand.Goals as goal

pub returns : goal.returns
returns g c = (steps_are_one, moves_are_one, runs_are_one, steps_act)
