use Rattle.reading.proofs.OfReadings.{steps_of_readings, openings_stand, readings_act, sheets_are_one}
use Rattle.reading.proofs.theorems.readings_stand.Goals as goal

pub returns : goal.returns
returns g c = (steps_of_readings, openings_stand, readings_act, sheets_are_one)
