use Rattle.cases.proofs.Courses.{all_read}
use Rattle.cases.proofs.readings.readings_stand.Goals as goal

pub returns : goal.returns
returns c = all_read
