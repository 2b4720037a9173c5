use Rattle.std.proofs.Common.{refl}
use Rattle.words.proofs.RowFacts.{bottom_is}
use Rattle.words.proofs.set.value.WordsValue.bottom.Goals as goal

pub returns : goal.returns
returns g c = bottom_is _ refl
