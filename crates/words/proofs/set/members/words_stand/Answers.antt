use Rattle.words.specs.Members.{same_words}
use Rattle.words.proofs.WordsCut.{words_cut}
use Rattle.words.proofs.set.members.words_stand.Goals as goal

pub returns : goal.returns
returns g c = (words_cut g.row.K, same_words)
