use Rattle.lookahead.proofs.Symbols.{symbols_first}
use Rattle.lookahead.proofs.Comparing.{equal_words, words_meet}
use Rattle.lookahead.proofs.Following.{next_words}
use Rattle.lookahead.proofs.theorems.lookahead_stands.Goals as goal

pub returns : goal.returns
returns g c = (symbols_first g.row.K, equal_words g.row.K, next_words g.row.K, words_meet g.row.K)
