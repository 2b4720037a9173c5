use Rattle.grammar.proofs.Runs.{sentences_parse, derivations_parse}
use Rattle.grammar.proofs.derivations_stand.Goals as goal

pub returns : goal.returns
returns c = (sentences_parse, derivations_parse)
