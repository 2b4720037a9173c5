use Rattle.grammar.proofs.Actions.{actions_exclude, words_are_whole}
use Rattle.grammar.proofs.actions_stand.Goals as goal

pub returns : goal.returns
returns c = (actions_exclude, words_are_whole)
