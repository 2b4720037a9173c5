use Rattle.grammar.proofs.Suffixes.{valid_items_close, v_closes, kernels_follow, words_follow}
use Rattle.grammar.proofs.items_stand.Goals as goal

pub returns : goal.returns
returns c = (valid_items_close, v_closes, kernels_follow, words_follow)
