use Rattle.grammar.proofs.Suffixes.{suffixes_end, shrink, replaced, tops_are_leftmost, equivalents_agree, equivalents_follow}
use Rattle.grammar.proofs.suffixes_stand.Goals as goal

pub returns : goal.returns
returns c = (suffixes_end, shrink, replaced, tops_are_leftmost, equivalents_agree, equivalents_follow)
