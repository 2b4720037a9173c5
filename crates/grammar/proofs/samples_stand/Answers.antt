use Rattle.grammar.proofs.SampleGrammars.{samples_not_ll}
use Rattle.grammar.proofs.SampleKind.{yes_no_is_a_kind}
use Rattle.grammar.proofs.SampleTable.{sample_is_accepted}
use Rattle.grammar.proofs.samples_stand.Goals as goal

pub returns : goal.returns
returns c = (sample_is_accepted, samples_not_ll, yes_no_is_a_kind)
