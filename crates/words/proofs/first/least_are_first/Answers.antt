use Rattle.std.proofs.Common.{sym, subst}
use Rattle.grammar.specs.Equations.{CutTo}
use Rattle.grammar.proofs.Least.{least_is_first}
use Rattle.solver.specs.Solution.{valuation}
use Rattle.words.specs.Sets.{word_kind}
use Rattle.words.proofs.WordsCut.{words_cut}
use Rattle.words.proofs.first.least_are_first.Goals as goal

pub returns : goal.returns
returns g c γ rules size lookahead wf few A n w =
    let o = word_kind g.row.K in
    let cut_to = subst (λ m. CutTo o m γ) (sym lookahead) (words_cut g.row.K γ few) in
    least_is_first _ o γ wf cut_to (valuation o c.args._sets.now) (c.requires γ rules size) A n w
