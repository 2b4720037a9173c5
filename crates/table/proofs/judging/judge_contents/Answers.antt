use Rattle.std.proofs.Common.{◌++◌, Err, Result, sym, ap, ◌∙◌, subst}
use Rattle.std.proofs.lemmas.Result.{err_from_is_err_and}
use Rattle.frames.specs.Views.{raw}
use Rattle.table.specs.declared.refused.CheckRefusal.{CheckRefusal}
use Rattle.table.specs.Rows.{grammar_rows, state_rows, VerdictBy}
use Rattle.table.proofs.Verdicts.{verdict_err, verdict_then, verdict_goods}
use Rattle.table.proofs.judging.judge_contents.Goals as goal

pub returns-in_err-judge_grammar : goal.returns-in_err-judge_grammar
returns-in_err-judge_grammar c =
    let R = raw c.args.draft.now.frames in
    let refusal = err_from_is_err_and c.from_residual.result c.from_residual.ensures.1 in
    subst (λ (v : Result (Unit {0}) CheckRefusal). VerdictBy R (grammar_rows ++ state_rows) v) (sym (refusal.1 ∙ ap (λ (e : CheckRefusal). Err e) refusal.2))
    (verdict_err R grammar_rows state_rows c.in_err-judge_grammar.field-0.0 c.in_err-judge_grammar.ensures)

pub returns : goal.returns
returns c =
    let R = raw c.args.draft.now.frames in
    verdict_then R grammar_rows state_rows c.judge_lookahead.result (verdict_goods R grammar_rows c.in_ok-judge_grammar.ensures) c.judge_lookahead.ensures
