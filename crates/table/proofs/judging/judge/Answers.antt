use Rattle.std.proofs.Common.{◌++◌, Err, Result, sym, refl, ap, ◌∙◌, subst}
use mathlib.Core.List.Memᴰ
use Rattle.std.proofs.lemmas.Result.{err_from_is_err_and}
use Rattle.frames.specs.Raw.{Raw}
use Rattle.frames.specs.Views.{raw}
use Rattle.table.specs.declared.refused.CheckRefusal.{CheckRefusal}
use Rattle.std.proofs.lemmas.Bool.{true≢false}
use Rattle.table.specs.Rows.{frames, form_rows, grammar_rows, state_rows, VerdictBy, Verdict}
use Rattle.table.proofs.Verdicts.{verdict_err, verdict_then, verdict_goods}
use Rattle.table.proofs.judging.judge.Goals as goal

pub returns-in_err-judge_form : goal.returns-in_err-judge_form
returns-in_err-judge_form c =
    let R = raw c.args.frames in
    let refusal = err_from_is_err_and c.from_residual.result c.from_residual.ensures.1 in
    subst (λ (v : Result (Unit {0}) CheckRefusal). Verdict R v) (sym (refusal.1 ∙ ap (λ (e : CheckRefusal). Err e) refusal.2))
    (verdict_err R form_rows (grammar_rows ++ state_rows) c.in_err-judge_form.field-0.0 c.in_err-judge_form.ensures)

pub new-requires : goal.new-requires
new-requires c =
    λ i bad. true≢false (sym (verdict_goods (raw c.args.frames) form_rows c.in_ok-judge_form.ensures frames (Memᴰ.tail (Memᴰ.tail (Memᴰ.head refl))) i) ∙ bad)

pub returns : goal.returns
returns c =
    let R = raw c.args.frames in
    verdict_then R form_rows (grammar_rows ++ state_rows) c.judge_contents.result (verdict_goods R form_rows c.in_ok-judge_form.ensures)
    (subst (λ (S : Raw). VerdictBy S (grammar_rows ++ state_rows) c.judge_contents.result) c.new.ensures c.judge_contents.ensures)
