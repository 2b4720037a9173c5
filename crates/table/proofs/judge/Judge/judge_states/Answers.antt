use Rattle.std.proofs.Common.{[], ◌∷◌, Err, Result, sym, refl, ap, ◌∙◌, subst, inr, arith}
use mathlib.Core.List.Memᴰ
use Rattle.std.proofs.lemmas.Result.{err_from_is_err_and}
use Rattle.table.specs.declared.refused.CheckRefusal.{CheckRefusal}
use Rattle.table.specs.Rows.{defined, distinct, found, one_fits, chosen, VerdictBy}
use Rattle.table.specs.States.{file}
use Rattle.table.proofs.Judgements.{none_good, row_refuses}
use Rattle.table.proofs.Verdicts.{verdict_err, verdict_goods}
use Rattle.table.proofs.judge.Judge.judge_states.Goals as goal

pub returns-in_err-refuse-2 : goal.returns-in_err-refuse-2
returns-in_err-refuse-2 g c =
    let R = file c.args.self.now.draft.now in
    inr (
      none_good R defined c.undefined.result c.undefined.ensures c.in_ok-refuse.ensures,
      row_refuses R distinct (found ∷ one_fits ∷ chosen ∷ []) c.equal_to_lower.result c.in_err-refuse-2.field-0.0 c.from_residual-in_err-refuse-2.result
          c.equal_to_lower.ensures c.in_err-refuse-2.ensures c.from_residual-in_err-refuse-2.ensures.1,
    )

pub judge_found-requires : goal.judge_found-requires
judge_found-requires g c =
    (omega arith, λ m l. (none_good (file c.args.self.now.draft.now) defined c.undefined.result c.undefined.ensures c.in_ok-refuse.ensures m l).0)

pub returns-in_err-judge_found : goal.returns-in_err-judge_found
returns-in_err-judge_found g c =
    let R = file c.args.self.now.draft.now in
    let (e, is, same) = err_from_is_err_and c.from_residual-in_err-judge_found.result c.from_residual-in_err-judge_found.ensures.1 in
    inr (
      none_good R defined c.undefined.result c.undefined.ensures c.in_ok-refuse.ensures,
      inr (
        none_good R distinct c.equal_to_lower.result c.equal_to_lower.ensures c.in_ok-refuse-2.ensures,
        subst (λ (v : Result (Unit {0}) CheckRefusal). VerdictBy R (found ∷ one_fits ∷ chosen ∷ []) v) (sym (is ∙ ap (λ (x : CheckRefusal). Err x) same))
            (verdict_err R (found ∷ []) (one_fits ∷ chosen ∷ []) c.in_err-judge_found.field-0.0 c.in_err-judge_found.ensures),
      ),
    )

pub returns-in_err-refuse-3 : goal.returns-in_err-refuse-3
returns-in_err-refuse-3 g c =
    let R = file c.args.self.now.draft.now in
    inr (
      none_good R defined c.undefined.result c.undefined.ensures c.in_ok-refuse.ensures,
      inr (
        none_good R distinct c.equal_to_lower.result c.equal_to_lower.ensures c.in_ok-refuse-2.ensures,
        inr (
          verdict_goods R (found ∷ []) c.in_ok-judge_found.ensures found (Memᴰ.head refl),
          row_refuses R one_fits (chosen ∷ []) c.two_fit.result c.in_err-refuse-3.field-0.0 c.from_residual-in_err-refuse-3.result
              c.two_fit.ensures c.in_err-refuse-3.ensures c.from_residual-in_err-refuse-3.ensures.1,
        ),
      ),
    )

pub mischosen-requires : goal.mischosen-requires
mischosen-requires g c = (omega arith, none_good (file c.args.self.now.draft.now) one_fits c.two_fit.result c.two_fit.ensures c.in_ok-refuse-3.ensures)

pub returns-in_err-refuse-4 : goal.returns-in_err-refuse-4
returns-in_err-refuse-4 g c =
    let R = file c.args.self.now.draft.now in
    inr (
      none_good R defined c.undefined.result c.undefined.ensures c.in_ok-refuse.ensures,
      inr (
        none_good R distinct c.equal_to_lower.result c.equal_to_lower.ensures c.in_ok-refuse-2.ensures,
        inr (
          verdict_goods R (found ∷ []) c.in_ok-judge_found.ensures found (Memᴰ.head refl),
          inr (
            none_good R one_fits c.two_fit.result c.two_fit.ensures c.in_ok-refuse-3.ensures,
            row_refuses R chosen [] c.mischosen.result c.in_err-refuse-4.field-0.0 c.from_residual-in_err-refuse-4.result
                c.mischosen.ensures c.in_err-refuse-4.ensures c.from_residual-in_err-refuse-4.ensures.1,
          ),
        ),
      ),
    )

pub returns : goal.returns
returns g c =
    let R = file c.args.self.now.draft.now in
    inr (
      none_good R defined c.undefined.result c.undefined.ensures c.in_ok-refuse.ensures,
      inr (
        none_good R distinct c.equal_to_lower.result c.equal_to_lower.ensures c.in_ok-refuse-2.ensures,
        inr (
          verdict_goods R (found ∷ []) c.in_ok-judge_found.ensures found (Memᴰ.head refl),
          inr (
            none_good R one_fits c.two_fit.result c.two_fit.ensures c.in_ok-refuse-3.ensures,
            inr (none_good R chosen c.mischosen.result c.mischosen.ensures c.in_ok-refuse-4.ensures, refl),
          ),
        ),
      ),
    )
