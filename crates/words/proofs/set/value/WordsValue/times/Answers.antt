use Rattle.std.proofs.Common.{◌≡◌, true, false, cond, not, ltb, sym, ap, ◌∙◌, arith}
use Rattle.std.proofs.lemmas.Bool.{eq-eqb, ne_eqb}
use Rattle.words.specs.Sets.{some_word}
use Rattle.words.proofs.RowFacts.{rows_all, times_fits, times_is, times_none, some_word_is, empty_is}
use Rattle.words.proofs.set.value.WordsValue.times.Goals as goal

-- no word follows
pub returns-then-heads-eq0 : goal.returns-then-heads-eq0
returns-then-heads-eq0 g c =
    let none : some_word c.args.other ≡ false =
    some_word_is c.args.other ∙ ap not (eq-eqb _ 0 (sym c.heads_of-heads.ensures ∙ c.if-heads-eq0.true)) in
    c.bottom.ensures ∙ sym (times_none c.args.self c.args.other none)

pub invariant_of-result : goal.invariant_of-result
invariant_of-result g c =
    let after = c.following-after.ensures ∙ ap (cond (ltb g.row.K 2) 1) c.heads_of-heads.ensures in
    let rows = rows_all c.args.self c.args.other c.loop-a.rows _ _ _ c.loop-a.invariant.0 (empty_is c.args.self) after c.first_row.ensures
    (λ a h. c.loop-a.invariant.1 a (omega (arith, c.loop-a-test.false))) in
    record { long = rows.long; fits = times_fits c.args.self c.args.other _ rows }

pub returns : goal.returns
returns g c =
    let after = c.following-after.ensures ∙ ap (cond (ltb g.row.K 2) 1) c.heads_of-heads.ensures in
    let rows = rows_all c.args.self c.args.other c.loop-a.rows _ _ _ c.loop-a.invariant.0 (empty_is c.args.self) after c.first_row.ensures
    (λ a h. c.loop-a.invariant.1 a (omega (arith, c.loop-a-test.false))) in
    let some : some_word c.args.other ≡ true =
    some_word_is c.args.other ∙ ap not (ne_eqb _ 0 (λ z. c.if-heads-eq0.false (c.heads_of-heads.ensures ∙ z))) in
    times_is c.args.self c.args.other _ some rows
