use Rattle.std.proofs.Common.{◌≡◌, sym, ◌∙◌, subst, arith}
use Rattle.std.specs.Slice.Iter.{chunks_exact_rest}
use Rattle.words.specs.Sets.{no_words}
use Rattle.words.specs.declared.set.Words.{Words}
use Rattle.lookahead.specs.Stored.{with_choices, StandsForChoices}
use Rattle.lookahead.proofs.Entering.{choices_stored}
use Rattle.lookahead.proofs.Turns.{choices_more, choices_end}
use Rattle.lookahead.proofs.choices.chosen.Goals as goal

pub loop-entry-preserved : goal.loop-entry-preserved
loop-entry-preserved g c =
    let (size, before) = c.loop-entry.invariant in
    let steps = c.in-Some.ensures.steps in
    (steps.0 ∙ size, choices_more _ _ _ _ _ _ steps.1.0 (steps.1.1 ∙ size) c.put_choice.ensures ∙ before)

pub returns-clause-stands : goal.returns-clause-stands
returns-clause-stands g c h size few all =
    let es = c.args.entries.now in
    let r = c.args.rule in
    let short = c.in-None.ensures.steps.1.0 in
    let is : c.loop-entry.found ≡ with_choices r (no_words g.row.K) es = choices_end _ r (chunks_exact_rest c.loop-entry.entry-iterator) (omega (arith, short, c.loop-entry.invariant.0)) ∙ c.loop-entry.invariant.1 in
    subst (λ (s : Words g.row.K). StandsForChoices h s es r) (sym is) (choices_stored g.row.K h size few r es all)
