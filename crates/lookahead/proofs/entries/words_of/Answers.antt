use Rattle.std.proofs.Common.{◌≡◌, sym, ◌∙◌, subst, arith}
use Rattle.std.specs.Slice.Iter.{chunks_exact_rest}
use Rattle.words.specs.Sets.{no_words}
use Rattle.words.specs.declared.set.Words.{Words}
use Rattle.lookahead.specs.Stored.{with_entries, StandsFor}
use Rattle.lookahead.proofs.Entering.{words_stored}
use Rattle.lookahead.proofs.Turns.{entries_more, entries_end}
use Rattle.lookahead.proofs.entries.words_of.Goals as goal

pub loop-entry-preserved : goal.loop-entry-preserved
loop-entry-preserved g c =
    let (size, before) = c.loop-entry.invariant in
    let steps = c.in-Some.ensures.steps in
    (steps.0 ∙ size, entries_more _ _ _ _ _ steps.1.0 (steps.1.1 ∙ size) c.put_entry.ensures ∙ before)

pub returns-clause-stands : goal.returns-clause-stands
returns-clause-stands g c h size few all =
    let es = c.args.entries.now in
    let short = c.in-None.ensures.steps.1.0 in
    let is : c.loop-entry.found ≡ with_entries (no_words g.row.K) es = entries_end _ (chunks_exact_rest c.loop-entry.entry-iterator) (omega (arith, short, c.loop-entry.invariant.0)) ∙ c.loop-entry.invariant.1 in
    subst (λ (s : Words g.row.K). StandsFor h s es) (sym is) (words_stored g.row.K h size few es all)
