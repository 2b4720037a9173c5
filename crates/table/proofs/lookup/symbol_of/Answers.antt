use Rattle.std.proofs.Common.{get_or, sym, refl, ◌∙◌, subst, arith}
use mathlib.Core.List.Memᴰ
use mathlib.Core.List.{Memᴰ}
use Rattle.grammar.specs.Item.{Item, IsKernel}
use Rattle.frames.specs.Views.{raw}
use Rattle.table.specs.Contents.{grammar_of}
use Rattle.table.proofs.LookedUp.{first_place, no_place, passed}
use Rattle.table.proofs.lookup.symbol_of.Goals as goal

pub returns-in-Some-symbol_after-clause-some : goal.returns-in-Some-symbol_after-clause-some
returns-in-Some-symbol_after-clause-some c =
    let (_, (cut, long), _) = c.in-Some.ensures.steps in
    let (_, _, wide, sought) = c.loop-entry.invariant in
    let entry = c.in-Some.entry.now in
    let i : Item = record { rule = get_or entry 0 0; dot = get_or entry 1 0 } in
    let b = c.in-Some-symbol_after.ensures.some in
    (i, ((sought i (_, b)).0 (subst (Memᴰ i) (sym (first_place _ entry _ cut (long ∙ wide))) (Memᴰ.head refl)), b))

pub loop-entry-preserved : goal.loop-entry-preserved
loop-entry-preserved c =
    let (same, (cut, long), _) = c.in-Some.ensures.steps in
    let (some, _, wide, sought) = c.loop-entry.invariant in
    let entry = c.in-Some.entry.now in
    let behind = passed (IsKernel (grammar_of (raw c.args.frames))) _ _ _ (first_place _ entry _ cut (long ∙ wide)) c.in_default.ensures.none in (
      omega (arith, same, some),
      tt,
      same ∙ wide,
      λ i k. (λ m. (sought i k).0 ((behind i k).0 m), λ m. (behind i k).1 ((sought i k).1 m)),
    )

pub returns-clause-none : goal.returns-clause-none
returns-clause-none c =
    let (_, (short, _), _) = c.in-None.ensures.steps in
    let (_, _, wide, sought) = c.loop-entry.invariant in
    λ X (i, (m, b)). Memᴰ.not-nil (subst (Memᴰ i) (no_place _ (omega (arith, short, wide))) ((sought i (X, b)).1 m))
