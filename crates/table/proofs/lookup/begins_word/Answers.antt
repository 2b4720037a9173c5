use Rattle.std.proofs.Common.{ℕ, List, get_or, sym, refl, ◌∙◌, subst, arith}
use mathlib.Core.List.Memᴰ
use mathlib.Core.List.{Memᴰ}
use Rattle.std.proofs.lemmas.Bool.{true≢false}
use Rattle.frames.specs.Form.{word_of}
use Rattle.table.specs.LookUps.{BeginsWith}
use Rattle.table.proofs.LookedUp.{first_word, no_word, passed}
use Rattle.table.proofs.lookup.begins_word.Goals as goal

pub returns-then-begins_with : goal.returns-then-begins_with
returns-then-begins_with c =
    let (_, (cut, long), _) = c.in-Some.ensures.steps in
    let (_, _, wide, sought) = c.loop-entry.invariant in
    let entry = c.in-Some.entry.now in
    let y = word_of (get_or entry 0 0) (get_or entry 1 0) in
    let b = c.begins_with.ensures.0 c.if-begins_with.true in
    (λ _. (y, ((sought y b).0 (subst (Memᴰ y) (sym (first_word _ entry _ cut (long ∙ wide))) (Memᴰ.head refl)), b)), λ _. refl)

pub loop-entry-preserved : goal.loop-entry-preserved
loop-entry-preserved c =
    let (same, (cut, long), _) = c.in-Some.ensures.steps in
    let (some, _, wide, sought) = c.loop-entry.invariant in
    let entry = c.in-Some.entry.now in
    let front = word_of c.args.front.first c.args.front.second in
    let other = λ (b : BeginsWith (word_of (get_or entry 0 0) (get_or entry 1 0)) front). true≢false (sym (c.begins_with.ensures.1 b) ∙ c.if-begins_with.false) in
    let behind = passed (λ (y : List ℕ). BeginsWith y front) _ _ _ (first_word _ entry _ cut (long ∙ wide)) other in (
      omega (arith, same, some),
      tt,
      same ∙ wide,
      λ y b. (λ m. (sought y b).0 ((behind y b).0 m), λ m. (behind y b).1 ((sought y b).1 m)),
    )

pub returns : goal.returns
returns c =
    let (_, (short, _), _) = c.in-None.ensures.steps in
    let (_, _, wide, sought) = c.loop-entry.invariant in
    (λ e. absurd (true≢false (sym e)), λ (y, (m, b)). absurd (Memᴰ.not-nil (subst (Memᴰ y) (no_word _ (omega (arith, short, wide))) ((sought y b).1 m))))
