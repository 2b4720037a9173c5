use Rattle.std.proofs.Common.{◌≡◌, length, take, sym, ap, ◌∙◌, arith}
use Rattle.std.proofs.lemmas.Bool.{true≢false}
use Rattle.table.proofs.LookedUp.{key_decides, successor_miss, choice_miss}
use Rattle.table.proofs.lookup.find_entry.Goals as goal

pub loop-entry-preserved : goal.loop-entry-preserved
loop-entry-preserved c =
    let (same, (cut, long), _) = c.in-Some.ensures.steps in
    let (some, _, wide, successor, choice) = c.loop-entry.invariant in
    let key = c.args.key.now in
    let entry = c.in-Some.entry.now in
    let other : key ≡ take (length key) entry → ⊥ = λ e. true≢false (sym ((key_decides key entry c.starts_with.result c.starts_with.ensures.value).1 e) ∙ c.if-starts_with.false) in (
      omega (arith, same, some),
      tt,
      same ∙ wide,
      λ X e. successor_miss X _ entry _ cut (omega (arith, long, wide, ap length e)) (λ k. other (e ∙ k ∙ ap (λ n. take n entry) (sym (ap length e)))) ∙ successor X e,
      λ A a b e. choice_miss A a b _ entry _ cut (omega (arith, long, wide, ap length e)) (λ k. other (e ∙ k ∙ ap (λ n. take n entry) (sym (ap length e)))) ∙ choice A a b e,
    )
