use Rattle.std.proofs.Common.{rules, ℕ, ◌+◌, ◌-◌, ◌*◌, ◌/◌, ◌<◌, ◌≤◌, ◌⊎◌, length, Some, sym, ap, ◌∙◌, inl, inr, arith}
use Rattle.std.proofs.lemmas.Bool.{cases_lt}
use Rattle.table.specs.Rising.{four_at}
use Rattle.table.specs.States.{answered}
use Rattle.table.proofs.Searching.{all_below, none_below, choice_found, choice_missing}
use Rattle.table.proofs.search.rising_choice.Goals as goal

pub returns-then-at-count : goal.returns-then-at-count
returns-then-at-count c =
    let es = c.args.entries.now in
    let r = c.partition_point-at.result in
    let A = c.args.nonterminal in
    let a = c.args.word.first in
    let b = c.args.word.second in
    let x = A * 16777216 + a * 65536 + b * 256 in
    let last : 0 < r → four_at es (r - 1) < x = λ l. search rules in
    let below = all_below (four_at es) (length es / 4) (λ i j l m. let n = c.requires i j l (omega arith) in omega (arith, n)) r x (omega arith) last in
    sym (ap answered (choice_missing A a b es (λ k. omega (arith, c.type_inv.entries k)) (λ k l. inl (below k (omega arith)))))

pub returns-then-behind-lt256 : goal.returns-then-behind-lt256
returns-then-behind-lt256 c =
    let es = c.args.entries.now in
    let r = c.partition_point-at.result in
    let A = c.args.nonterminal in
    let a = c.args.word.first in
    let b = c.args.word.second in
    let x = A * 16777216 + a * 65536 + b * 256 in
    let last : 0 < r → four_at es (r - 1) < x = λ l. search rules in
    let below = all_below (four_at es) (length es / 4) (λ i j l m. let n = c.requires i j l (omega arith) in omega (arith, n)) r x (omega arith) last in
    let first : r < length es / 4 → x ≤ four_at es r = λ l. search rules in
    ap (λ (n : ℕ). Some (n - x)) c.four.ensures
    ∙ sym (ap answered (choice_found A a b (omega arith) (omega arith) es r (λ k. omega (arith, c.type_inv.entries k)) below (omega arith) (first (omega arith)) (omega (arith, c.four.ensures))))

pub returns-else-behind-lt256 : goal.returns-else-behind-lt256
returns-else-behind-lt256 c =
    let es = c.args.entries.now in
    let r = c.partition_point-at.result in
    let A = c.args.nonterminal in
    let a = c.args.word.first in
    let b = c.args.word.second in
    let x = A * 16777216 + a * 65536 + b * 256 in
    let rise = λ (i j : ℕ) (l : i < j) (m : j < length es / 4). let n = c.requires i j l (omega arith) in let o : four_at es i ≤ four_at es j = omega (arith, n) in o in
    let last : 0 < r → four_at es (r - 1) < x = λ l. search rules in
    let below = all_below (four_at es) (length es / 4) rise r x (omega arith) last in
    let above = none_below (four_at es) (length es / 4) rise r (x + 256) (λ l. omega (arith, c.four.ensures)) in
    let other : (k : ℕ) → 4 * k + 3 < length es → (four_at es k < x) ⊎ (x + 256 ≤ four_at es k) = λ k l. elim (cases_lt k r) [
      | inl m ↦ inl (below k m)
      | inr m ↦ inr (above k m (omega arith))
    ] in
    sym (ap answered (choice_missing A a b es (λ k. omega (arith, c.type_inv.entries k)) other))
