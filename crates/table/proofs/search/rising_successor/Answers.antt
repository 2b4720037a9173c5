use Rattle.std.proofs.Common.{rules, ◌≡◌, ◌+◌, ◌-◌, ◌*◌, ◌/◌, ◌<◌, ◌≤◌, length, get_or, sym, ap, arith}
use Rattle.table.specs.States.{answered}
use Rattle.table.proofs.Searching.{all_below, firsts_rise, successor_found, successor_past}
use Rattle.table.proofs.search.rising_successor.Goals as goal
use Rattle.table.proofs.search.rising_successor.Goals.{else-at-count-via-then-at-count+else-entries-at, else-at-count-via-else-at-count}

pub returns-then-entries-at : goal.returns-then-entries-at
returns-then-entries-at c =
    let es = c.args.entries.now in
    let r = c.partition_point-at.result in
    let X = c.args.symbol in
    let last : 0 < r → get_or es (2 * (r - 1)) 0 < X = λ l. search rules in
    let below = all_below (λ k. get_or es (2 * k) 0) (length es / 2) (λ i j l m. firsts_rise es c.requires (λ k. omega (arith, c.type_inv.entries k)) i j l (omega arith)) r X (omega arith) last in
    let here : get_or es (2 * r) 0 ≡ X = search rules in
    sym (ap answered (successor_found X es r below (omega arith) here))

pub returns-else-at-count : goal.returns-else-at-count
returns-else-at-count c =
    let es = c.args.entries.now in
    let r = c.partition_point-at.result in
    let X = c.args.symbol in
    let last : 0 < r → get_or es (2 * (r - 1)) 0 < X = λ l. search rules in
    let below = all_below (λ k. get_or es (2 * k) 0) (length es / 2) (λ i j l m. firsts_rise es c.requires (λ k. omega (arith, c.type_inv.entries k)) i j l (omega arith)) r X (omega arith) last in
    let first : r < length es / 2 → X ≤ get_or es (2 * r) 0 = λ l. search rules in
    let above : 2 * r + 1 < length es → X < get_or es (2 * r) 0 = elim c.else-at-count.branch [
      | else-at-count-via-then-at-count+else-entries-at w ↦ λ l. omega (arith, first (omega arith), w.if-entries-at.false)
      | else-at-count-via-else-at-count w ↦ λ l. absurd (omega (arith, w.if-at-count.false))
    ] in
    sym (ap answered (successor_past X es c.requires (λ k. omega (arith, c.type_inv.entries k)) r below above))
