use Rattle.std.proofs.Common.{rules, ◌+◌, ◌-◌, ◌*◌, ◌/◌, ◌<◌, ◌≤◌, length, get_or, sym, arith}
use Rattle.std.proofs.lemmas.Bool.{true≢false}
use Rattle.frames.specs.Form.{word_of}
use Rattle.table.specs.Rising.{pair_at}
use Rattle.table.proofs.Searching.{all_below}
use Rattle.table.proofs.SearchedWords.{word_there, word_found, not_before, lowest_begins}
use Rattle.table.proofs.search.rising_word.Goals as goal

pub returns-then-at-count : goal.returns-then-at-count
returns-then-at-count c =
    let es = c.args.entries.now in
    let r = c.partition_point-at.result in
    let f = c.args.front.first in
    let g = c.args.front.second in
    let last : 0 < r → pair_at es (r - 1) < f * 256 + g = λ l. search rules in
    let below = all_below (pair_at es) (length es / 2) (λ i j l m. let n = c.requires i j l (omega arith) in omega (arith, n)) r (f * 256 + g) (omega arith) last in (
      λ e. absurd (true≢false (sym e)),
      λ (y, (m, x)).
          let w = word_found es y m in
          let l = not_before es c.requires (λ k. omega (arith, c.type_inv.entries k)) f g (omega arith) r below y w x in
          absurd (omega (arith, l, w.within)),
    )

pub returns : goal.returns
returns c =
    let es = c.args.entries.now in
    let r = c.partition_point-at.result in
    let f = c.args.front.first in
    let g = c.args.front.second in
    let last : 0 < r → pair_at es (r - 1) < f * 256 + g = λ l. search rules in
    let below = all_below (pair_at es) (length es / 2) (λ i j l m. let n = c.requires i j l (omega arith) in omega (arith, n)) r (f * 256 + g) (omega arith) last in
    let first : r < length es / 2 → f * 256 + g ≤ pair_at es r = λ l. search rules in (
      λ e. (word_of (get_or es (2 * r) 0) (get_or es (2 * r + 1) 0), (word_there es r (omega arith), c.begins_with.ensures.0 e)),
      λ (y, (m, x)).
          c.begins_with.ensures.1
          (lowest_begins es c.requires (λ k. omega (arith, c.type_inv.entries k)) f g (omega arith) r below y (word_found es y m) x (first (omega arith))),
    )
