use Rattle.std.proofs.Common.{rules, get_or, bit_or}
use Rattle.words.proofs.Made.{made}
use Rattle.words.proofs.RowFacts.{join_is, join_fits}
use Rattle.words.proofs.set.value.WordsValue.join.Goals as goal

pub invariant_of-result : goal.invariant_of-result
invariant_of-result g c =
    let s = c.args.self in
    let t = c.args.other in
    let rows = made _ _ (λ a. bit_or (get_or s.rows a 0) (get_or t.rows a 0)) (λ a y q k. search rules) _ 21 c.from_fn.ensures.items in
    record {
      long = c.from_fn.ensures.items.long;
      fits = λ a h. rw (rows a 0 h) (join_fits s t a h);
    }

pub returns : goal.returns
returns g c =
    let s = c.args.self in
    let t = c.args.other in
    join_is s t _ (λ a h. made _ _ (λ a. bit_or (get_or s.rows a 0) (get_or t.rows a 0)) (λ a y q k. search rules) _ 21 c.from_fn.ensures.items a 0 h)
