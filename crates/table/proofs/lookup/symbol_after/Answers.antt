use Rattle.std.proofs.Common.{ℕ, List, ap, ◌∙◌, arith}
use Rattle.frames.specs.declared.header.Header.{Header}
use Rattle.frames.specs.Views.{raw}
use Rattle.items.specs.Entries.{item_of}
use Rattle.items.specs.Symbols.{entry_at}
use Rattle.table.proofs.Dots.{got, no_rule, symbol_told}
use Rattle.table.proofs.lookup.symbol_after.Goals as goal

pub returns-then-place-header-clause-none : goal.returns-then-place-header-clause-none
returns-then-place-header-clause-none c =
    no_rule (raw c.args.frames) (item_of c.args.place) (omega (arith, ap (λ (h : Header). h.p) c.header.ensures))

pub returns : goal.returns
returns c =
    let dot = c.args.place.dot in
    let e = c.copied.ensures ∙ got c.right.result.now dot c.get.result c.get.ensures.lookup ∙ ap (λ (xs : List ℕ). entry_at xs dot) c.right.ensures in
    let (some, none) = symbol_told (raw c.args.frames) (item_of c.args.place) c.copied.result e (omega (arith, ap (λ (h : Header). h.p) c.header.ensures)) in
    record { some = some; none = none }
