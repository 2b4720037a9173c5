use Rattle.std.proofs.Common.{List, [], ◌∷◌, ◌++◌, sym, ap, ◌∙◌, append_assoc}
use Rattle.std.specs.Slice.Iter.{iter_rest}
use Rattle.std.specs.Iterator.Adapters.{rev_source}
use Rattle.frames.specs.Views.{raw}
use Rattle.table.specs.Contents.{table_of}
use Rattle.table.specs.States.{onwards, after_in}
use Rattle.table.proofs.LookedUp.{after_none}
use Rattle.table.proofs.lookup.after.Goals as goal

pub returns-in_err-state : goal.returns-in_err-state
returns-in_err-state c =
    let (ω, (cut, at)) = c.loop-symbol.invariant in
    let T = table_of (raw c.args.frames) in
    let X = c.in-Some.symbol.now in
    let front = iter_rest (rev_source c.next.new.self) in
    c.from_residual.ensures
    ∙ after_none T c.args.q front (X ∷ ω) (ap (onwards T X) at ∙ sym c.successor_of.ensures ∙ c.in_err-state.was)
    ∙ ap (after_in T c.args.q) (sym (cut ∙ ap (λ (l : List _). l ++ ω) c.in-Some.ensures.steps ∙ append_assoc front (X ∷ []) ω))
