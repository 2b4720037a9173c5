use Rattle.std.proofs.Common.{List, [], ◌∷◌, ◌++◌, length, get_or, sym, ap, ◌∙◌, subst, append_assoc, arith, length-append}
use Rattle.std.specs.Slice.Iter.{iter_rest}
use Rattle.std.specs.Iterator.Adapters.{rev_source}
use Rattle.table.specs.Checked.{contents}
use Rattle.table.specs.Contents.{table_of}
use Rattle.table.proofs.Defining.{answered_some, answered_none}
use Rattle.reading.specs.Parts.{states}
use Rattle.reading.specs.Stack.{Pushes}
use Rattle.reading.proofs.Pathways.{pushed_length}
use Rattle.reading.proofs.Pushing.{top_there, successor_there}
use Rattle.reading.proofs.stack.Stack.push_along.Goals as goal

pub unreachable-requires : goal.unreachable-requires
unreachable-requires c =
    let (ω, (cut, more)) = c.loop-symbol.invariant in
    let T = table_of (contents c.args.table) in
    let X = c.in-Some.symbol.now in
    let front = iter_rest (rev_source c.next.new.self) in
    let whole = cut ∙ ap (λ (l : List _). l ++ ω) c.in-Some.ensures.steps ∙ append_assoc front (X ∷ []) ω in
    let top = top_there T c.args.symbols.now front X ω _ _ whole c.requires.there more in
    omega (arith, c.in_default.len_below, ap length c.states.ensures, ap length top)

pub unreachable-requires-in_default-successor : goal.unreachable-requires-in_default-successor
unreachable-requires-in_default-successor c =
    let (ω, (cut, more)) = c.loop-symbol.invariant in
    let T = table_of (contents c.args.table) in
    let X = c.in-Some.symbol.now in
    let front = iter_rest (rev_source c.next.new.self) in
    let whole = cut ∙ ap (λ (l : List _). l ++ ω) c.in-Some.ensures.steps ∙ append_assoc front (X ∷ []) ω in
    let (q, next) = successor_there T c.args.symbols.now front X ω _ _ whole c.requires.there more in
    let top = ap (λ (l : List _). get_or l 0 0) c.states.ensures in
    answered_none _ (sym c.successor.ensures ∙ c.in_default-successor.is) q (ap (λ p. T.next p X) top ∙ next)

pub push-requires : goal.push-requires
push-requires c =
    let (ω, (cut, more)) = c.loop-symbol.invariant in
    let T = table_of (contents c.args.table) in
    let X = c.in-Some.symbol.now in
    let front = iter_rest (rev_source c.next.new.self) in
    let whole = cut ∙ ap (λ (l : List _). l ++ ω) c.in-Some.ensures.steps ∙ append_assoc front (X ∷ []) ω in
    omega (arith, c.requires.room, ap length whole, length-append front (X ∷ ω), pushed_length T ω _ _ more)

pub loop-symbol-preserved : goal.loop-symbol-preserved
loop-symbol-preserved c =
    let (ω, (cut, more)) = c.loop-symbol.invariant in
    let T = table_of (contents c.args.table) in
    let X = c.in-Some.symbol.now in
    let front = iter_rest (rev_source c.next.new.self) in
    let whole = cut ∙ ap (λ (l : List _). l ++ ω) c.in-Some.ensures.steps ∙ append_assoc front (X ∷ []) ω in
    let s = states c.args.self.now in
    let next = c.in-Some-successor.next in
    let top = top_there T c.args.symbols.now front X ω s _ whole c.requires.there more in
    let state = ap (λ (l : List _). get_or l 0 0) c.states.ensures in
    let there = ap (λ p. T.next p X) (sym state) ∙ answered_some _ next (sym c.successor.ensures ∙ c.in-Some-successor.is) in (
      X ∷ ω,
      (whole, (_, next, (_, (subst (Pushes T ω s) top more, (there, c.push.ensures ∙ ap (λ (l : List _). next ∷ l) top))))),
    )
