use Rattle.std.proofs.Common.{List, drop, sym, ap, ◌∙◌, subst, subst₂}
use Rattle.table.specs.Checked.{contents}
use Rattle.reading.specs.Given.{symbols_of}
use Rattle.reading.specs.Parts.{entries}
use Rattle.reading.proofs.Held.{Held, held_take, token_first}
use Rattle.reading.proofs.Invariant.{symbols_drop}
use Rattle.reading.proofs.reading.Reading.take.Goals as goal

pub take_first-token-requires : goal.take_first-token-requires
take_first-token-requires g c =
    let r = c.args.self.now in
    let R = contents r.table in
    let es = entries r.window in
    let (q, p, a, (faces, token)) = c.requires.faces in
    let held = subst (λ (s : List _). Held R s (symbols_of es)) faces.stack_is r.placed in
    token_first R r.table.good es held faces.full faces.dots token

pub invariant_of-self-clause-placed : goal.invariant_of-self-clause-placed
invariant_of-self-clause-placed g c =
    let r = c.args.self.now in
    let R = contents r.table in
    let es = entries r.window in
    let (q, p, a, (faces, token)) = c.requires.faces in
    let held = subst (λ (s : List _). Held R s (symbols_of es)) faces.stack_is r.placed in
    let stack = c.pop.ensures ∙ ap (drop 1) faces.stack_is in
    let window = ap symbols_of c.take_first-token.ensures.rest ∙ symbols_drop es in
    subst₂ (Held R) (sym stack) (sym window) (held_take R r.table.good held faces.full faces.dots token)
