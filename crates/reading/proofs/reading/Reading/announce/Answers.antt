use Rattle.std.proofs.Common.{List, sym, ap, subst, refl, arith}
use Rattle.table.specs.Checked.{contents}
use Rattle.reading.specs.Given.{symbols_of}
use Rattle.reading.specs.Model.{model}
use Rattle.reading.specs.Parts.{entries}
use Rattle.reading.specs.State.{announced}
use Rattle.reading.proofs.Announcing.{steps_few, course_made, course_length, course_stack, course_held}
use Rattle.reading.proofs.Held.{Held}
use Rattle.reading.proofs.Moving.{announces, deepens}
use Rattle.reading.proofs.reading.Reading.announce.Goals as goal

pub has_room-requires-clause-few : goal.has_room-requires-clause-few
has_room-requires-clause-few g c =
    let (q, p, A, (faces, no_token, leads)) = c.requires.chosen in
    omega (arith, steps_few c.args.self.now faces no_token c.args.course leads)

pub replace_top-requires-clause-few : goal.replace_top-requires-clause-few
replace_top-requires-clause-few g c =
    let (q, p, A, (faces, no_token, leads)) = c.requires.chosen in
    omega (arith, steps_few c.args.self.now faces no_token c.args.course leads)

pub returns-then-not-has_room : goal.returns-then-not-has_room
returns-then-not-has_room g c =
    let r = c.args.self.now in
    let (q, p, A, (faces, no_token, leads)) = c.requires.chosen in
    λ from q m m' so_far.
    deepens so_far c.end.new.self c.end.ensures.table faces (course_made r faces no_token c.args.course leads).chosen
    (grind (arith, course_length r faces no_token c.args.course leads, c.has_room.ensures, c.if-not-has_room.true)) c.end.ensures.state

pub invariant_of-self-clause-placed : goal.invariant_of-self-clause-placed
invariant_of-self-clause-placed g c =
    let r = c.args.self.now in
    let (q, p, A, (faces, no_token, leads)) = c.requires.chosen in
    let stack = course_stack r faces no_token c.args.course leads c.replace_top.ensures in
    subst (λ (s : List _). Held (contents r.table) s (symbols_of (entries r.window))) (sym stack)
    (course_held r faces no_token c.args.course leads)

pub returns : goal.returns
returns g c =
    let r = c.args.self.now in
    let (q, p, A, (faces, no_token, leads)) = c.requires.chosen in
    let stack = course_stack r faces no_token c.args.course leads c.replace_top.ensures in
    λ from q m m' so_far.
    announces so_far _ refl faces (course_made r faces no_token c.args.course leads).chosen
    (grind (arith, course_length r faces no_token c.args.course leads, c.has_room.ensures, c.if-not-has_room.false))
    (ap (announced (model r)) stack)
