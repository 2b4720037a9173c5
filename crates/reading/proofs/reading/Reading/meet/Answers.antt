use Rattle.grammar.specs.Grammar.{IsToken}
use Rattle.table.specs.Contents.{grammar_of}
use Rattle.reading.specs.Filling.{Faces}
use Rattle.reading.proofs.Moved.{moved, same_faces, same_filling}
use Rattle.reading.proofs.Moving.{takes}
use Rattle.reading.proofs.Remembering.{none_there}
use Rattle.reading.proofs.reading.Reading.meet.Goals as goal

pub returns-in-None : goal.returns-in-None
returns-in-None g c =
    let r = c.args.self.now in
    let met = c.met in
    let (b, stack) = c.requires.stack in
    let (behind, first) = c.take.ensures.first in
    let faces : Faces r c.args.top c.args.below met.result.symbol =
    record { below = b; stack_is = stack; dots = met.ensures.dots; full = c.requires.full } in
    let token = none_there _ c.in-None.is met.ensures.goes_on in
    λ from q m m' so_far.
    takes (same_filling r met.new.self met.ensures.table met.ensures.state so_far) c.take.new.self c.take.ensures.table
    (same_faces r met.new.self met.ensures.table met.ensures.state faces)
    (moved r met.new.self met.ensures.table met.ensures.state (λ R s. IsToken (grammar_of R) met.result.symbol) token) first
    c.take.ensures.state

pub returns-in-Some : goal.returns-in-Some
returns-in-Some g c =
    λ r q m m' so_far.
    c.announce.ensures r q m m' (same_filling c.args.self.now c.met.new.self c.met.ensures.table c.met.ensures.state so_far)
