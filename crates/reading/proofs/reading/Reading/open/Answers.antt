use Rattle.std.proofs.Common.{◌≡◌, List, [], ◌∷◌, refl, sym, ap, ap₂, ◌∙◌, subst₂}
use Rattle.table.specs.Checked.{contents}
use Rattle.table.proofs.Defining.{answered_some}
use Rattle.reading.specs.declared.answer.Standing.TheVariants.{Running}
use Rattle.reading.specs.Given.{symbols_of}
use Rattle.reading.specs.Parts.{states}
use Rattle.reading.proofs.Held.{Held, start_there, held_opening}
use Rattle.reading.proofs.reading.Reading.open.Goals as goal

pub unreachable-requires : goal.unreachable-requires
unreachable-requires g c = start_there (contents c.args.table) c.args.table.good (sym c.successor.ensures ∙ c.in_default.is)

pub invariant_of-result-clause-placed : goal.invariant_of-result-clause-placed
invariant_of-result-clause-placed g c =
    let R = contents c.args.table in
    let stack : states c.push.new.self ≡ c.in-Some.top ∷ 0 ∷ [] = cc in
    let next = answered_some _ c.in-Some.top (sym c.successor.ensures ∙ c.in-Some.is) in
    subst₂ (Held R) (sym stack) (sym (ap symbols_of c.new-window.ensures)) (held_opening R c.args.table.good next)

pub returns : goal.returns
returns g c =
    let stack : states c.push.new.self ≡ c.in-Some.top ∷ 0 ∷ [] = cc in
    record {
      table = refl;
      top = c.in-Some.top;
      next = answered_some _ c.in-Some.top (sym c.successor.ensures ∙ c.in-Some.is);
      state = ap₂ (λ (s : List _) (w : List _). record { stack = s; window = w; tokens = 0; rules = 0; moves = 0; standing = Running }) stack
          c.new-window.ensures;
    }

pub invariant_of-result-clause-remembers : goal.invariant_of-result-clause-remembers
invariant_of-result-clause-remembers g c = ∣ c.new.ensures (contents c.args.table) ∣₁
