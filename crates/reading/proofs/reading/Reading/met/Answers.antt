use Rattle.std.proofs.Common.{◌≤◌, List, sym, subst, arith}
use mathlib.Core.Logic.{∥∥₁_map}
use Rattle.grammar.specs.Grammar.{Every}
use Rattle.table.specs.Checked.{contents}
use Rattle.reading.specs.Parts.{entries}
use Rattle.reading.specs.Remembered.{Meets}
use Rattle.reading.proofs.Announcing.{met_dots, met_goes_on}
use Rattle.reading.proofs.Held.{full_length, held_symbols}
use Rattle.reading.proofs.Remembering.{first_some}
use Rattle.reading.proofs.Windows.{symbols_length}
use Rattle.reading.proofs.reading.Reading.met.Goals as goal

pub word-word-requires : goal.word-word-requires
word-word-requires g c =
    let r = c.args.self.now in
    omega (arith, full_length (contents r.table) r.table.good _ c.requires.full, symbols_length (entries r.window))

pub met-requires : goal.met-requires
met-requires g c =
    let r = c.args.self.now in
    let w = c.word-word.result in
    first_some w.first w.second (subst (Every (λ a. 1 ≤ a)) (sym c.word-word.ensures) (held_symbols (contents r.table) r.placed))

pub returns-in-Some-clause-dots : goal.returns-in-Some-clause-dots
returns-in-Some-clause-dots g c =
    let r = c.args.self.now in
    let R = contents r.table in
    met_dots r c.in-Some.met.now (∥∥₁_map r.remembers (λ m.
    subst (λ (y : List _). Meets R c.args.top c.args.below y c.in-Some.met.now) c.word-word.ensures (c.in-Some.ensures R m)))

pub returns-in-Some-clause-goes_on : goal.returns-in-Some-clause-goes_on
returns-in-Some-clause-goes_on g c =
    let r = c.args.self.now in
    let R = contents r.table in
    met_goes_on r c.in-Some.met.now (∥∥₁_map r.remembers (λ m.
    subst (λ (y : List _). Meets R c.args.top c.args.below y c.in-Some.met.now) c.word-word.ensures (c.in-Some.ensures R m)))

pub invariant_of-self-clause-remembers : goal.invariant_of-self-clause-remembers
invariant_of-self-clause-remembers g c =
    let r = c.args.self.now in
    ∥∥₁_map r.remembers (λ m. c.note.ensures (contents r.table) m c.find_met-met.ensures)

pub returns-clause-goes_on : goal.returns-clause-goes_on
returns-clause-goes_on g c =
    let r = c.args.self.now in
    met_goes_on r c.find_met-met.result
    ∣ subst (λ (y : List _). Meets (contents r.table) c.args.top c.args.below y c.find_met-met.result) c.word-word.ensures c.find_met-met.ensures ∣₁
