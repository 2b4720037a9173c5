-- What is proved of steps holds of readings: each is placed.
use Rattle.std.proofs.Common.{◌≡◌, ℕ, [], ◌∷◌, length, Option, sym, ap, ap₂, ◌∙◌, subst}
use mathlib.Core.Logic.{∥∥₁_elim, ∥∥₁_map, ∥∥₁_prop}
use Rattle.std.proofs.Math.Option.{some-injective}
use Rattle.grammar.specs.Grammar.{start_symbol, end_mark}
use Rattle.grammar.specs.Sound.{Sound}
use Rattle.grammar.specs.Table.{Accepted}
use Rattle.table.specs.Checked.{contents, is_accepted}
use Rattle.table.specs.Contents.{grammar_of, table_of}
use Rattle.table.proofs.Files.{sound_grammar, accepted_table}
use Rattle.reading.specs.declared.answer.ReadRefusal.{ReadRefusal}
use Rattle.reading.specs.declared.answer.View.{View}
use Rattle.reading.specs.declared.reading.Reading.{Reading}
use Rattle.reading.specs.Actions.{StandsFor}
use Rattle.reading.specs.Model.{model, view_of, grammar_in, table_in}
use Rattle.reading.specs.Run.{Course, Moves, at_front}
use Rattle.reading.specs.Sheet.{moves_for}
use Rattle.reading.specs.Stack.{lowest, upon}
use Rattle.reading.specs.State.{State, opening}
use Rattle.reading.specs.Theorems.{StepsOfReadings, OpeningsStand, ReadingsAct, SheetsAreOne}
use Rattle.reading.proofs.Acting.{stands, steps_act}
use Rattle.reading.proofs.Placing.{placed_opening}
use Rattle.reading.proofs.Stepping.{PlacedState}
use Rattle.reading.proofs.Unique.{steps_are_one, moves_are_one}

-- what follows where the table is accepted and the reading placed
module _ {F : Type 0} (r : Reading F) where
  of_reading : {P : Type 0} → (Sound (grammar_in r) → Accepted (grammar_in r) (table_in r) → PlacedState (grammar_in r) (table_in r) (model r) → P) → ∥ P ∥₁
  of_reading f =
      ∥∥₁_elim (is_accepted r.table) ∥∥₁_prop (λ a.
      ∥∥₁_map r.placed (λ p. f (sound_grammar (contents r.table) a) (accepted_table (contents r.table) a) p))

pub steps_of_readings : {F : Type 0} → StepsOfReadings F
steps_of_readings r r₁ r₂ m m₁ m₂ a₁ a₂ x y =
    of_reading r (λ sound ok p.
    (steps_are_one (grammar_in r) (table_in r) sound ok (model r) m p x.gave y.gave a₁ a₂ (model r₁) (model r₂) m₁ m₂ x.step y.step).1)

pub readings_act : {F : Type 0} → ReadingsAct F
readings_act r r' m m' a x c =
    of_reading r (λ sound ok p. steps_act (grammar_in r) (table_in r) sound ok c (model r) (model r') m m' x.gave a p x.step)

pub openings_stand : {F : Type 0} → OpeningsStand F
openings_stand R good c r o =
    subst (λ (s : State). StandsFor c s.stack (start_symbol ∷ end_mark ∷ [])) (sym o.state)
    (stands (grammar_of R) (sound_grammar R good) (table_of R) (accepted_table R good) c (upon lowest o.next))

pub sheets_are_one : {F : Type 0} → SheetsAreOne F
sheets_are_one {F} R good m m₁ m₂ list list₁ list₂ a₁ a₂ x y =
    let sound = sound_grammar R good in
    let ok = accepted_table R good in
    let top : y.top ≡ x.top = some-injective y.top x.top (sym y.next ∙ x.next) in
    let moves = subst (λ (q : ℕ). Moves (grammar_of R) (table_of R) (moves_for (length list)) (opening q) m y.course) top y.moves in
    let c : x.course ≡ y.course =
    moves_are_one (grammar_of R) (table_of R) sound ok (moves_for (length list)) (opening x.top) m
    (placed_opening (grammar_of R) sound (table_of R) ok x.next) x.course y.course x.moves moves in
    let view = x.view ∙ ap (λ (d : Course F). view_of d.state) c ∙ sym y.view in
    let refusal = x.refusal ∙ ap (λ (d : Course F). d.refusal) c ∙ sym y.refusal in (
      ap₂ (λ (v : View) (e : Option (ReadRefusal F)). record { view = v; refusal = e }) view refusal,
      (
        x.source ∙ ap (λ (d : Course F). d.meaning) c ∙ sym y.source,
        x.written ∙ ap (λ (d : Course F). at_front d.rules list) c ∙ sym y.written,
      ),
    )
