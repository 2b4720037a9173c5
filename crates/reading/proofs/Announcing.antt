-- The course that the code looks up is the choice of the definitions, and the states that it puts on are those that lead to after.
use Rattle.std.proofs.Common.{◌≡◌, ℕ, ◌+◌, ◌-◌, ◌≤◌, List, ◌∷◌, ◌++◌, length, drop, Option, None, Some, MatchOption, refl, ap, ◌∙◌, subst, arith, length-append, length-drop}
use Rattle.std.proofs.Math.Bridge.{le_prop}
use mathlib.Core.HLevel.{⊥_prop, ×_prop}
use mathlib.Core.List.{List-discrete}
use mathlib.Core.Logic.{∥∥₁_elim, ∥∥₁_map}
use mathlib.Core.Option.{some, discrete}
use native.Mathlib.Decide.{ℕ_discrete}
use Rattle.grammar.specs.Grammar.{Rule, IsToken}
use Rattle.frames.specs.Raw.{Raw}
use Rattle.table.specs.Checked.{contents}
use Rattle.table.specs.Contents.{rule_in}
use Rattle.table.specs.LookUps.{AfterDots}
use Rattle.table.proofs.Numbering.{rule_found}
use Rattle.reading.specs.declared.memory.Course.{Course}
use Rattle.reading.specs.declared.memory.Met.{Met}
use Rattle.reading.specs.declared.reading.Reading.{Reading}
use Rattle.reading.specs.Filling.{Faces}
use Rattle.reading.specs.Given.{symbols_of}
use Rattle.reading.specs.Model.{grammar_in, table_in}
use Rattle.reading.specs.Parts.{states, entries}
use Rattle.reading.specs.Remembered.{Leads, Meets, HasChoice}
use Rattle.reading.specs.Stack.{Pushes, Chosen}
use Rattle.reading.proofs.Deciding.{had, dec_dots}
use Rattle.reading.proofs.Held.{Held, hidden_choice, chosen_there, held_announce}
use Rattle.reading.proofs.Pushing.{pushes_one}

module _ {F : Type 0} (r : Reading F) {q p A : ℕ} (faces : Faces r q p A) (no_token : IsToken (grammar_in r) A → ⊥) where
  abbrev pub window : List ℕ
  window = symbols_of (entries r.window)

  abbrev R : Raw
  R = contents r.table

  held : Held R (q ∷ p ∷ faces.below) window
  held = subst (λ (s : List ℕ). Held R s window) faces.stack_is r.placed

  pub has_choice : ∥ HasChoice R p A window ∥₁
  has_choice = ∥∥₁_map (hidden_choice R r.table.good held faces.full faces.dots no_token) (λ c. (faces.below, c))

  -- rule n is chosen, and this is the stack then
  pub record Made (n : ℕ) : Type 0 where
    pub stack : List ℕ
    pub chosen : Chosen (grammar_in r) (table_in r) p faces.below A window n stack

  module _ (c : Course) (leads : ∥ Leads R p A window c ∥₁) where
    pub steps_few : c.steps ≤ 6
    steps_few = ∥∥₁_elim leads le_prop (λ l. l.few)

    choice_is : (table_in r).choice p A window ≡ some c.rule
    choice_is = had (discrete ℕ_discrete _ _) (∥∥₁_map leads (λ l. l.choice_is))

    pub course_made : Made c.rule
    course_made =
        let (stack, chosen) = chosen_there R r.table.good held faces.full faces.dots no_token c.rule choice_is in
        record { stack = stack; chosen = chosen }

    -- its states, above what was below the top
    course_upper : (l : Leads R p A window c) → l.states ++ drop 1 (states r.stack) ≡ course_made.stack
    course_upper l =
        let chosen = course_made.chosen in
        let rule = (rule_found R c.rule chosen.rule chosen.is_rule).1 in
        let pushed = subst (λ (τ : Rule). Pushes (table_in r) τ.right (p ∷ faces.below) course_made.stack) rule chosen.pushed in
        ap (λ (b : List ℕ). l.states ++ drop 1 b) faces.stack_is
        ∙ pushes_one (table_in r) (rule_in R c.rule).right (p ∷ faces.below) _ course_made.stack (l.pushes faces.below) pushed

    pub course_length : length course_made.stack ≡ c.steps + (length (states r.stack) - 1)
    course_length =
        had (ℕ_discrete _ _) (∥∥₁_map leads (λ l.
        let below = drop 1 (states r.stack) in
        omega (arith, ap length (course_upper l), length-append l.states below, length-drop 1 (states r.stack), l.many)))

    pub course_stack : {s : List ℕ}
        → ((unused upper : List ℕ) → c.states ≡ unused ++ upper → length upper ≡ c.steps → s ≡ upper ++ drop 1 (states r.stack))
        → s ≡ course_made.stack
    course_stack put = had (List-discrete ℕ_discrete _ _) (∥∥₁_map leads (λ l. put l.unused l.states l.states_are l.many ∙ course_upper l))

    pub course_held : Held R course_made.stack window
    course_held = held_announce R r.table.good held course_made.chosen

-- what is met, and what of it is hidden
module _ {F : Type 0} (r : Reading F) {q p : ℕ} (met : Met) (meets : ∥ Meets (contents r.table) q p (symbols_of (entries r.window)) met ∥₁) where
  abbrev Token : Type 0
  Token = IsToken (grammar_in r) met.symbol

  abbrev Rule_of : Course → Type 0
  Rule_of c = (Token → ⊥) × Leads (contents r.table) p met.symbol (symbols_of (entries r.window)) c

  abbrev Hidden : Course → Type 0
  Hidden c = (Token → ⊥) × ∥ Leads (contents r.table) p met.symbol (symbols_of (entries r.window)) c ∥₁

  pub met_dots : AfterDots (grammar_in r) (table_in r) q met.symbol
  met_dots = had (dec_dots (grammar_in r) (table_in r) q met.symbol) (∥∥₁_map meets (λ m. m.dots))

  pub met_goes_on : MatchOption met.course Token Hidden
  met_goes_on = by met.course refl
    where
      by : (o : Option Course) → met.course ≡ o → MatchOption o Token Hidden
      by None e = ∥∥₁_elim meets (×_prop le_prop le_prop) (λ m. subst (λ (o : Option Course). MatchOption o Token Rule_of) e m.goes_on)
      by (Some c) e =
          let both = ∥∥₁_map meets (λ m. subst (λ (o : Option Course). MatchOption o Token Rule_of) e m.goes_on) in
          (λ t. ∥∥₁_elim both ⊥_prop (λ b. b.0 t), ∥∥₁_map both (λ b. b.1))
