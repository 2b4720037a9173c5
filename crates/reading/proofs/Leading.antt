-- Where the right side of a chosen rule leads does not depend on what lies below the state that it is chosen at.
use Rattle.std.proofs.Common.{◌≡◌, ℕ, suc, ◌≤◌, List, [], ◌∷◌, ◌++◌, length, None, refl, sym, ap, ◌∙◌, subst, subst₂, arith}
use mathlib.Core.HLevel.{⊥_prop}
use mathlib.Core.Logic.{∥∥₁_elim, ∥∥₁_map}
use mathlib.Core.Option.{some}
use Rattle.std.proofs.Math.Bridge.{le_prop}
use Rattle.grammar.specs.Grammar.{Rule, IsRule}
use Rattle.grammar.specs.Table.{Table}
use Rattle.grammar.proofs.Lists.{head_is}
use Rattle.frames.specs.Raw.{Raw, header_of}
use Rattle.table.specs.Contents.{rule_in, grammar_of, table_of}
use Rattle.table.specs.Rows.{AcceptedFile}
use Rattle.table.specs.States.{answered}
use Rattle.table.proofs.Defining.{answered_none}
use Rattle.table.proofs.Numbering.{rule_there, rule_found}
use Rattle.table.proofs.Files.{formed_file}
use Rattle.table.proofs.Formed.{right_short}
use Rattle.reading.specs.declared.memory.Course.{Course}
use Rattle.reading.specs.Remembered.{HasChoice, Leads}
use Rattle.reading.specs.Stack.{Pushes}
use Rattle.reading.proofs.Pushing.{Pushed}

-- what was pushed onto p, with anything below
pub record Upon (T : Table) (ω : List ℕ) (p : ℕ) (below s' : List ℕ) : Type 0 where
  pub states : List ℕ
  pub stack_is : s' ≡ states ++ p ∷ below
  pub many : length states ≡ length ω
  pub pushes : (b : List ℕ) → Pushes T ω (p ∷ b) (states ++ p ∷ b)

pub pushed_upon : (T : Table) (ω : List ℕ) (p : ℕ) (below s' : List ℕ) → Pushes T ω (p ∷ below) s' → Upon T ω p below s'
pushed_upon T [] p below s' e = record { states = []; stack_is = e; many = refl; pushes = λ b. refl }
pushed_upon T (X ∷ ω) p below s' (x, q, (b, (more, (n, e)))) =
    let u = pushed_upon T ω p below (x ∷ b) more in by u.states u.stack_is u.many u.pushes
  where
    by : (s : List ℕ) → x ∷ b ≡ s ++ p ∷ below → length s ≡ length ω → ((b : List ℕ) → Pushes T ω (p ∷ b) (s ++ p ∷ b))
        → Upon T (X ∷ ω) p below s'
    by [] i m more =
        record {
          states = q ∷ [];
          stack_is = e ∙ ap (λ (l : List ℕ). q ∷ l) i;
          many = ap suc m;
          pushes = λ b. (p, q, (b, (more b, (ap (λ (v : ℕ). T.next v X) (sym (head_is i)) ∙ n, refl))));
        }
    by (z ∷ s) i m more =
        record {
          states = q ∷ z ∷ s;
          stack_is = e ∙ ap (λ (l : List ℕ). q ∷ l) i;
          many = ap suc m;
          pushes = λ b. (z, q, (s ++ p ∷ b, (more b, (ap (λ (v : ℕ). T.next v X) (sym (head_is i)) ∙ n, refl))));
        }

module _ (R : Raw) (good : ∥ AcceptedFile R ∥₁) {p A : ℕ} {y : List ℕ} (there : ∥ HasChoice R p A y ∥₁) where
  pub choice_some : answered ((table_of R).choice p A y) ≡ None → ⊥
  choice_some e = ∥∥₁_elim there ⊥_prop (λ (b, (r, (s, c))). answered_none _ e r c.choice_is)

  module _ (r : ℕ) (chosen : (table_of R).choice p A y ≡ some r) where
    pub rule_within : suc r ≤ (header_of R).p
    rule_within =
        ∥∥₁_elim there le_prop (λ (b, (r', (s, c))).
        let both : some r ≡ some r' = sym chosen ∙ c.choice_is in
        let same : r ≡ r' = cc in
        let (l, i) = rule_found R r' c.rule c.is_rule in
        omega (arith, same, l))

    pub right_few : length (rule_in R r).right ≤ 6
    right_few = ∥∥₁_elim good le_prop (λ a. right_short R (formed_file R a) r rule_within)

    pub is_rule : IsRule (grammar_of R) r (rule_in R r)
    is_rule = rule_there R r rule_within

    pub leads_on : ∥ Pushed (table_of R) (rule_in R r).right (p ∷ []) ∥₁
    leads_on =
        ∥∥₁_map there (λ (b, (r', (s, c))).
        let both : some r' ≡ some r = sym c.choice_is ∙ chosen in
        let same : r' ≡ r = cc in
        let rule = (rule_found R r' c.rule c.is_rule).1 ∙ ap (rule_in R) same in
        let u = pushed_upon (table_of R) (rule_in R r).right p b s (subst (λ (τ : Rule). Pushes (table_of R) τ.right (p ∷ b) s) rule c.pushed) in
        (u.states ++ p ∷ [], u.pushes []))

    -- what is looked up as its right side
    module _ {right : List ℕ} (is : (ρ : Rule) → IsRule (grammar_of R) r ρ → right ≡ ρ.right) where
      pub right_is : right ≡ (rule_in R r).right
      right_is = is (rule_in R r) is_rule

      pub steps_few : length right ≤ 6
      steps_few = omega (arith, ap length right_is, right_few)

      pub leads_there : {s : List ℕ} → s ≡ p ∷ [] → ∥ Pushed (table_of R) right s ∥₁
      leads_there e =
          subst₂ (λ (ω s : List ℕ). ∥ Pushed (table_of R) ω s ∥₁) (sym right_is) (sym e) leads_on

      -- the states that were pushed are those above the lowest of the stack
      pub found : (s s' : List ℕ) (c : Course) → s ≡ p ∷ [] → Pushes (table_of R) right s s' → c.rule ≡ r → c.steps ≡ length right
          → ((upper : List ℕ) (lowest : ℕ) → length upper ≤ 8 → s' ≡ upper ++ lowest ∷ [] → (unused : List ℕ) × (c.states ≡ unused ++ upper))
          → Leads R p A y c
      found s s' c e pushed rule_is steps_are above =
          let upon = pushed_upon (table_of R) (rule_in R r).right p [] s' (subst₂ (λ (ω t : List ℕ). Pushes (table_of R) ω t s') right_is e pushed) in
          let (unused, states_are) = above upon.states p (omega (arith, upon.many, right_few)) upon.stack_is in
          record {
            choice_is = chosen ∙ ap (λ (n : ℕ). some n) (sym rule_is);
            few = omega (arith, steps_are, steps_few);
            states = upon.states;
            unused = unused;
            many = omega (arith, upon.many, steps_are, ap length right_is);
            states_are = states_are;
            pushes = subst (λ (n : ℕ). (b : List ℕ) → Pushes (table_of R) (rule_in R n).right (p ∷ b) (upon.states ++ p ∷ b)) (sym rule_is) upon.pushes;
          }
