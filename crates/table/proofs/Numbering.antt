-- The rules of a file by their numbers, with the start rule behind the last: a number has a rule just when it is low enough, and its right side is
-- that of the frames. This holds of frames of any form.
use Rattle.std.proofs.Common.{◌≡◌, ℕ, zero, suc, ◌+◌, ◌<◌, ◌≤◌, ◌⊎◌, length, drop, sym, refl, ap, ◌∙◌, subst, inl, inr, arith}
use mathlib.Core.Option.{some}
use Rattle.std.proofs.lemmas.Bool.{cases_eq, cond-true, cond-false, eq-eqb, ne_eqb}
use Rattle.grammar.specs.Grammar.{Rule, rule_at, IsRule}
use Rattle.grammar.specs.Item.{start_rule, augmented}
use Rattle.grammar.proofs.Augmented.{WhichRule, which_rule, rule_augmented, start_is_rule}
use Rattle.frames.specs.Raw.{Raw, frame, header_of, right_of}
use Rattle.table.specs.Contents.{rule_in, rules_in, grammar_of}

module _ (R : Raw) where
  rules_there : (r m j : ℕ) → j < m → rule_at (rules_in R r m) j ≡ some (rule_in R (r + j))
  rules_there r zero j l = absurd (omega arith)
  rules_there r (suc m) zero l = let z : r ≡ r + 0 = omega arith in ap (λ (x : ℕ). some (rule_in R x)) z
  rules_there r (suc m) (suc j) l =
      let z : suc r + j ≡ r + suc j = omega arith in
      rules_there (suc r) m j (omega arith) ∙ ap (λ (x : ℕ). some (rule_in R x)) z

  rules_found : (r m j : ℕ) (ρ : Rule) → rule_at (rules_in R r m) j ≡ some ρ → (j < m) × (ρ ≡ rule_in R (r + j))
  rules_found r zero j ρ e = absurd cc
  rules_found r (suc m) zero ρ e =
      let z : r ≡ r + 0 = omega arith in
      let s : ρ ≡ rule_in R r = cc in
      (omega arith, s ∙ ap (rule_in R) z)
  rules_found r (suc m) (suc j) ρ e =
      let (l, s) = rules_found (suc r) m j ρ e in
      let z : suc r + j ≡ r + suc j = omega arith in
      (omega arith, s ∙ ap (rule_in R) z)

  pub rule_there : (r : ℕ) → r < (header_of R).p → IsRule (grammar_of R) r (rule_in R r)
  rule_there r l = let z : 0 + r ≡ r = omega arith in rules_there 0 (header_of R).p r l ∙ ap (λ (x : ℕ). some (rule_in R x)) z

  pub rule_found : (r : ℕ) (ρ : Rule) → IsRule (grammar_of R) r ρ → (r < (header_of R).p) × (ρ ≡ rule_in R r)
  rule_found r ρ e =
      let (l, s) = rules_found 0 (header_of R).p r ρ e in
      let z : 0 + r ≡ r = omega arith in
      (l, s ∙ ap (rule_in R) z)

  rules_many : (r n : ℕ) → length (rules_in R r n) ≡ n
  rules_many r zero = refl
  rules_many r (suc n) = ap suc (rules_many (suc r) n)

  pub many_rules : length (grammar_of R).rules ≡ (header_of R).p
  many_rules = rules_many 0 (header_of R).p

  pub right_is : (r : ℕ) → r < (header_of R).p → right_of R r ≡ drop 2 (frame R (1 + r))
  right_is r l = cond-false _ _ _ (ne_eqb r _ (λ e. absurd (omega (arith, e, l))))

  pub right_found : (r : ℕ) (ρ : Rule) → IsRule (grammar_of R) r ρ → right_of R r ≡ ρ.right
  right_found r ρ i = let (l, e) = rule_found r ρ i in right_is r l ∙ ap (λ (τ : Rule). τ.right) (sym e)

  -- the rules with the start rule
  start_right : right_of R (header_of R).p ≡ start_rule.right
  start_right = cond-true _ _ _ (eq-eqb (header_of R).p _ refl)

  -- A rule of the grammar with the start rule, whose right side is that of the frames.
  pub record Augmented (r : ℕ) : Type 0 where
    pub rule : Rule
    pub is_rule : IsRule (augmented (grammar_of R)) r rule
    pub right_is : right_of R r ≡ rule.right

  pub augmented_there : (r : ℕ) → r ≤ (header_of R).p → Augmented r
  augmented_there r l = by (cases_eq r (header_of R).p)
    where
      by : (r ≡ (header_of R).p) ⊎ (r ≡ (header_of R).p → ⊥) → Augmented r
      by (inl e) = subst Augmented (many_rules ∙ sym e) (record {
        rule = start_rule;
        is_rule = start_is_rule (grammar_of R);
        right_is = ap (right_of R) many_rules ∙ start_right;
      })
      by (inr n) =
          let h : r < (header_of R).p = omega (arith, n) in
          record { rule = rule_in R r; is_rule = rule_augmented (grammar_of R) r _ (rule_there r h); right_is = right_is r h }

  pub augmented_found : (r : ℕ) (ρ : Rule) → IsRule (augmented (grammar_of R)) r ρ → (r ≤ (header_of R).p) × (right_of R r ≡ ρ.right)
  augmented_found r ρ i = by (which_rule (grammar_of R) r ρ i)
    where
      by : WhichRule (grammar_of R) r ρ → (r ≤ (header_of R).p) × (right_of R r ≡ ρ.right)
      by (inl j) = let (l, _) = rule_found r ρ j in (omega (arith, l), right_found r ρ j)
      by (inr (n, e)) =
          let p : r ≡ (header_of R).p = n ∙ many_rules in
          (omega (arith, p), ap (right_of R) p ∙ start_right ∙ ap (λ (τ : Rule). τ.right) (sym e))
