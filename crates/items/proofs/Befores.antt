-- What stands before a dot, read off the right sides: the symbol at the place below the dot.
use Rattle.std.proofs.Common.{◌≡◌, ℕ, zero, suc, ◌+◌, ◌-◌, ◌<◌, List, [], ◌∷◌, ◌++◌, length, Some, sym, refl, ap, ◌∙◌, arith}
use mathlib.Core.Option.{some}
use Rattle.grammar.specs.Grammar as grammar
use Rattle.grammar.specs.Grammar.{Grammar, rule_at, IsRule}
use Rattle.grammar.specs.Item.{Item, start_rule, augmented, Before}
use Rattle.solver.specs.declared.rule.Rule.{Rule}
use Rattle.solver.specs.Solution.{rule_of, rules_of}
use Rattle.items.specs.Symbols.{entry_at, right_side}

-- a list cut at one of its symbols
pub record Cut (xs : List ℕ) (i X : ℕ) : Type 0 where
  pub front : List ℕ
  pub back : List ℕ
  pub whole : xs ≡ front ++ X ∷ back
  pub long : length front ≡ i

pub entry→cut : (xs : List ℕ) (i X : ℕ) → entry_at xs i ≡ Some X → Cut xs i X
entry→cut [] i X e = absurd cc
entry→cut (x ∷ xs) zero X e = let s : x ≡ X = cc in record { front = []; back = xs; whole = ap (λ (y : ℕ). y ∷ xs) s; long = refl }
entry→cut (x ∷ xs) (suc i) X e =
    let c = entry→cut xs i X e in
    record { front = x ∷ c.front; back = c.back; whole = ap (λ (ys : List ℕ). x ∷ ys) c.whole; long = ap suc c.long }

pub cut→entry : (front : List ℕ) (X : ℕ) (back : List ℕ) → entry_at (front ++ X ∷ back) (length front) ≡ Some X
cut→entry [] X back = refl
cut→entry (x ∷ front) X back = cut→entry front X back

-- the rule with a number, the start rule too
pub record Numbered (ρs : List Rule) (r : ℕ) : Type 0 where
  pub rule : grammar.Rule
  pub is_rule : rule_at (rules_of ρs ++ start_rule ∷ []) r ≡ some rule
  pub right_is : rule.right ≡ right_side ρs r

pub numbered : (ρs : List Rule) (r i X : ℕ) → entry_at (right_side ρs r) i ≡ Some X → Numbered ρs r
numbered [] zero i X e = record { rule = start_rule; is_rule = refl; right_is = refl }
numbered [] (suc r) i X e = absurd cc
numbered (ρ ∷ ρs) zero i X e = record { rule = rule_of ρ; is_rule = refl; right_is = refl }
numbered (ρ ∷ ρs) (suc r) i X e = let n = numbered ρs r i X e in record { rule = n.rule; is_rule = n.is_rule; right_is = n.right_is }

pub rule_right_is : (ρs : List Rule) (r : ℕ) (ρ : grammar.Rule) → rule_at (rules_of ρs ++ start_rule ∷ []) r ≡ some ρ → right_side ρs r ≡ ρ.right
rule_right_is [] zero ρ e = let s : start_rule ≡ ρ = cc in ap (λ (τ : grammar.Rule). τ.right) s
rule_right_is [] (suc r) ρ e = absurd cc
rule_right_is (σ ∷ ρs) zero ρ e = let s : rule_of σ ≡ ρ = cc in ap (λ (τ : grammar.Rule). τ.right) s
rule_right_is (σ ∷ ρs) (suc r) ρ e = rule_right_is ρs r ρ e

module _ (g : Grammar) (ρs : List Rule) (same : g.rules ≡ rules_of ρs) where
  in_augmented : (r : ℕ) (ρ : grammar.Rule) → rule_at (rules_of ρs ++ start_rule ∷ []) r ≡ some ρ → IsRule (augmented g) r ρ
  in_augmented r ρ e = ap (λ (τs : List grammar.Rule). rule_at (τs ++ start_rule ∷ []) r) same ∙ e

  pub from_augmented : (r : ℕ) (ρ : grammar.Rule) → IsRule (augmented g) r ρ → rule_at (rules_of ρs ++ start_rule ∷ []) r ≡ some ρ
  from_augmented r ρ e = sym (ap (λ (τs : List grammar.Rule). rule_at (τs ++ start_rule ∷ []) r) same) ∙ e

  pub entry→before : (r d X : ℕ) → entry_at (right_side ρs r) d ≡ Some X → Before g (record { rule = r; dot = d + 1 }) X
  entry→before r d X e =
      let n = numbered ρs r d X e in
      let c = entry→cut (right_side ρs r) d X e in
      record {
        rule = n.rule;
        is_rule = in_augmented r n.rule n.is_rule;
        front = c.front;
        back = c.back;
        right_is = n.right_is ∙ c.whole;
        dot_is = omega (arith, c.long);
      }

  pub before→entry : (i : Item) (X : ℕ) → Before g i X → entry_at (right_side ρs i.rule) (i.dot - 1) ≡ Some X
  before→entry i X b =
      let d : i.dot - 1 ≡ length b.front = omega (arith, b.dot_is) in
      ap (λ (n : ℕ). entry_at (right_side ρs i.rule) n) d
      ∙ ap (λ (xs : List ℕ). entry_at xs (length b.front)) (rule_right_is ρs i.rule b.rule (from_augmented i.rule b.rule b.is_rule) ∙ b.right_is)
      ∙ cut→entry b.front X b.back

  pub before_up : (i : Item) (X : ℕ) → Before g i X → 0 < i.dot
  before_up i X b = omega (arith, b.dot_is)
