-- The order that a join makes. Joins and products are monotone in it, since products spread over joins; so the equations are.
use Rattle.std.proofs.Common.{◌≡◌, ℕ, zero, suc, ◌<◌, ◌≤◌, true, false, cond, eqb, ltb, List, [], ◌∷◌, sym, ap, ◌∙◌, ⊎_elim}
use mathlib.Core.Option.{some}
use Rattle.std.proofs.lemmas.Bool.{cases_lt, lt-ltb, le-ltb, eq-eqb, cond-true, cond-false}
use Rattle.grammar.specs.Grammar.{Rule, rule_at}
use Rattle.grammar.specs.Equations.{Kind, value, product_of, share, join_of}
use Rattle.solver.specs.Laws.{Laws}
use Rattle.solver.specs.Rounds.{Below}

-- each nonterminal's value by S lies below that by S'
abbrev pub Under : {V : Type 0} → Kind V → (ℕ → V) → (ℕ → V) → Type 0
Under o S S' = (A : ℕ) → 32 ≤ A → Below o (S A) (S' A)

module _ {V : Type 0} {o : Kind V} {height : V → ℕ} {chain : ℕ} (laws : Laws o height chain) where
  pub below_refl : (x : V) → Below o x x
  below_refl x = laws.join_idempotent x

  pub below_trans : (x y z : V) → Below o x y → Below o y z → Below o x z
  below_trans x y z p q = ap (o.join x) (sym q) ∙ sym (laws.join_associative x y z) ∙ ap (λ w. o.join w z) p ∙ q

  pub below_antisym : (x y : V) → Below o x y → Below o y x → x ≡ y
  below_antisym x y p q = sym q ∙ laws.join_commutative y x ∙ p

  pub below_left : (x y : V) → Below o x (o.join x y)
  below_left x y = sym (laws.join_associative x x y) ∙ ap (λ w. o.join w y) (laws.join_idempotent x)

  pub below_right : (x y : V) → Below o y (o.join x y)
  below_right x y = ap (o.join y) (laws.join_commutative x y) ∙ below_left y x ∙ laws.join_commutative y x

  pub below_join : (x y z : V) → Below o x z → Below o y z → Below o (o.join x y) z
  below_join x y z p q = laws.join_associative x y z ∙ ap (o.join x) q ∙ p

  pub below_bottom : (x : V) → Below o o.bottom x
  below_bottom x = laws.bottom_joined x

  join_mono : (x y z w : V) → Below o x z → Below o y w → Below o (o.join x y) (o.join z w)
  join_mono x y z w p q =
      below_join x y (o.join z w) (below_trans x z (o.join z w) p (below_left z w)) (below_trans y w (o.join z w) q (below_right z w))

  product_mono : (x y z w : V) → Below o x z → Below o y w → Below o (o.product x y) (o.product z w)
  product_mono x y z w p q =
      below_trans (o.product x y) (o.product z y) (o.product z w)
      (sym (laws.spreads_left x z y) ∙ ap (λ v. o.product v y) p)
      (sym (laws.spreads_right z y w) ∙ ap (o.product z) q)

  module _ (S S' : ℕ → V) (under : Under o S S') where
    value_mono : (X : ℕ) → Below o (value o S X) (value o S' X)
    value_mono X =
        ⊎_elim
        (λ (token : X < 32). rw (cond-true (ltb X 32) (o.token X) (S X) (lt-ltb X 32 token), cond-true (ltb X 32) (o.token X) (S' X) (lt-ltb X 32 token)) (below_refl (o.token X)))
        (λ (other : 32 ≤ X). rw (cond-false (ltb X 32) (o.token X) (S X) (le-ltb X 32 other), cond-false (ltb X 32) (o.token X) (S' X) (le-ltb X 32 other)) (under X other))
        (cases_lt X 32)

    pub products_mono : (α : List ℕ) → Below o (product_of o S α) (product_of o S' α)
    products_mono [] = below_refl o.unit
    products_mono (X ∷ α) = product_mono _ _ _ _ (value_mono X) (products_mono α)

    pub joins_mono : (ρs : List Rule) (A : ℕ) → Below o (join_of o S ρs A) (join_of o S' ρs A)
    joins_mono [] A = below_refl o.bottom
    joins_mono (ρ ∷ ρs) A =
        join_mono _ _ _ _
        (elim (eqb ρ.left A) as (λ b. Below o (cond b (product_of o S ρ.right) o.bottom) (cond b (product_of o S' ρ.right) o.bottom))
        [ true ↦ products_mono ρ.right | false ↦ below_refl o.bottom ])
        (joins_mono ρs A)

  -- the product of a rule of A lies below what the rules give A
  pub rule_below : (S : ℕ → V) (ρs : List Rule) (r : ℕ) (ρ : Rule) (A : ℕ) → rule_at ρs r ≡ some ρ → ρ.left ≡ A
      → Below o (product_of o S ρ.right) (join_of o S ρs A)
  rule_below S [] r ρ A i e = absurd cc
  rule_below S (τ ∷ ρs) (suc r) ρ A i e =
      below_trans _ (join_of o S ρs A) _ (rule_below S ρs r ρ A i e) (below_right (share o S A τ) (join_of o S ρs A))
  rule_below S (τ ∷ ρs) zero ρ A i e =
      let same : τ ≡ ρ = cc in
      let own : share o S A τ ≡ product_of o S ρ.right =
      ap (share o S A) same ∙ cond-true (eqb ρ.left A) (product_of o S ρ.right) o.bottom (eq-eqb ρ.left A e) in
      rw (← own) (below_left (share o S A τ) (join_of o S ρs A))
