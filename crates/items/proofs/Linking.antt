-- Seeds and links as equations in yes and no: the least solution tells what is found. It holds nothing else, since it is made from bottom by
-- rules; and it holds all of that, since it solves the equations.
use Rattle.std.proofs.Common.{◌≡◌, ℕ, zero, suc, ◌≤◌, Bool, true, false, ◌&&◌, ◌⊎◌, List, [], ◌∷◌, length, get_or, Decides, sym, refl, ap, ◌∙◌, subst, inl, inr, arith}
use mathlib.Core.Option.{some}
use Rattle.std.proofs.lemmas.Bool.{true≢false, cases_eq, cond-true, cond-false, eq-eqb, ne_eqb, le-ltb, or_cases, or_left, or_right}
use Rattle.grammar.specs.Grammar.{Rule, Grammar, IsNonterminal, IsRule, rule_at}
use Rattle.grammar.specs.Equations.{value, product_of, share, join_of, applied, FromBottom, at_bottom, by_rule, Least}
use Rattle.solver.specs.declared.yes.Yes.{Yes}
use Rattle.solver.specs.Solution.{valuation}
use Rattle.solver.specs.YesKind.{yes_kind}
use Rattle.items.specs.Actives.{mark}
use Rattle.items.specs.Links.{Linked, seed, link}

-- A rule has at most one symbol on its right, a nonterminal.
abbrev pub Short : Grammar → Rule → Type 0
Short g ρ = (ρ.right ≡ []) ⊎ ((A : ℕ) × (IsNonterminal g A × (ρ.right ≡ A ∷ [])))

and_true : (x : Bool) → (x && true) ≡ true → x ≡ true
and_true true e = refl
and_true false e = absurd (true≢false (sym e))

true_and : (x : Bool) → x ≡ true → (x && true) ≡ true
true_and x e = ap (λ (b : Bool). b && true) e

module _ (g : Grammar) (short : (j : ℕ) (ρ : Rule) → IsRule g j ρ → Short g ρ) where
  value_of : (S : ℕ → Yes) (A : ℕ) → IsNonterminal g A → value yes_kind S A ≡ S A
  value_of S A n = cond-false _ _ _ (le-ltb A 32 n.0)

  single : (S : ℕ → Yes) (A : ℕ) → IsNonterminal g A → (product_of yes_kind S (A ∷ [])).0 ≡ ((S A).0 && true)
  single S A n = ap (λ (y : Yes). y.0 && true) (value_of S A n)

  nothing_else : (S : ℕ → Yes) → FromBottom yes_kind g S → (A : ℕ) → IsNonterminal g A → (S A).0 ≡ true → Linked g.rules A
  nothing_else S (at_bottom e) A n h = absurd (true≢false (sym h ∙ ap (λ (y : Yes). y.0) (e A n)))
  nothing_else _ (by_rule {S} {S'} r ρ is prev same) A n h = by (nothing_else S prev) (cases_eq ρ.left A)
    where
      Before : Type 0
      Before = (B : ℕ) → IsNonterminal g B → (S B).0 ≡ true → Linked g.rules B

      now_is : (applied yes_kind ρ S A).0 ≡ true
      now_is = sym (ap (λ (y : Yes). y.0) (same A n)) ∙ h

      by_right : Before → ρ.left ≡ A → (product_of yes_kind S ρ.right).0 ≡ true → Short g ρ → Linked g.rules A
      by_right so l p (inl e) = seed r ρ is l e
      by_right so l p (inr (B, (m, e))) =
          link r ρ (so B m (and_true _ (sym (single S B m) ∙ sym (ap (λ (α : List ℕ). (product_of yes_kind S α).0) e) ∙ p))) is l e

      by_join : Before → ρ.left ≡ A → ((S A).0 ≡ true) ⊎ ((product_of yes_kind S ρ.right).0 ≡ true) → Linked g.rules A
      by_join so l (inl p) = so A n p
      by_join so l (inr p) = by_right so l p (short r ρ is)

      by : Before → (ρ.left ≡ A) ⊎ (ρ.left ≡ A → ⊥) → Linked g.rules A
      by so (inl l) =
          by_join so l (or_cases (S A).0 (product_of yes_kind S ρ.right).0 (sym (ap (λ (y : Yes). y.0) (cond-true _ _ _ (eq-eqb _ _ l))) ∙ now_is))
      by so (inr f) = so A n (sym (ap (λ (y : Yes). y.0) (cond-false _ _ _ (ne_eqb _ _ f))) ∙ now_is)

  module _ (S : ℕ → Yes) where
    joined : (ρs : List Rule) (j : ℕ) (ρ : Rule) (A : ℕ) → rule_at ρs j ≡ some ρ → ρ.left ≡ A → (product_of yes_kind S ρ.right).0 ≡ true
        → (join_of yes_kind S ρs A).0 ≡ true
    joined [] j ρ A e l p = absurd cc
    joined (σ ∷ ρs) zero ρ A e l p =
        let s : σ ≡ ρ = cc in
        or_left _ _ (ap (λ (τ : Rule). (share yes_kind S A τ).0) s ∙ ap (λ (y : Yes). y.0) (cond-true _ _ _ (eq-eqb _ _ l)) ∙ p)
    joined (σ ∷ ρs) (suc j) ρ A e l p = or_right _ _ (joined ρs j ρ A e l p)

    all_of_it : Least yes_kind g S → (A : ℕ) → IsNonterminal g A → Linked g.rules A → (S A).0 ≡ true
    all_of_it least A n (seed j ρ is l e) =
        ap (λ (y : Yes). y.0) (least.solves A n) ∙ joined g.rules j ρ A is l (ap (λ (α : List ℕ). (product_of yes_kind S α).0) e)
    all_of_it least A n (link {A = B} j ρ before is l e) = by (λ m. all_of_it least B m before) (short j ρ is)
      where
        by : (IsNonterminal g B → (S B).0 ≡ true) → Short g ρ → (S A).0 ≡ true
        by so (inl f) = absurd cc
        by so (inr (C, (m, f))) =
            let b : B ≡ C = ap (λ (α : List ℕ). get_or α 0 0) (sym e ∙ f) in
            let n' : IsNonterminal g B = subst (IsNonterminal g) (sym b) m in
            ap (λ (y : Yes). y.0) (least.solves A n)
            ∙ joined g.rules j ρ A is l (ap (λ (α : List ℕ). (product_of yes_kind S α).0) e ∙ single S B n' ∙ true_and _ (so n'))

  pub linked_told : (S : ℕ → Yes) → Least yes_kind g S → (A : ℕ) → IsNonterminal g A → Decides (S A).0 (Linked g.rules A)
  linked_told S least A n = (nothing_else S least.reached A n, all_of_it S least A n)

-- the marks of a least solution along links between nonterminals of a grammar tell what is linked
pub marks_told : (g : Grammar) → g.n ≤ 24 → (τs : List Rule) → ((j : ℕ) (ρ : Rule) → rule_at τs j ≡ some ρ → Short g ρ) → (vs : List Yes) → length vs ≡ 24
    → ((h : Grammar) → h.rules ≡ τs → h.n ≡ length vs → Least yes_kind h (valuation yes_kind vs)) → (A : ℕ) → IsNonterminal g A → Decides (mark vs A).0 (Linked τs A)
marks_told g few τs short vs many least A n = linked_told graph wide (valuation yes_kind vs) (least graph refl (sym many)) A (within A n)
  where
    graph : Grammar
    graph = record { k = 1; t = 0; n = 24; rules = τs }

    within : (B : ℕ) → IsNonterminal g B → IsNonterminal graph B
    within B m = (m.0, omega (arith, m.1, few))

    wide : (j : ℕ) (ρ : Rule) → rule_at τs j ≡ some ρ → Short graph ρ
    wide j ρ is = by (short j ρ is)
      where
        by : Short g ρ → Short graph ρ
        by (inl e) = inl e
        by (inr (B, (m, e))) = inr (B, (within B m, e))
