-- What is linked can be found by counting steps, so that it is there as soon as it is not absent: a fact that says only that something is
-- linked is as good as the links themselves.
use Rattle.std.proofs.Common.{◌≡◌, ℕ, zero, suc, ◌+◌, ◌<◌, ◌≤◌, Bool, true, false, ◌&&◌, ◌||◌, eqb, ◌⊎◌, List, [], ◌∷◌, sym, refl, ap, ◌∙◌, inl, inr, arith}
use mathlib.Core.Option.{some}
use mathlib.Core.Path.{Σ_path}
use mathlib.Core.Bool.{Bool-set}
use mathlib.Core.HLevel.{is_prop→PathP, ×_prop, Π_prop, →_prop}
use mathlib.Core.Logic.{∥∥₁_elim, ∥∥₁_map}
use Rattle.std.proofs.lemmas.Bool.{true≢false, cases_lt, cases_eq, eq-eqb, eqb-true, and_parts, and_from, or_cases, or_left, or_right}
use Rattle.grammar.specs.Grammar.{Rule, rule_at}
use Rattle.items.specs.Links.{Linked, seed, link}

-- the lowest number that passes
abbrev Least : (ℕ → Bool) → ℕ → Type 0
Least D k = (D k ≡ true) × ((j : ℕ) → j < k → D j ≡ false)

alone : (D : ℕ → Bool) (m n : ℕ) → Least D m → Least D n → m ≡ n
alone D m n (a, b) (c, d) = by (cases_lt m n) (cases_lt n m)
  where
    by : (m < n) ⊎ (n ≤ m) → (n < m) ⊎ (m ≤ n) → m ≡ n
    by (inl l) _ = absurd (true≢false (sym a ∙ d m l))
    by (inr h) (inl l) = absurd (true≢false (sym c ∙ b n l))
    by (inr h) (inr l) = omega (arith, h, l)

least_prop : (D : ℕ → Bool) (k : ℕ) → IsProp (Least D k)
least_prop D k = ×_prop (Bool-set _ _) (Π_prop (λ j. →_prop (Bool-set _ _)))

found_prop : (D : ℕ → Bool) → IsProp ((k : ℕ) × Least D k)
found_prop D (m, a) (n, b) = let p = alone D m n a b in Σ_path p (is_prop→PathP (λ i. Least D (p i)) (λ i. least_prop D (p i)) a b)

seek : (D : ℕ → Bool) (n m k : ℕ) → k ≡ n + m → ((j : ℕ) → j < m → D j ≡ false) → D k ≡ true → (i : ℕ) × Least D i
seek D zero m k e low y = let s : m ≡ k = omega (arith, e) in (m, (ap D s ∙ y, low))
seek D (suc n) m k e low y = by (D m) refl (λ low'. seek D n (suc m) k (omega (arith, e)) low' y)
  where
    by : (b : Bool) → D m ≡ b → (((j : ℕ) → j < suc m → D j ≡ false) → (i : ℕ) × Least D i) → (i : ℕ) × Least D i
    by true p on = (m, (p, low))
    by false p on = on (λ j l. at j l (cases_eq j m))
      where
        at : (j : ℕ) → j < suc m → (j ≡ m) ⊎ (j ≡ m → ⊥) → D j ≡ false
        at j l (inl q) = ap D q ∙ p
        at j l (inr q) = low j (omega (arith, l, q))

number_there : (D : ℕ → Bool) → ∥ ((k : ℕ) × (D k ≡ true)) ∥₁ → (k : ℕ) × (D k ≡ true)
number_there D t = let (m, (y, _)) = ∥∥₁_elim t (found_prop D) (λ (k, y). seek D k 0 k (omega arith) (λ j l. absurd (omega (arith, l))) y) in (m, y)

-- a rule makes its left side of what was made before
abbrev from : (ℕ → Bool) → List ℕ → Bool
from before [] = true
from before (B ∷ []) = before B
from before (B ∷ C ∷ α) = false

abbrev any_makes : (ℕ → Bool) → ℕ → List Rule → Bool
any_makes before A [] = false
any_makes before A (ρ ∷ ρs) = (eqb ρ.left A && from before ρ.right) || any_makes before A ρs

makes_one : (before : ℕ → Bool) (A : ℕ) (ρs : List Rule) → any_makes before A ρs ≡ true
    → (j : ℕ) × (ρ : Rule) × (rule_at ρs j ≡ some ρ) × (ρ.left ≡ A) × (from before ρ.right ≡ true)
makes_one before A [] e = absurd (true≢false (sym e))
makes_one before A (ρ ∷ ρs) e = by (or_cases (eqb ρ.left A && from before ρ.right) _ e) (makes_one before A ρs)
  where
    by : ((eqb ρ.left A && from before ρ.right) ≡ true) ⊎ (any_makes before A ρs ≡ true)
        → (any_makes before A ρs ≡ true → (j : ℕ) × (τ : Rule) × (rule_at ρs j ≡ some τ) × (τ.left ≡ A) × (from before τ.right ≡ true))
        → (j : ℕ) × (τ : Rule) × (rule_at (ρ ∷ ρs) j ≡ some τ) × (τ.left ≡ A) × (from before τ.right ≡ true)
    by (inl h) _ = let (l, f) = and_parts (eqb ρ.left A) (from before ρ.right) h in (0, ρ, refl, eqb-true _ A l, f)
    by (inr h) so = let (j, τ, is, l, f) = so h in (suc j, τ, is, l, f)

one_makes : (before : ℕ → Bool) (A : ℕ) (ρs : List Rule) (j : ℕ) (ρ : Rule) → rule_at ρs j ≡ some ρ → ρ.left ≡ A → from before ρ.right ≡ true
    → any_makes before A ρs ≡ true
one_makes before A [] j ρ e l f = absurd cc
one_makes before A (σ ∷ ρs) zero ρ e l f =
    let s : σ ≡ ρ = cc in
    or_left _ _ (ap (λ (τ : Rule). eqb τ.left A && from before τ.right) s ∙ and_from (eqb ρ.left A) _ (eq-eqb _ A l) f)
one_makes before A (σ ∷ ρs) (suc j) ρ e l f = or_right _ _ (one_makes before A ρs j ρ e l f)

module _ (ρs : List Rule) where
  -- what is linked in so many steps
  abbrev within : ℕ → ℕ → Bool
  within zero A = false
  within (suc k) A = any_makes (within k) A ρs

  within_linked : (k A : ℕ) → within k A ≡ true → Linked ρs A
  within_linked zero A e = absurd (true≢false (sym e))
  within_linked (suc k) A e = let (j, ρ, is, l, f) = makes_one (within k) A ρs e in by (within_linked k) j ρ is l ρ.right refl f
    where
      by : ((B : ℕ) → within k B ≡ true → Linked ρs B) → (j : ℕ) (ρ : Rule) → rule_at ρs j ≡ some ρ → ρ.left ≡ A → (α : List ℕ) → ρ.right ≡ α
          → from (within k) α ≡ true → Linked ρs A
      by so j ρ is l [] r f = seed j ρ is l r
      by so j ρ is l (B ∷ []) r f = link j ρ (so B f) is l r
      by so j ρ is l (B ∷ C ∷ α) r f = absurd (true≢false (sym f))

  linked_within : (A : ℕ) → Linked ρs A → (k : ℕ) × (within k A ≡ true)
  linked_within A (seed j ρ is l e) = (1, one_makes (within 0) A ρs j ρ is l (ap (from (within 0)) e))
  linked_within A (link {A = B} j ρ before is l e) =
      let (k, w) = linked_within B before in (suc k, one_makes (within k) A ρs j ρ is l (ap (from (within k)) e ∙ w))

  pub linked_there : (A : ℕ) → ∥ Linked ρs A ∥₁ → Linked ρs A
  linked_there A t = let (k, w) = number_there (λ k. within k A) (∥∥₁_map t (linked_within A)) in within_linked k A w
