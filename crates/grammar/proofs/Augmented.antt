-- The grammar with the start rule. Its rules are those of the grammar and the start rule, whose left side, 0, no other rule has in it: so
-- from symbols other than 0 both grammars derive the same.
use Rattle.std.proofs.Common.{◌≡◌, ℕ, zero, suc, ◌⊎◌, List, [], ◌∷◌, ◌++◌, length, sym, refl, ap, subst, inl, inr, arith}
use mathlib.Core.Option.{some}
use Rattle.grammar.specs.Grammar.{Rule, Grammar, rule_at, IsSymbol, IsTerminal, IsRule, Every, WellFormed, start_symbol, end_mark}
use Rattle.grammar.specs.Derivation.{Step, Derives}
use Rattle.grammar.specs.Item.{start_rule, augmented}
use Rattle.grammar.proofs.Lists.{head_is, tail_is, every_back, every_map, every_replace}
use Rattle.grammar.proofs.Runs.{Run, done, token, rule}

rule_front : (ρs : List Rule) (σ : Rule) (r : ℕ) {ρ : Rule} → rule_at ρs r ≡ some ρ → rule_at (ρs ++ σ ∷ []) r ≡ some ρ
rule_front [] σ r e = absurd cc
rule_front (τ ∷ ρs) σ zero e = e
rule_front (τ ∷ ρs) σ (suc r) e = rule_front ρs σ r e

rule_end : (ρs : List Rule) (σ : Rule) → rule_at (ρs ++ σ ∷ []) (length ρs) ≡ some σ
rule_end [] σ = refl
rule_end (τ ∷ ρs) σ = rule_end ρs σ

rule_either : (ρs : List Rule) (σ : Rule) (r : ℕ) (ρ : Rule) → rule_at (ρs ++ σ ∷ []) r ≡ some ρ → (rule_at ρs r ≡ some ρ) ⊎ ((r ≡ length ρs) × (ρ ≡ σ))
rule_either [] σ zero ρ e = inr (refl, cc)
rule_either [] σ (suc r) ρ e = absurd cc
rule_either (τ ∷ ρs) σ zero ρ e = inl e
rule_either (τ ∷ ρs) σ (suc r) ρ e = shift (rule_either ρs σ r ρ e)
  where
    shift : (rule_at ρs r ≡ some ρ) ⊎ ((r ≡ length ρs) × (ρ ≡ σ)) → (rule_at ρs r ≡ some ρ) ⊎ ((suc r ≡ length (τ ∷ ρs)) × (ρ ≡ σ))
    shift (inl i) = inl i
    shift (inr (e₁, e₂)) = inr (ap suc e₁, e₂)

-- where the right side of the start rule is cut at a symbol
abbrev pub StartPart : List ℕ → ℕ → List ℕ → Type 0
StartPart α B β = ((α ≡ []) × (B ≡ start_symbol) × (β ≡ end_mark ∷ [])) ⊎ ((α ≡ start_symbol ∷ []) × (B ≡ end_mark) × (β ≡ []))

pub start_parts : (α : List ℕ) (B : ℕ) (β : List ℕ) → start_symbol ∷ end_mark ∷ [] ≡ α ++ B ∷ β → StartPart α B β
start_parts [] B β e = inl (refl, sym (head_is e), sym (tail_is e))
start_parts (a ∷ []) B β e = inr (ap (λ (y : ℕ). y ∷ []) (sym (head_is e)), sym (head_is (tail_is e)), sym (tail_is (tail_is e)))
start_parts (a ∷ b ∷ []) B β e = absurd cc
start_parts (a ∷ b ∷ c ∷ α) B β e = absurd cc

-- a step of another grammar that has its rule
step_in : {g g' : Grammar} {r : ℕ} {φ ψ : List ℕ} (h : Step g r φ ψ) → IsRule g' r h.rule → Step g' r φ ψ
step_in h i = record { rule = h.rule; is_rule = i; before = h.before; after = h.after; from = h.from; to = h.to }

abbrev pub Nonzero : ℕ → Type 0
Nonzero x = x ≡ 0 → ⊥

pub mark_nonzero : Nonzero end_mark
mark_nonzero e = omega (arith, e)

module _ (g : Grammar) where
  -- a rule of the grammar, or the start rule
  abbrev pub WhichRule : ℕ → Rule → Type 0
  WhichRule r ρ = IsRule g r ρ ⊎ ((r ≡ length g.rules) × (ρ ≡ start_rule))

  pub which_rule : (r : ℕ) (ρ : Rule) → IsRule (augmented g) r ρ → WhichRule r ρ
  which_rule r ρ i = rule_either g.rules start_rule r ρ i

  pub rule_augmented : (r : ℕ) (ρ : Rule) → IsRule g r ρ → IsRule (augmented g) r ρ
  rule_augmented r ρ i = rule_front g.rules start_rule r i

  pub start_is_rule : IsRule (augmented g) (length g.rules) start_rule
  start_is_rule = rule_end g.rules start_rule

  pub run_augmented : {α rs w : List ℕ} → Run g α rs w → Run (augmented g) α rs w
  run_augmented done = done
  run_augmented (token t d) = token t (run_augmented d)
  run_augmented (rule {r = r} ρ i l d) = rule ρ (rule_augmented r ρ i) l (run_augmented d)

  pub derives_augmented : (rs φ ψ : List ℕ) → Derives g φ rs ψ → Derives (augmented g) φ rs ψ
  derives_augmented [] φ ψ e = e
  derives_augmented (r ∷ rs) φ ψ (χ, h, d) = (χ, step_in h (rule_augmented r h.rule h.is_rule), derives_augmented rs χ ψ d)

  module _ (wf : WellFormed g) where
    pub symbol_nonzero : (X : ℕ) → IsSymbol g X → Nonzero X
    symbol_nonzero X (inl t) e = omega (arith, t.0)
    symbol_nonzero X (inr n) e = omega (arith, n.0)

    -- no rule's left side is a terminal
    pub left_apart : (r : ℕ) (ρ : Rule) → IsRule (augmented g) r ρ → IsTerminal g ρ.left → ⊥
    left_apart r ρ i t = by (which_rule r ρ i) t
      where
        by : WhichRule r ρ → IsTerminal g ρ.left → ⊥
        by (inl j) (inl t) = omega (arith, (wf.left_side r ρ j).0, wf.tokens_below, t.1)
        by (inl j) (inr e) = omega (arith, (wf.left_side r ρ j).0, e)
        by (inr (n, f)) (inl t) = omega (arith, t.0, ap (λ (τ : Rule). τ.left) f)
        by (inr (n, f)) (inr e) = omega (arith, e, ap (λ (τ : Rule). τ.left) f)

    pub derives_plain : (rs φ ψ : List ℕ) → Every Nonzero φ → Derives (augmented g) φ rs ψ → Derives g φ rs ψ
    derives_plain [] φ ψ t e = e
    derives_plain (r ∷ rs) φ ψ t (χ, h, d) = by (which_rule r h.rule h.is_rule) (λ t'. derives_plain rs χ ψ t' d)
      where
        t'' : Every Nonzero (h.before ++ h.rule.left ∷ h.after)
        t'' = subst (Every Nonzero) h.from t

        by : WhichRule r h.rule → (Every Nonzero χ → Derives g χ rs ψ) → Derives g φ (r ∷ rs) ψ
        by (inl i) f =
            let right = every_map (IsSymbol g) Nonzero symbol_nonzero h.rule.right (wf.right_side r h.rule i) in
            let t' = every_replace Nonzero h.before h.rule.left h.rule.right h.after t'' right in
            (χ, step_in h i, f (subst (Every Nonzero) (sym h.to) t'))
        by (inr (n, e)) f = absurd ((every_back Nonzero h.before (h.rule.left ∷ h.after) t'').0 (ap (λ (τ : Rule). τ.left) e))
