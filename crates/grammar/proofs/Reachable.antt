-- Reachable symbols. Every symbol of a string derived from the start symbol is found by going through right sides, since a step brings in
-- only the right side of a symbol that was there; and what is found so is reachable, by one more step for each rule gone through.
use Rattle.std.proofs.Common.{◌≡◌, ℕ, ◌↔◌, List, [], ◌∷◌, ◌++◌, sym, refl, ap, ◌∙◌, subst, append_assoc}
use Rattle.grammar.specs.Grammar.{Grammar, start_symbol}
use Rattle.grammar.specs.Derivation.{Step, Derives}
use Rattle.grammar.specs.Sound.{Reachable, Occurs, start, inside}
use Rattle.grammar.proofs.Lists.{one_front}
use Rattle.grammar.proofs.Steps.{Came, before, brought, behind, came}

module _ (g : Grammar) where
  abbrev AllOccur : List ℕ → Type 0
  AllOccur φ = (x : List ℕ) (B : ℕ) (y : List ℕ) → φ ≡ x ++ B ∷ y → Occurs g B

  step_occur : (r : ℕ) (φ ψ : List ℕ) → Step g r φ ψ → AllOccur φ → AllOccur ψ
  step_occur r φ ψ s all x B y e = by (came s x B y e)
    where
      by : Came s B y → Occurs g B
      by (before x more f) = all x B (more ++ s.rule.left ∷ s.after) (s.from ∙ ap (λ (z : List ℕ). z ++ s.rule.left ∷ s.after) f ∙ simp append_assoc)
      by (brought x more f k) = inside r s.rule x more (all s.before s.rule.left s.after s.from) s.is_rule refl f
      by (behind x f) = all x B y f

  all_occur : (rs φ ψ : List ℕ) → Derives g φ rs ψ → AllOccur φ → AllOccur ψ
  all_occur [] φ ψ e a = subst AllOccur e a
  all_occur (r ∷ rs) φ ψ (χ, s, d) a = all_occur rs χ ψ d (step_occur r φ χ s a)

  derives_then : (rs : List ℕ) (r : ℕ) (φ ψ χ : List ℕ) → Derives g φ rs ψ → Step g r ψ χ → Derives g φ (rs ++ r ∷ []) χ
  derives_then [] r φ ψ χ e s = (χ, subst (λ (z : List ℕ). Step g r z χ) (sym e) s, refl)
  derives_then (q ∷ rs) r φ ψ χ (θ, h, d) s = (θ, h, derives_then rs r θ ψ χ d s)

  found : {B : ℕ} → Occurs g B → Reachable g B
  found (start e) = ([], [], [], ap (λ (z : ℕ). z ∷ []) (sym e))
  found {B} (inside {A = A} r ρ α β o i l e) =
      let (rs, x, y, d) = found o in
      let ψ : List ℕ = (x ++ α) ++ B ∷ (β ++ y) in
      let to : ψ ≡ x ++ (ρ.right ++ y) = rw e (simp append_assoc) in
      let last : Step g r (x ++ A ∷ y) ψ = record { rule = ρ; is_rule = i; before = x; after = y; from = ap (λ (z : ℕ). x ++ z ∷ y) (sym l); to = to } in
      (rs ++ r ∷ [], x ++ α, β ++ y, derives_then rs r (start_symbol ∷ []) (x ++ A ∷ y) ψ d last)

  pub reachable_is_found : (A : ℕ) → Reachable g A ↔ Occurs g A
  reachable_is_found A = (
    λ (rs, α, β, d). all_occur rs (start_symbol ∷ []) (α ++ A ∷ β) d (λ x B y e. start (sym (one_front x y e).1)) α A β refl,
    found,
  )
