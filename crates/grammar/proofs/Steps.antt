-- Where the symbols of a string come from when a step has been made: they stood before the replaced symbol or behind it, or the rule
-- brought them in.
use Rattle.std.proofs.Common.{◌≡◌, ℕ, ◌⊎◌, List, ◌∷◌, ◌++◌, sym, ap, ◌∙◌, inl, inr, append_assoc}
use Rattle.grammar.specs.Grammar.{Grammar}
use Rattle.grammar.specs.Derivation.{Step}
use Rattle.grammar.proofs.Lists.{InFirst, InSecond, where_is}

-- where B, with y behind it in the string after the step, comes from
pub data Came {g : Grammar} {r : ℕ} {φ ψ : List ℕ} (s : Step g r φ ψ) (B : ℕ) (y : List ℕ) : Type 0 where
  before : (x more : List ℕ) → s.before ≡ x ++ B ∷ more → Came s B y
  brought : (x more : List ℕ) → s.rule.right ≡ x ++ B ∷ more → y ≡ more ++ s.after → Came s B y
  behind : (x : List ℕ) → φ ≡ x ++ B ∷ y → Came s B y

pub came : {g : Grammar} {r : ℕ} {φ ψ : List ℕ} (s : Step g r φ ψ) (x : List ℕ) (B : ℕ) (y : List ℕ) → ψ ≡ x ++ B ∷ y → Came s B y
came {φ = φ} s x B y e = at_place (where_is x B y s.before (ω ++ s.after) (sym e ∙ s.to))
  where
    ω : List ℕ
    ω = s.rule.right

    after : (m : List ℕ) → InFirst m B y ω s.after ⊎ InSecond m B y ω s.after → Came s B y
    after m (inl w) = brought m w.more w.first_is w.after_is
    after m (inr w) =
        let x : List ℕ = s.before ++ s.rule.left ∷ w.more in
        behind x (s.from ∙ ap (λ (z : List ℕ). s.before ++ s.rule.left ∷ z) w.second_is ∙ simp append_assoc)

    at_place : InFirst x B y s.before (ω ++ s.after) ⊎ InSecond x B y s.before (ω ++ s.after) → Came s B y
    at_place (inl w) = before x w.more w.first_is
    at_place (inr w) = after w.more (where_is w.more B y ω s.after (sym w.second_is))
