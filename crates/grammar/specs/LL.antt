-- LL(k) grammars.
use Rattle.std.specs.Prelude.{◌≡◌, ℕ, List, [], ◌∷◌, ◌++◌}
use Rattle.grammar.specs.Grammar.{Rule, Grammar, IsToken, IsRule, Every, start_symbol}
use Rattle.grammar.specs.Derivation.{Leftmost}
use Rattle.grammar.specs.First.{First}

-- FIRST(ω₁ δ) and FIRST(ω₂ δ) are disjoint whenever x A δ is a left sentential form and A → ω₁ and A → ω₂ are different rules.
abbrev pub IsLL : Grammar → Type 0
IsLL g =
    (x δ rs : List ℕ) (A : ℕ) → Every (IsToken g) x → Leftmost g (IsToken g) (start_symbol ∷ []) rs (x ++ A ∷ δ)
    → (r₁ r₂ : ℕ) (ρ₁ ρ₂ : Rule) → IsRule g r₁ ρ₁ → IsRule g r₂ ρ₂ → ρ₁.left ≡ A → ρ₂.left ≡ A
    → (y : List ℕ) → First g (ρ₁.right ++ δ) y → First g (ρ₂.right ++ δ) y → r₁ ≡ r₂
