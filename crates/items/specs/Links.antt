-- What is found from seeds along links.
use Rattle.std.specs.Prelude.{◌≡◌, ℕ, List, [], ◌∷◌}
use Rattle.std.proofs.Math.Option.{some}
use Rattle.grammar.specs.Grammar.{Rule, rule_at}

-- A rule with nothing on its right makes its left side a seed. One with A on its right links A to its left side.
pub data Linked (ρs : List Rule) : ℕ → Type 0 where
  seed : {B : ℕ} (j : ℕ) (ρ : Rule) → rule_at ρs j ≡ some ρ → ρ.left ≡ B → ρ.right ≡ [] → Linked ρs B
  link : {A B : ℕ} (j : ℕ) (ρ : Rule) → Linked ρs A → rule_at ρs j ≡ some ρ → ρ.left ≡ B → ρ.right ≡ A ∷ [] → Linked ρs B
