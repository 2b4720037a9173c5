-- Sound grammars.
use Rattle.std.specs.Prelude.{◌≡◌, ℕ, List, [], ◌∷◌, ◌++◌}
use Rattle.grammar.specs.Grammar.{Rule, Grammar, IsNonterminal, IsRule, WellFormed, start_symbol}
use Rattle.grammar.specs.Derivation.{Derives, DerivesTokens}

-- A derives some token string.
abbrev pub Productive : Grammar → ℕ → Type 0
Productive g A = (u : List ℕ) × DerivesTokens g (A ∷ []) u

-- A occurs in some string derived from the start symbol.
abbrev pub Reachable : Grammar → ℕ → Type 0
Reachable g A = (rs α β : List ℕ) × Derives g (start_symbol ∷ []) rs (α ++ A ∷ β)

-- The start symbol, and what stands on the right of rules of symbols found so.
pub data Occurs (g : Grammar) : ℕ → Type 0 where
  start : {B : ℕ} → B ≡ start_symbol → Occurs g B
  inside : {A B : ℕ} (r : ℕ) (ρ : Rule) (α β : List ℕ) → Occurs g A → IsRule g r ρ → ρ.left ≡ A → ρ.right ≡ α ++ B ∷ β
      → Occurs g B

-- Every nonterminal is of use: it derives a token string, and it is reachable.
pub record Sound (g : Grammar) : Type 0 where
  pub well_formed : WellFormed g
  pub productive : (A : ℕ) → IsNonterminal g A → Productive g A
  pub reachable : (A : ℕ) → IsNonterminal g A → Reachable g A
