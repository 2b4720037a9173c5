-- Derivations, sentences and their left parses.
use Rattle.std.specs.Prelude.{◌≡◌, ℕ, List, [], ◌∷◌, ◌++◌}
use Rattle.grammar.specs.Grammar.{Rule, Grammar, IsToken, IsRule, Every, start_symbol}

-- One step of a derivation by rule r, at any place: x A y ⇒ x ω y.
pub record Step (g : Grammar) (r : ℕ) (φ ψ : List ℕ) : Type 0 where
  pub rule : Rule
  pub is_rule : IsRule g r rule
  pub before : List ℕ
  pub after : List ℕ
  pub from : φ ≡ before ++ rule.left ∷ after
  pub to : ψ ≡ before ++ (rule.right ++ after)

-- The same at the leftmost nonterminal: only terminals stand before it. P says which symbols are terminals.
pub record LeftmostStep (g : Grammar) (P : ℕ → Type 0) (r : ℕ) (φ ψ : List ℕ) : Type 0 where
  pub step : Step g r φ ψ
  pub leftmost : Every P step.before

-- ψ is derived from φ, one step after the other at any places, by the rules of a list in their order.
abbrev pub Derives : Grammar → List ℕ → List ℕ → List ℕ → Type 0
Derives g φ [] ψ = φ ≡ ψ
Derives g φ (r ∷ rs) ψ = (χ : List ℕ) × Step g r φ χ × Derives g χ rs ψ

-- The same by leftmost steps.
abbrev pub Leftmost : Grammar → (ℕ → Type 0) → List ℕ → List ℕ → List ℕ → Type 0
Leftmost g P φ [] ψ = φ ≡ ψ
Leftmost g P φ (r ∷ rs) ψ = (χ : List ℕ) × LeftmostStep g P r φ χ × Leftmost g P χ rs ψ

-- The token string u is derived from α.
abbrev pub DerivesTokens : Grammar → List ℕ → List ℕ → Type 0
DerivesTokens g α u = Every (IsToken g) u × ((rs : List ℕ) × Derives g α rs u)

-- A sentence is a token string derived from the start symbol.
abbrev pub Sentence : Grammar → List ℕ → Type 0
Sentence g v = DerivesTokens g (start_symbol ∷ []) v

-- A left parse of it is the list of rules, in order, of a leftmost derivation of it.
abbrev pub LeftParse : Grammar → List ℕ → List ℕ → Type 0
LeftParse g v rs = Every (IsToken g) v × Leftmost g (IsToken g) (start_symbol ∷ []) rs v
