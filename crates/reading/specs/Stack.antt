-- The stack of a reading.
use Rattle.std.specs.Prelude.{◌≡◌, ℕ, ◌≤◌, List, [], ◌∷◌, ◌++◌, length}
use Rattle.std.proofs.Math.Option.{some}
use Rattle.grammar.specs.Grammar.{Rule, Grammar, IsToken, IsRule, end_mark}
use Rattle.grammar.specs.Derivation.{DerivesTokens}
use Rattle.grammar.specs.Table.{Table}
use Rattle.table.specs.LookUps.{BeginsWith}

-- The states by the symbols of ω, the last first, come onto a stack.
abbrev pub Pushes : Table → List ℕ → List ℕ → List ℕ → Type 0
Pushes T [] s s' = s' ≡ s
Pushes T (X ∷ ω) s s' = (p q : ℕ) × ((below : List ℕ) × (Pushes T ω s (p ∷ below) × ((T.next p X ≡ some q) × (s' ≡ q ∷ p ∷ below))))

-- With A after the dots of the top and p below it, the choice for the window y is rule r, and the states that lead to after(p, r) in place of
-- the top make it the stack s'.
pub record Chosen (g : Grammar) (T : Table) (p : ℕ) (below : List ℕ) (A : ℕ) (y : List ℕ) (r : ℕ) (s' : List ℕ) : Type 0 where
  pub no_token : IsToken g A → ⊥
  pub choice_is : T.choice p A y ≡ some r
  pub rule : Rule
  pub is_rule : IsRule g r rule
  pub pushed : Pushes T rule.right (p ∷ below) s'

-- A stack stands for a string of symbols: state 0 is the lowest, and each other is the successor of the one below it by its symbol.
pub data Path (T : Table) : List ℕ → List ℕ → Type 0 where
  lowest : Path T (0 ∷ []) []
  upon : {p q X : ℕ} {s σ : List ℕ} → Path T (p ∷ s) σ → T.next p X ≡ some q → Path T (q ∷ p ∷ s) (X ∷ σ)

-- What holds of every reading: its stack stands for a string, and some token string derived from it, with the end mark, begins with the window.
pub record Placed (g : Grammar) (T : Table) (s w : List ℕ) : Type 0 where
  pub string : List ℕ
  pub path : Path T s string
  pub short : length w ≤ g.k
  pub tokens : List ℕ
  pub derived : DerivesTokens g string tokens
  pub begins : BeginsWith (tokens ++ end_mark ∷ []) w
