-- The actions of the canonical LL(k) parser. Its states are the classes of LL(k)-equivalent viable suffixes; σ stands for its class.
use Rattle.std.specs.Prelude.{◌≡◌, ℕ, List, ◌∷◌, ◌++◌}
use Rattle.grammar.specs.Grammar.{Rule, Grammar, IsToken, IsRule}
use Rattle.grammar.specs.Viable.{Viable, SuffixWord, Equivalent, Suffix}

-- y is a lookahead word of some viable suffix that is equivalent to σ.
pub record ClassWord (g : Grammar) (σ y : List ℕ) : Type 0 where
  pub other : List ℕ
  pub viable : Viable g other
  pub equivalent : Equivalent g other σ
  pub word : SuffixWord g other y

-- With a σ on its stack the parser shifts the token a when the lookahead is a y.
pub record Shifts (g : Grammar) (σ : List ℕ) (a : ℕ) (y : List ℕ) : Type 0 where
  pub viable : Viable g (a ∷ σ)
  pub token : IsToken g a
  pub word : ClassWord g (a ∷ σ) (a ∷ y)

-- With A σ on its stack the parser produces by the rule r of A, putting its right side for A, when the lookahead is y.
pub record Produces (g : Grammar) (σ : List ℕ) (A : ℕ) (y : List ℕ) (r : ℕ) : Type 0 where
  pub viable : Viable g (A ∷ σ)
  pub rule : Rule
  pub is_rule : IsRule g r rule
  pub left_is : rule.left ≡ A
  pub word : ClassWord g (rule.right ++ σ) y

-- The parser is deterministic: for a stack with a nonterminal on top and a lookahead word it has at most one rule to produce by.
abbrev pub Deterministic : Grammar → Type 0
Deterministic g = (σ : List ℕ) (A : ℕ) (y : List ℕ) (r r' : ℕ) → Suffix g σ → Produces g σ A y r → Produces g σ A y r' → r ≡ r'
