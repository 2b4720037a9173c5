-- The equations of a grammar in some kind of values, and their least solution.
use Rattle.std.specs.Prelude.{◌≡◌, ℕ, Bool, true, cond, ◌⊎◌, ◌↔◌, List, [], ◌∷◌, ◌++◌, take, ◌==◌, nat_lt}
use Rattle.grammar.specs.Grammar.{Rule, Grammar, IsToken, IsNonterminal, IsRule}

-- A kind of values, each a set of words: `holds x w` tells whether w is a word of x.
pub record Kind (V : Type 0) : Type 0 where
  pub bottom : V
  pub unit : V
  pub token : ℕ → V
  pub join : V → V → V
  pub product : V → V → V
  pub holds : V → List ℕ → Bool

-- w is a word of x.
abbrev pub Holds : {V : Type 0} → Kind V → V → List ℕ → Type 0
Holds o x w = o.holds x w ≡ true

-- The words are cut to m symbols: bottom holds none, the unit the empty one, a token its own, a join those of both, a product the words
-- joined and cut. Cut to nothing, a value only tells whether there is a word: it is yes or no.
pub record CutTo {V : Type 0} (o : Kind V) (m : ℕ) (g : Grammar) : Type 0 where
  pub bottom : (w : List ℕ) → Holds o o.bottom w → ⊥
  pub unit : (w : List ℕ) → Holds o o.unit w ↔ (w ≡ [])
  pub token : (a : ℕ) → IsToken g a → (w : List ℕ) → Holds o (o.token a) w ↔ (w ≡ take m (a ∷ []))
  pub join : (x y : V) (w : List ℕ) → Holds o (o.join x y) w ↔ (Holds o x w ⊎ Holds o y w)
  pub product : (x y : V) (w : List ℕ) → Holds o (o.product x y) w ↔ ((u v : List ℕ) × (Holds o x u × Holds o y v × (w ≡ take m (u ++ v))))

-- The value of a symbol, where S gives those of the nonterminals.
abbrev pub value : {V : Type 0} → Kind V → (ℕ → V) → ℕ → V
value o S X = cond (nat_lt X 32) (o.token X) (S X)

-- The product of the values of a string of symbols.
abbrev pub product_of : {V : Type 0} → Kind V → (ℕ → V) → List ℕ → V
product_of o S [] = o.unit
product_of o S (X ∷ α) = o.product (value o S X) (product_of o S α)

-- What a rule gives A: the product of the values on its right, if it is a rule of A.
abbrev pub share : {V : Type 0} → Kind V → (ℕ → V) → ℕ → Rule → V
share o S A ρ = cond (ρ.left == A) (product_of o S ρ.right) o.bottom

-- The join of what the rules give A.
abbrev pub join_of : {V : Type 0} → Kind V → (ℕ → V) → List Rule → ℕ → V
join_of o S [] A = o.bottom
join_of o S (ρ ∷ ρs) A = o.join (share o S A ρ) (join_of o S ρs A)

-- S solves the equations: each nonterminal has the value that its rules give it.
abbrev pub Solves : {V : Type 0} → Kind V → Grammar → (ℕ → V) → Type 0
Solves o g S = (A : ℕ) → IsNonterminal g A → S A ≡ join_of o S g.rules A

-- To apply a rule is to join its product to the value of its left side.
abbrev pub applied : {V : Type 0} → Kind V → Rule → (ℕ → V) → ℕ → V
applied o ρ S A = cond (ρ.left == A) (o.join (S A) (product_of o S ρ.right)) (S A)

-- S is made from bottom by applying rules.
pub data FromBottom {V : Type 0} (o : Kind V) (g : Grammar) : (ℕ → V) → Type 0 where
  at_bottom : {S : ℕ → V} → ((A : ℕ) → IsNonterminal g A → S A ≡ o.bottom) → FromBottom o g S
  by_rule : {S S' : ℕ → V} (r : ℕ) (ρ : Rule) → IsRule g r ρ → FromBottom o g S
      → ((A : ℕ) → IsNonterminal g A → S' A ≡ applied o ρ S A) → FromBottom o g S'

-- The least solution: it lies below every other, and holds nothing that the rules do not bring in.
pub record Least {V : Type 0} (o : Kind V) (g : Grammar) (S : ℕ → V) : Type 0 where
  pub solves : Solves o g S
  pub below : (S' : ℕ → V) → Solves o g S' → (A : ℕ) → IsNonterminal g A → o.join (S A) (S' A) ≡ S' A
  pub reached : FromBottom o g S
