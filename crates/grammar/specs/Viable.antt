-- Viable suffixes and LL(k)-valid items, for the grammar with the start rule: its terminals are the tokens and the end mark, and it starts
-- from the left side of the start rule. A suffix is written from its top, which stands leftmost: σ is the reversal of the viable suffix.
use Rattle.std.specs.Prelude.{◌≡◌, ℕ, ◌↔◌, List, [], ◌∷◌, ◌++◌, length}
use Rattle.grammar.specs.Grammar.{Rule, Grammar, IsRule, IsTerminal, Every}
use Rattle.grammar.specs.Derivation.{Leftmost}
use Rattle.grammar.specs.First.{First}
use Rattle.grammar.specs.Item.{start_rule, augmented, Item, IsKernel}

-- A left sentential form.
abbrev pub LeftForm : Grammar → List ℕ → Type 0
LeftForm g φ = (rs : List ℕ) × Leftmost (augmented g) (IsTerminal g) (start_rule.left ∷ []) rs φ

-- The item A → α . β is valid for σ: S' ⇒ x A δ ⇒ x α β δ = x α σ by leftmost steps, for some string x of terminals and some δ.
pub record Valid (g : Grammar) (i : Item) (σ : List ℕ) : Type 0 where
  pub rule : Rule
  pub is_rule : IsRule (augmented g) i.rule rule
  pub x : List ℕ
  pub terminals : Every (IsTerminal g) x
  pub δ : List ℕ
  pub form : LeftForm g (x ++ rule.left ∷ δ)
  pub α : List ℕ
  pub β : List ℕ
  pub right_is : rule.right ≡ α ++ β
  pub dot_is : i.dot ≡ length α
  pub same : x ++ (α ++ (β ++ δ)) ≡ x ++ (α ++ σ)

-- σ is viable.
abbrev pub Viable : Grammar → List ℕ → Type 0
Viable g σ = (i : Item) × Valid g i σ

-- The lookahead words of σ: FIRST(σ).
abbrev pub SuffixWord : Grammar → List ℕ → List ℕ → Type 0
SuffixWord g σ y = First (augmented g) σ y

-- The item with the lookahead word y is LL(k)-valid for σ: it is in V(σ).
abbrev pub InV : Grammar → List ℕ → Item → List ℕ → Type 0
InV g σ i y = Valid g i σ × SuffixWord g σ y

-- The suffixes are LL(k)-equivalent: V(σ) = V(τ).
abbrev pub Equivalent : Grammar → List ℕ → List ℕ → Type 0
Equivalent g σ τ = (i : Item) (y : List ℕ) → InV g σ i y ↔ InV g τ i y

-- The kernel items valid for σ.
abbrev pub ValidKernel : Grammar → List ℕ → Item → Type 0
ValidKernel g σ i = Valid g i σ × IsKernel g i

-- The kernel items of V(σ) that have the word y.
abbrev pub VKernel : Grammar → List ℕ → List ℕ → Item → Type 0
VKernel g σ y i = InV g σ i y × IsKernel g i

-- σ is not empty.
abbrev pub Nonempty : List ℕ → Type 0
Nonempty σ = σ ≡ [] → ⊥

-- The viable suffixes that a parser's states stand for are all but the empty one.
abbrev pub Suffix : Grammar → List ℕ → Type 0
Suffix g σ = Viable g σ × Nonempty σ
