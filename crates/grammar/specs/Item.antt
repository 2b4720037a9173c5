-- Items, closures, and the kernel of a successor. The dot moves from right to left.
use Rattle.std.specs.Prelude.{◌≡◌, ℕ, ◌+◌, List, [], ◌∷◌, ◌++◌, length}
use mathlib.Core.List.{Memᴰ}
use Rattle.grammar.specs.Grammar.{Rule, Grammar, IsRule, start_symbol, end_mark}

-- The start rule joins the end mark to the start symbol. Its left side is no symbol.
abbrev pub start_rule : Rule
start_rule = record { left = 0; right = start_symbol ∷ end_mark ∷ [] }

-- The grammar with the start rule, whose number is the one behind the last rule.
abbrev pub augmented : Grammar → Grammar
augmented g = record { k = g.k; t = g.t; n = g.n; rules = g.rules ++ start_rule ∷ [] }

-- An item: a rule, by its number, with a dot that has `dot` symbols of the right side before it.
pub record Item : Type 0 where
  pub rule : ℕ
  pub dot : ℕ

-- The item with the dot one higher.
abbrev pub raised : Item → Item
raised i = record { rule = i.rule; dot = i.dot + 1 }

-- The start rule with the dot before the end mark.
abbrev pub start_item : Grammar → Item
start_item g = record { rule = length g.rules; dot = 1 }

-- X stands just before the dot.
pub record Before (g : Grammar) (i : Item) (X : ℕ) : Type 0 where
  pub rule : Rule
  pub is_rule : IsRule (augmented g) i.rule rule
  pub front : List ℕ
  pub back : List ℕ
  pub right_is : rule.right ≡ front ++ X ∷ back
  pub dot_is : i.dot ≡ length front + 1

-- A kernel item has its dot before some symbol.
abbrev pub IsKernel : Grammar → Item → Type 0
IsKernel g i = (X : ℕ) × Before g (raised i) X

-- The closure of a set of items: its items and, where A stands just before a dot, each rule of A with the dot at its end.
pub data Closure (g : Grammar) (K : Item → Type 0) : Item → Type 0 where
  of_kernel : {i : Item} → K i → Closure g K i
  of_rule : {i : Item} {A r : ℕ} (ρ : Rule) → Closure g K i → Before g i A → IsRule g r ρ → ρ.left ≡ A
      → Closure g K (record { rule = r; dot = length ρ.right })

-- X has a next when it stands just before the dot of some closure item.
abbrev pub HasNext : Grammar → (Item → Type 0) → ℕ → Type 0
HasNext g K X = (i : Item) × (Closure g K i × Before g i X)

-- The kernel of that next is all such items with the dot one lower.
abbrev pub NextKernel : Grammar → (Item → Type 0) → ℕ → Item → Type 0
NextKernel g K X i = Closure g K (raised i) × Before g (raised i) X

-- The items of a list.
abbrev pub OfList : List Item → Item → Type 0
OfList K i = Memᴰ i K
