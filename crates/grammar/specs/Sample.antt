-- Samples, which show that the definitions can be met and can be missed.
use Rattle.std.specs.Prelude.{ℕ, zero, suc, ◌≤◌, Bool, true, false, cond, ◌&&◌, ◌||◌, List, [], ◌∷◌, ◌==◌}
use Rattle.std.proofs.Math.Option.{Option, none, some}
use Rattle.grammar.specs.Grammar.{Rule, Grammar}
use Rattle.grammar.specs.Sound.{Sound}
use Rattle.grammar.specs.Item.{Item}
use Rattle.grammar.specs.Table.{Table, Accepted}
use Rattle.grammar.specs.LL.{IsLL}
use Rattle.grammar.specs.Equations.{Kind, CutTo}

-- 32 → 1.
abbrev pub token_rule : Rule
token_rule = record { left = 32; right = 1 ∷ [] }

-- 32 → 32 1.
abbrev pub left_rule : Rule
left_rule = record { left = 32; right = 32 ∷ 1 ∷ [] }

-- Grammars with one token and one nonterminal.
abbrev pub with_rules : ℕ → List Rule → Grammar
with_rules k ρs = record { k = k; t = 1; n = 1; rules = ρs }

-- 32 → 1, for k = 1.
abbrev pub once : Grammar
once = with_rules 1 (token_rule ∷ [])

-- The same rule twice.
abbrev pub twice : ℕ → Grammar
twice k = with_rules k (token_rule ∷ token_rule ∷ [])

-- Left recursion: 32 → 32 1 and 32 → 1.
abbrev pub again : ℕ → Grammar
again k = with_rules k (left_rule ∷ token_rule ∷ [])

-- The table of 32 → 1: state 1 follows state 0 by 32, and state 2 by the token.
abbrev pub sample_kernel : ℕ → List Item
sample_kernel zero = record { rule = 1; dot = 1 } ∷ []
sample_kernel (suc zero) = record { rule = 1; dot = 0 } ∷ []
sample_kernel (suc (suc q)) = record { rule = 0; dot = 0 } ∷ []

-- Its words.
abbrev pub sample_words : ℕ → List (List ℕ)
sample_words zero = (31 ∷ []) ∷ []
sample_words (suc q) = (1 ∷ []) ∷ []

-- Its successors.
abbrev pub sample_next : ℕ → ℕ → Option ℕ
sample_next zero X = cond (X == 32) (some 1) (cond (X == 1) (some 2) none)
sample_next (suc q) X = none

-- Its choices.
abbrev pub sample_choice : ℕ → ℕ → List ℕ → Option ℕ
sample_choice zero A [] = none
sample_choice zero A (a ∷ []) = cond (A == 32) (cond (a == 1) (some 0) none) none
sample_choice zero A (a ∷ b ∷ y) = none
sample_choice (suc q) A y = none

-- The table.
abbrev pub sample : Table
sample = record { size = 3; kernel = sample_kernel; words = sample_words; next = sample_next; choice = sample_choice }

-- Nothing is wrong with it.
abbrev pub SampleIsAccepted : Type 0
SampleIsAccepted = Sound once × Accepted once sample

-- A grammar with a rule twice, or with left recursion, is LL(k) for no k.
abbrev pub SamplesNotLL : Type 0
SamplesNotLL = (k : ℕ) → 1 ≤ k → (Sound (twice k) × (IsLL (twice k) → ⊥)) × (Sound (again k) × (IsLL (again k) → ⊥))

-- A list is empty.
abbrev pub is_empty : List ℕ → Bool
is_empty [] = true
is_empty (a ∷ w) = false

-- Yes and no: yes holds the empty word.
abbrev pub yes_no : Kind Bool
yes_no = record {
  bottom = false;
  unit = true;
  token = λ a. true;
  join = λ x y. x || y;
  product = λ x y. x && y;
  holds = λ x w. x && is_empty w;
}

-- They are a kind of values cut to nothing.
abbrev pub YesNoIsAKind : Type 0
YesNoIsAKind = (g : Grammar) → CutTo yes_no 0 g
