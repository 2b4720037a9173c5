-- Context-free grammars over numbered symbols.
use Rattle.std.specs.Prelude.{◌≡◌, ℕ, zero, suc, ◌+◌, ◌<◌, ◌≤◌, ◌⊎◌, List, [], ◌∷◌}
use Rattle.std.proofs.Math.Option.{Option, none, some}

-- A rule: the nonterminal on its left and the symbols on its right.
pub record Rule : Type 0 where
  pub left : ℕ
  pub right : List ℕ

-- k symbols of lookahead, tokens 1 to t, nonterminals 32 to 31 + n, and the rules, numbered from 0.
pub record Grammar : Type 0 where
  pub k : ℕ
  pub t : ℕ
  pub n : ℕ
  pub rules : List Rule

-- The end mark stands behind a whole token string.
abbrev pub end_mark : ℕ
end_mark = 31

-- The nonterminal that sentences are derived from.
abbrev pub start_symbol : ℕ
start_symbol = 32

-- Tokens are numbered from 1 on, below the end mark.
abbrev pub IsToken : Grammar → ℕ → Type 0
IsToken g a = (1 ≤ a) × (a ≤ g.t)

-- Nonterminals are numbered from the start symbol on.
abbrev pub IsNonterminal : Grammar → ℕ → Type 0
IsNonterminal g A = (start_symbol ≤ A) × (A ≤ 31 + g.n)

-- A symbol that may stand on the right of a rule.
abbrev pub IsSymbol : Grammar → ℕ → Type 0
IsSymbol g X = IsToken g X ⊎ IsNonterminal g X

-- In lookahead words the end mark counts as a token.
abbrev pub IsTerminal : Grammar → ℕ → Type 0
IsTerminal g a = IsToken g a ⊎ (a ≡ end_mark)

-- P holds of every symbol of a string.
abbrev pub Every : (ℕ → Type 0) → List ℕ → Type 0
Every P [] = Unit {0}
Every P (x ∷ xs) = P x × Every P xs

-- The rule with a number.
abbrev pub rule_at : List Rule → ℕ → Option Rule
rule_at [] r = none
rule_at (ρ ∷ ρs) zero = some ρ
rule_at (ρ ∷ ρs) (suc r) = rule_at ρs r

-- ρ is the rule number r. Rules that read alike still differ by number.
abbrev pub IsRule : Grammar → ℕ → Rule → Type 0
IsRule g r ρ = rule_at g.rules r ≡ some ρ

-- There is lookahead, the numbers of tokens, end mark and nonterminals do not meet, and rules are made of symbols.
pub record WellFormed (g : Grammar) : Type 0 where
  pub some_lookahead : 1 ≤ g.k
  pub tokens_below : g.t < end_mark
  pub some_nonterminal : 1 ≤ g.n
  pub left_side : (r : ℕ) (ρ : Rule) → IsRule g r ρ → IsNonterminal g ρ.left
  pub right_side : (r : ℕ) (ρ : Rule) → IsRule g r ρ → Every (IsSymbol g) ρ.right
