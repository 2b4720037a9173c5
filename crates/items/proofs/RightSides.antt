-- Look-ups of rules by their numbers.
use Rattle.std.proofs.Common.{◌≡◌, ℕ, zero, suc, ◌+◌, ◌<◌, ◌≤◌, List, [], ◌∷◌, length, get_or, Some, None, Option, refl, ap, ◌∙◌, subst, arith}
use mathlib.Core.Option.{some}
use denote.Ref.{Bor}
use Rattle.std.specs.List.{slice_get}
use Rattle.std.specs.Option.{MatchOption}
use Rattle.std.specs.Slice.{IsItemAt}
use Rattle.std.proofs.lemmas.Option.{slice_get_read}
use Rattle.grammar.specs.Grammar as grammar
use Rattle.grammar.specs.Grammar.{rule_at}
use Rattle.solver.specs.declared.rule.Rule.{Rule}
use Rattle.solver.specs.Solution.{rule_of, rules_of}
use Rattle.items.specs.Symbols.{right_side}

-- what `get` answers
pub got : (ρs : List Rule) (r : ℕ) (x : Bor Rule) → IsItemAt ρs r (Some x) → slice_get ρs r ≡ Some x.now
got ρs r x (_, _, _, (within, at), _) = slice_get_read ρs (length ρs) r x.now refl within (at x.now)

pub not_got : (ρs : List Rule) (r : ℕ) → IsItemAt ρs r None → length ρs ≤ r
not_got ρs r (_, _, _, beyond, _) = beyond

-- f tells g of the rule with a number, or n where there is none
module _ {Y : Type 0} (f : List Rule → ℕ → Y) (g : Rule → Y) (n : Y) (none : (r : ℕ) → n ≡ f [] r)
    (here : (ρ : Rule) (ρs : List Rule) → g ρ ≡ f (ρ ∷ ρs) 0) (further : (ρ : Rule) (ρs : List Rule) (r : ℕ) → f ρs r ≡ f (ρ ∷ ρs) (suc r)) where
  pub looked_up : (ρs : List Rule) (r : ℕ) (ρ : Rule) → slice_get ρs r ≡ Some ρ → g ρ ≡ f ρs r
  looked_up [] r ρ e = absurd cc
  looked_up (σ ∷ ρs) zero ρ e = let s : ρ ≡ σ = cc in ap g s ∙ here σ ρs
  looked_up (σ ∷ ρs) (suc r) ρ e = looked_up ρs r ρ e ∙ further σ ρs r

  pub missed : (ρs : List Rule) (r : ℕ) → length ρs ≤ r → n ≡ f ρs r
  missed [] r h = none r
  missed (σ ∷ ρs) zero h = absurd (omega arith)
  missed (σ ∷ ρs) (suc r) h = missed ρs r (omega arith) ∙ further σ ρs r

  pub told : (ρs : List Rule) (r : ℕ) (o : Option (Bor Rule)) (y : Y) → IsItemAt ρs r o → MatchOption o (y ≡ n) (λ x. y ≡ g x.now) → y ≡ f ρs r
  told ρs r None y h e = e ∙ missed ρs r (not_got ρs r h)
  told ρs r (Some x) y h e = e ∙ looked_up ρs r x.now (got ρs r x h)

pub right_there : (ρs : List Rule) (r : ℕ) (ρ : Rule) → slice_get ρs r ≡ Some ρ → ρ.right.now ≡ right_side ρs r
right_there [] r ρ e = absurd cc
right_there (σ ∷ ρs) zero ρ e = let s : ρ ≡ σ = cc in ap (λ (τ : Rule). τ.right.now) s
right_there (σ ∷ ρs) (suc r) ρ e = right_there ρs r ρ e

pub right_start : (ρs : List Rule) (r : ℕ) → r ≡ length ρs → 32 ∷ 31 ∷ [] ≡ right_side ρs r
right_start [] zero h = refl
right_start [] (suc r) h = absurd (omega arith)
right_start (ρ ∷ ρs) zero h = absurd (omega arith)
right_start (ρ ∷ ρs) (suc r) h = right_start ρs r (omega arith)

pub right_beyond : (ρs : List Rule) (r : ℕ) → length ρs < r → [] ≡ right_side ρs r
right_beyond [] zero h = absurd (omega arith)
right_beyond [] (suc r) h = refl
right_beyond (ρ ∷ ρs) zero h = absurd (omega arith)
right_beyond (ρ ∷ ρs) (suc r) h = right_beyond ρs r (omega arith)

-- a rule as a grammar has it, by its number
pub rule_there : (ρs : List Rule) (r : ℕ) (ρ : Rule) → slice_get ρs r ≡ Some ρ → rule_at (rules_of ρs) r ≡ some (rule_of ρ)
rule_there [] r ρ e = absurd cc
rule_there (σ ∷ ρs) zero ρ e = let s : σ ≡ ρ = cc in ap (λ (τ : Rule). some (rule_of τ)) s
rule_there (σ ∷ ρs) (suc r) ρ e = rule_there ρs r ρ e

pub rule_found : (ρs : List Rule) (r : ℕ) (τ : grammar.Rule) → rule_at (rules_of ρs) r ≡ some τ
    → (ρ : Rule) × (slice_get ρs r ≡ Some ρ) × (r < length ρs) × (τ ≡ rule_of ρ)
rule_found [] r τ e = absurd cc
rule_found (σ ∷ ρs) zero τ e = let s : τ ≡ rule_of σ = cc in (σ, refl, omega arith, s)
rule_found (σ ∷ ρs) (suc r) τ e = let (ρ, i, h, s) = rule_found ρs r τ e in (ρ, i, omega arith, s)

-- a list that was made rule by rule
pub rule_made : (ρs : List Rule) (r : ℕ) (τ : grammar.Rule) → r < length ρs → ((d : Rule) → rule_of (get_or ρs r d) ≡ τ) → rule_at (rules_of ρs) r ≡ some τ
rule_made [] r τ h made = absurd (omega arith)
rule_made (σ ∷ ρs) zero τ h made = ap (λ (ρ : grammar.Rule). some ρ) (made σ)
rule_made (σ ∷ ρs) (suc r) τ h made = rule_made ρs r τ (omega arith) made

within_rules : (τs : List grammar.Rule) (r : ℕ) (τ : grammar.Rule) → rule_at τs r ≡ some τ → r < length τs
within_rules [] r τ e = absurd cc
within_rules (σ ∷ τs) zero τ e = omega arith
within_rules (σ ∷ τs) (suc r) τ e = let h = within_rules τs r τ e in omega arith

-- what holds of each rule made holds of each in the list
pub each_made : (P : grammar.Rule → Type 0) (R : ℕ → grammar.Rule) (n : ℕ) (τs : List grammar.Rule) → length τs ≡ n → ((j : ℕ) → j < n → rule_at τs j ≡ some (R j))
    → ((j : ℕ) → P (R j)) → (j : ℕ) (τ : grammar.Rule) → rule_at τs j ≡ some τ → P τ
each_made P R n τs long each so j τ e =
    let h = within_rules τs j τ e in
    let is = each j (omega (arith, long, h)) in
    let same : R j ≡ τ = cc in
    subst P same (so j)

-- the rules that f gives of n numbers, from a on
pub listed : (ℕ → grammar.Rule) → ℕ → ℕ → List grammar.Rule
listed f a zero = []
listed f a (suc n) = f a ∷ listed f (a + 1) n

pub listed_long : (f : ℕ → grammar.Rule) (a n : ℕ) → length (listed f a n) ≡ n
unfolding listed
listed_long f a zero = refl
listed_long f a (suc n) = ap suc (listed_long f (a + 1) n)

pub listed_at : (f : ℕ → grammar.Rule) (a n j k : ℕ) → j < n → a + j ≡ k → rule_at (listed f a n) j ≡ some (f k)
unfolding listed
listed_at f a zero j k h e = absurd (omega arith)
listed_at f a (suc n) zero k h e = let s : a ≡ k = omega arith in ap (λ (i : ℕ). some (f i)) s
listed_at f a (suc n) (suc j) k h e = listed_at f (a + 1) n j k (omega arith) (omega (arith, e))
