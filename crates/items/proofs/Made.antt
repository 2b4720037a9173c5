-- Arrays that are made entry by entry, by calls that leave the closure as it was, and lists of rules that are written entry by entry.
use Rattle.std.proofs.Common.{◌≡◌, ℕ, suc, zero, ◌+◌, ◌<◌, ◌≤◌, ◌⊎◌, List, length, get_or, set, subst, sym, refl, ap, ◌∙◌, inl, inr, arith}
use Rattle.std.proofs.lemmas.List.{get_or-set_other}
use Rattle.std.proofs.lemmas.Grind.{get_or-set_at}
use mathlib.Core.Option.{some}
use denote.Param.Members.{Mut}
use Rattle.std.specs.Fn.{Called}
use Rattle.std.specs.Array.{IsElementAt, IsFromFnResultFrom, IsFromFnResult}
use Rattle.std.proofs.lemmas.Bool.{cases_eq}
use Rattle.grammar.specs.Grammar as grammar
use Rattle.grammar.specs.Grammar.{rule_at}
use Rattle.solver.specs.declared.rule.Rule.{Rule}
use Rattle.solver.specs.Solution.{rule_of, rules_of}
use Rattle.items.proofs.RightSides.{rule_made}

module _ {F B : Type 0} (g : Mut F (ℕ × Unit {0}) B) (f : F) (P : ℕ → B → Type 0) (told : (i : ℕ) (y : B) (q : F) → Called g f (i, tt) y q → (q ≡ f) × P i y) where
  entry : (ys : List B) (i n : ℕ) (p : F) → p ≡ f → IsFromFnResultFrom g p ys i n → (k : ℕ) → i ≤ k → k < i + n → (y : B) × IsElementAt ys k y × P k y
  entry ys i zero p same m k low high = absurd (omega arith)
  entry ys i (suc n) p same (q, y, at, call, rest) k low high = by (λ kept more. entry ys (i + 1) n q kept rest k more (omega (arith, high))) (cases_eq k i)
    where
      here : (q ≡ f) × P i y
      here = told i y q (subst (λ (h : F). Called g h (i, tt) y q) same call)

      by : (q ≡ f → i + 1 ≤ k → (y : B) × IsElementAt ys k y × P k y) → (k ≡ i) ⊎ (k ≡ i → ⊥) → (y : B) × IsElementAt ys k y × P k y
      by later (inl e) = subst (λ (j : ℕ). (y : B) × IsElementAt ys j y × P j y) (sym e) (y, at, here.1)
      by later (inr e) = later here.0 (omega (arith, low, e))

  pub made : (ys : List B) (n : ℕ) → IsFromFnResult g f ys n → (k : ℕ) (d : B) → k < n → P k (get_or ys k d)
  made ys n m k d h = let (y, (_, at), p) = entry ys 0 n f refl m.each k (omega arith) (omega (arith, h)) in subst (P k) (sym (at d)) p

-- the first i rules of a list are there, as a grammar has them
abbrev pub Written : (ℕ → grammar.Rule) → List Rule → ℕ → Type 0
Written R ys i = (k : ℕ) → k < i → (d : Rule) → rule_of (get_or ys k d) ≡ R k

-- the next is written
pub one_written : (R : ℕ → grammar.Rule) (ys : List Rule) (i : ℕ) (y : Rule) → i < length ys → rule_of y ≡ R i → Written R ys i → Written R (set ys i y) (i + 1)
one_written R ys i y within e before k h d = by (cases_eq k i)
  where
    by : (k ≡ i) ⊎ (k ≡ i → ⊥) → rule_of (get_or (set ys i y) k d) ≡ R k
    by (inl s) = ap rule_of (get_or-set_at ys i k y d s within) ∙ e ∙ ap R (sym s)
    by (inr s) = ap rule_of (get_or-set_other ys i k y d s) ∙ before k (omega (arith, h, s)) d

-- all are there
pub all_written : (R : ℕ → grammar.Rule) (ys : List Rule) (n : ℕ) → length ys ≡ n → Written R ys n → (j : ℕ) → j < n → rule_at (rules_of ys) j ≡ some (R j)
all_written R ys n long made j h = rule_made ys j (R j) (omega (arith, long, h)) (made j h)
