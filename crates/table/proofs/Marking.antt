-- Marks of nonterminals, by their places.
use Rattle.std.proofs.Common.{◌≡◌, ℕ, ◌+◌, ◌-◌, ◌<◌, ◌≤◌, true, false, ◌⊎◌, List, ◌++◌, length, get_or, Some, None, Decides, Option, sym, ap, ◌∙◌, inl, inr, arith}
use Rattle.std.proofs.lemmas.List.{get_or_append_left}
use Rattle.std.proofs.lemmas.Bool.{true≢false, cases_eq, cases_Bool}
use Rattle.grammar.specs.Grammar.{Grammar, IsNonterminal}
use Rattle.solver.specs.declared.yes.Yes.{Yes}
use Rattle.items.specs.Actives.{mark}
use Rattle.grammar.specs.Sound.{Productive, Reachable}
use Rattle.frames.specs.Lowest.{Lowest}
use Rattle.frames.specs.Raw.{Raw}
use Rattle.table.specs.Contents.{grammar_of}
use Rattle.table.specs.Marks.{Unmarked, MarksProductive, MarksReachable}
use Rattle.table.specs.Rows.{productive, reachable, Answers}

pub mark_at : (vs : List Yes) (a : ℕ) → (mark vs (32 + a)).0 ≡ (get_or vs a (record { 0 = false })).0
mark_at vs a = let z : 32 + a - 32 ≡ a = omega arith in ap (λ (i : ℕ). (get_or vs i (record { 0 = false })).0) z

-- one nonterminal more is marked
pub marked_more : (n : ℕ) (vs : List Yes) (a : ℕ) → (get_or vs a (record { 0 = false })).0 ≡ true → ((k : ℕ) → k < 32 + a → Unmarked n vs k → ⊥)
    → (k : ℕ) → k < 32 + (a + 1) → Unmarked n vs k → ⊥
marked_more n vs a e below k l u = by (cases_eq k (32 + a))
  where
    by : (k ≡ 32 + a) ⊎ (k ≡ 32 + a → ⊥) → ⊥
    by (inl p) = true≢false (sym (ap (λ (A : ℕ). (mark vs A).0) p ∙ mark_at vs a ∙ e) ∙ u.2)
    by (inr p) = below k (omega arith) u

-- marks at the front of a list
pub front_mark : (vs ws : List Yes) (A n : ℕ) → 32 ≤ A → A ≤ 31 + n → length vs ≡ n → mark vs A ≡ mark (vs ++ ws) A
front_mark vs ws A n low high l = sym (get_or_append_left vs ws (record { 0 = false }) (A - 32) (omega arith))

-- what the marks tell of the lowest nonterminal without one
module _ (g : Grammar) (vs : List Yes) (n : ℕ) (n_is : n ≡ g.n) (P : ℕ → Type 0) (tells : (A : ℕ) → IsNonterminal g A → Decides (mark vs A).0 (P A)) where
  pub unless_unmarked : (A : ℕ) → (Unmarked n vs A → ⊥) → IsNonterminal g A → P A
  unless_unmarked A f (low, high) = by (cases_Bool (mark vs A).0)
    where
      by : ((mark vs A).0 ≡ true) ⊎ ((mark vs A).0 ≡ false) → P A
      by (inl e) = (tells A (low, high)).0 e
      by (inr e) = absurd (f (low, omega arith, e))

  pub if_unmarked : (A : ℕ) → Unmarked n vs A → (IsNonterminal g A → P A) → ⊥
  if_unmarked A (low, high, e) good =
      let m : IsNonterminal g A = (low, omega arith) in
      true≢false (sym ((tells A m).1 (good m)) ∙ e)

-- the answers of the two rows of the grammar
pub productive_answers : (R : Raw) (vs : List Yes) (n : ℕ) → n ≡ (grammar_of R).n → MarksProductive R vs → (r : Option ℕ) → Lowest (Unmarked n vs) r → Answers R productive r
productive_answers R vs n e m (Some A) (u, low) = record {
  applies = if_unmarked (grammar_of R) vs n e (Productive (grammar_of R)) m A u;
  lowest = λ j l. unless_unmarked (grammar_of R) vs n e (Productive (grammar_of R)) m j (low j l);
}
productive_answers R vs n e m None low = λ j. unless_unmarked (grammar_of R) vs n e (Productive (grammar_of R)) m j (low j)

pub reachable_answers : (R : Raw) (vs : List Yes) (n : ℕ) → n ≡ (grammar_of R).n → MarksReachable R vs → (r : Option ℕ) → Lowest (Unmarked n vs) r → Answers R reachable r
reachable_answers R vs n e m (Some A) (u, low) = record {
  applies = if_unmarked (grammar_of R) vs n e (Reachable (grammar_of R)) m A u;
  lowest = λ j l. unless_unmarked (grammar_of R) vs n e (Reachable (grammar_of R)) m j (low j l);
}
reachable_answers R vs n e m None low = λ j. unless_unmarked (grammar_of R) vs n e (Reachable (grammar_of R)) m j (low j)
