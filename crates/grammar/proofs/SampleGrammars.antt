-- Sample grammars. A rule that is there twice has the same words under both numbers. By left recursion 32 goes over, k times, into 32 and
-- k tokens behind it; from there both rules begin with k tokens.
use Rattle.std.proofs.Common.{◌≡◌, ℕ, zero, suc, ◌≤◌, List, [], ◌∷◌, ◌++◌, take, refl, ap, subst, inl, inr, arith}
use mathlib.Core.Option.{some}
use Rattle.grammar.specs.Grammar.{Rule, Grammar, rule_at, IsToken, IsNonterminal, IsSymbol, IsRule, Every}
use Rattle.grammar.specs.Derivation.{Step, Leftmost}
use Rattle.grammar.specs.First.{First}
use Rattle.grammar.specs.Sound.{Productive, Sound}
use Rattle.grammar.specs.LL.{IsLL}
use Rattle.grammar.specs.Sample.{token_rule, left_rule, with_rules, twice, again, SamplesNotLL}
use Rattle.grammar.proofs.Runs.{Run, done, token, rule, run→derived}
use Rattle.grammar.proofs.First.{run→first}

apart : ◌≡◌ {A = ℕ} 0 1 → ⊥
apart e = omega (arith, e)

-- a grammar with the one nonterminal 32, and 32 → 1 among its rules, is sound
abbrev pub Fine : Grammar → Rule → Type 0
Fine g ρ = IsNonterminal g ρ.left × Every (IsSymbol g) ρ.right

module _ (k : ℕ) (h : 1 ≤ k) (ρs : List Rule) where
  abbrev g : Grammar
  g = with_rules k ρs

  only : (A : ℕ) → IsNonterminal g A → 32 ≡ A
  only A n = omega (arith, n.0, n.1)

  pub sound : (r : ℕ) → IsRule g r token_rule → ((r : ℕ) (ρ : Rule) → IsRule g r ρ → Fine g ρ) → Sound g
  sound r i fine =
      let run : Run g (32 ∷ []) (r ∷ []) (1 ∷ []) = rule token_rule i refl (token (omega arith, omega arith) done) in
      record {
        well_formed =
            record {
              some_lookahead = h;
              tokens_below = omega arith;
              some_nonterminal = omega arith;
              left_side = λ r ρ j. (fine r ρ j).0;
              right_side = λ r ρ j. (fine r ρ j).1;
            };
        productive = λ A n. subst (Productive g) (only A n) (1 ∷ [], run→derived g run);
        reachable = λ A n. ([], [], [], ap (λ (X : ℕ). X ∷ []) (only A n));
      }

pub token_fine : (k : ℕ) (ρs : List Rule) → Fine (with_rules k ρs) token_rule
token_fine k ρs = ((omega arith, omega arith), (inl (omega arith, omega arith), tt))

left_fine : (k : ℕ) (ρs : List Rule) → Fine (with_rules k ρs) left_rule
left_fine k ρs = ((omega arith, omega arith), (inr (omega arith, omega arith), (inl (omega arith, omega arith), tt)))

two_fine : (g : Grammar) (a b : Rule) → Fine g a → Fine g b → (r : ℕ) (ρ : Rule) → rule_at (a ∷ b ∷ []) r ≡ some ρ → Fine g ρ
two_fine g a b fa fb zero ρ i = subst (Fine g) (cc) fa
two_fine g a b fa fb (suc zero) ρ i = subst (Fine g) (cc) fb
two_fine g a b fa fb (suc (suc r)) ρ i = absurd cc

-- tokens 1, so many
abbrev ones : ℕ → List ℕ
ones zero = []
ones (suc n) = 1 ∷ ones n

cut_ones : (k : ℕ) (v : List ℕ) → take k (ones k ++ v) ≡ ones k
cut_ones zero v = refl
cut_ones (suc k) v = ap (λ (x : List ℕ). 1 ∷ x) (cut_ones k v)

ones_shift : (n : ℕ) (v : List ℕ) → ones n ++ 1 ∷ v ≡ 1 ∷ (ones n ++ v)
ones_shift zero v = refl
ones_shift (suc n) v = ap (λ (x : List ℕ). 1 ∷ x) (ones_shift n v)

module _ (k : ℕ) where
  twice_not : IsLL (twice k) → ⊥
  twice_not ll =
      let word : First (twice k) (1 ∷ []) (take k (1 ∷ [])) = run→first (twice k) (token (omega arith, omega arith) done) in
      apart (ll [] [] [] 32 tt refl 0 1 token_rule token_rule refl refl refl refl (take k (1 ∷ [])) word word)

  one_token : IsToken (again k) 1
  one_token = (omega arith, omega arith)

  run_ones : (n : ℕ) → Run (again k) (ones n ++ []) [] (ones n ++ [])
  run_ones zero = done
  run_ones (suc n) = token one_token (run_ones n)

  form : (n : ℕ) (δ : List ℕ) → (rs : List ℕ) × Leftmost (again k) (IsToken (again k)) (32 ∷ δ) rs (32 ∷ (ones n ++ δ))
  form zero δ = ([], refl)
  form (suc n) δ =
      let (rs, d) = form n (1 ∷ δ) in
      let one : Step (again k) 0 (32 ∷ δ) (32 ∷ 1 ∷ δ) = record { rule = left_rule; is_rule = refl; before = []; after = δ; from = refl; to = refl } in
      let rest = subst (λ (x : List ℕ). Leftmost (again k) (IsToken (again k)) (32 ∷ 1 ∷ δ) rs (32 ∷ x)) (ones_shift n δ) d in
      (0 ∷ rs, (32 ∷ 1 ∷ δ, record { step = one; leftmost = tt }, rest))

  again_not : IsLL (again k) → ⊥
  again_not ll =
      let (rs, d) = form k [] in
      let w : List ℕ = ones k ++ [] in
      let one : take k (1 ∷ w) ≡ ones k = rw (← ones_shift k []) (cut_ones k (1 ∷ [])) in
      let two : take k (1 ∷ 1 ∷ w) ≡ ones k = rw (← ones_shift k [], ← ones_shift k (1 ∷ [])) (cut_ones k (1 ∷ 1 ∷ [])) in
      let by_left = run→first (again k) {rs = 1 ∷ []} (rule token_rule refl refl (token one_token (token one_token (run_ones k)))) in
      let by_token = run→first (again k) (token one_token (run_ones k)) in
      apart (ll [] w rs 32 tt d 0 1 left_rule token_rule refl refl refl refl (ones k) (subst (First (again k) (32 ∷ 1 ∷ w)) two by_left) (subst (First (again k) (1 ∷ w)) one by_token))

pub samples_not_ll : SamplesNotLL
samples_not_ll k h =
    let ρs : List Rule = token_rule ∷ token_rule ∷ [] in
    let σs : List Rule = left_rule ∷ token_rule ∷ [] in (
      (sound k h ρs 0 refl (two_fine (twice k) token_rule token_rule (token_fine k ρs) (token_fine k ρs)), twice_not k),
      (sound k h σs 1 refl (two_fine (again k) left_rule token_rule (left_fine k σs) (token_fine k σs)), again_not k),
    )
