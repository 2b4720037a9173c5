-- Numbers, symbols and lookahead words: what a test of Form.antt passes is what the definition says. A word is tested from the left, symbol by
-- symbol, and each token that passes stands before the rest of the word.
use Rattle.std.proofs.Common.{◌≡◌, ℕ, ◌+◌, ◌-◌, ◌<◌, ◌≤◌, true, ◌&&◌, eqb, ltb, leb, ◌⊎◌, List, [], ◌∷◌, ◌++◌, sym, refl, ap, subst, inl, inr, arith}
use Rattle.std.specs.List.{AllByRecursion}
use Rattle.std.proofs.lemmas.Bool.{true≢false, and_from, and_parts, or_cases, or_left, or_right, eq-eqb, eqb-true, lt-ltb, ltb-true, le-leb, leb-true}
use Rattle.frames.specs.declared.header.Header.{Header}
use Rattle.frames.specs.Form.{between, is_token, is_nonterminal, is_symbol, are_symbols, is_word}
use Rattle.frames.specs.Formed.{Within, IsToken, IsSymbol, IsWord, whole, ended}

pub within : (low high x : ℕ) → between low high x ≡ true → Within low high x
within low high x e = let (l, h) = and_parts (leb low x) (leb x high) e in (leb-true low x l, leb-true x high h)

pub between_from : (low high x : ℕ) → Within low high x → between low high x ≡ true
between_from low high x w = and_from (leb low x) (leb x high) (le-leb low x w.0) (le-leb x high w.1)

module _ (h : Header) where
  pub symbol : (x : ℕ) → is_symbol h x ≡ true → IsSymbol h x
  symbol x e = by (or_cases (is_token h x) (is_nonterminal h x) e)
    where
      by : (is_token h x ≡ true) ⊎ (is_nonterminal h x ≡ true) → IsSymbol h x
      by (inl t) = inl (within 1 h.t x t)
      by (inr n) = inr (within 32 (31 + h.n) x n)

  pub symbol_passes : (x : ℕ) → IsSymbol h x → is_symbol h x ≡ true
  symbol_passes x (inl t) = or_left (is_token h x) (is_nonterminal h x) (between_from 1 h.t x t)
  symbol_passes x (inr n) = or_right (is_token h x) (is_nonterminal h x) (between_from 32 (31 + h.n) x n)

  pub symbols : (xs : List ℕ) → are_symbols h xs ≡ true → AllByRecursion (IsSymbol h) xs
  symbols [] e = tt
  symbols (x ∷ xs) e = let (a, b) = and_parts (is_symbol h x) (are_symbols h xs) e in (symbol x a, symbols xs b)

  pub symbols_pass : (xs : List ℕ) → AllByRecursion (IsSymbol h) xs → are_symbols h xs ≡ true
  symbols_pass [] s = refl
  symbols_pass (x ∷ xs) s = and_from (is_symbol h x) (are_symbols h xs) (symbol_passes x s.0) (symbols_pass xs s.1)

  pub word : (k : ℕ) (y : List ℕ) → 1 ≤ k → is_word k h y ≡ true → IsWord k h y
  word k [] l e = absurd (true≢false (sym e))
  word k (a ∷ []) l e = by (or_cases (eqb a 31) (eqb k 1 && is_token h a) e)
    where
      by : (eqb a 31 ≡ true) ⊎ ((eqb k 1 && is_token h a) ≡ true) → IsWord k h (a ∷ [])
      by (inl m) = ended [] (ap (λ (z : ℕ). z ∷ []) (eqb-true a 31 m)) l tt
      by (inr t) = let (o, t') = and_parts (eqb k 1) (is_token h a) t in whole (sym (eqb-true k 1 o)) (within 1 h.t a t', tt)
  word k (a ∷ b ∷ y) l e = by (word (k - 1) (b ∷ y) (omega (arith, more)) rest.1)
    where
      more : 1 < k
      more = ltb-true 1 k (and_parts (ltb 1 k) (is_token h a && is_word (k - 1) h (b ∷ y)) e).0

      rest : (is_token h a ≡ true) × (is_word (k - 1) h (b ∷ y) ≡ true)
      rest = and_parts (is_token h a) (is_word (k - 1) h (b ∷ y)) (and_parts (ltb 1 k) (is_token h a && is_word (k - 1) h (b ∷ y)) e).1

      token : IsToken h a
      token = within 1 h.t a rest.0

      by : IsWord (k - 1) h (b ∷ y) → IsWord k h (a ∷ b ∷ y)
      by (whole n t) = whole (omega (arith, n, more)) (token, t)
      by (ended x s n t) = ended (a ∷ x) (ap (λ (z : List ℕ). a ∷ z) s) (omega (arith, n, more)) (token, t)

  pub word_passes : (k : ℕ) (y : List ℕ) → 1 ≤ k → IsWord k h y → is_word k h y ≡ true
  word_passes k [] l (whole n t) = absurd (omega arith)
  word_passes k [] l (ended [] s n t) = absurd cc
  word_passes k [] l (ended (c ∷ x) s n t) = absurd cc
  word_passes k (a ∷ []) l (whole n t) =
      or_right (eqb a 31) (eqb k 1 && is_token h a) (and_from (eqb k 1) (is_token h a) (eq-eqb k 1 (sym n)) (between_from 1 h.t a t.0))
  word_passes k (a ∷ []) l (ended [] s n t) = or_left (eqb a 31) (eqb k 1 && is_token h a) (eq-eqb a 31 cc)
  word_passes k (a ∷ []) l (ended (c ∷ []) s n t) = absurd cc
  word_passes k (a ∷ []) l (ended (c ∷ d ∷ x) s n t) = absurd cc
  word_passes k (a ∷ b ∷ y) l (whole n t) =
      and_from (ltb 1 k) (is_token h a && is_word (k - 1) h (b ∷ y)) (lt-ltb 1 k (omega (arith, n)))
      (and_from (is_token h a) (is_word (k - 1) h (b ∷ y)) (between_from 1 h.t a t.0)
      (word_passes (k - 1) (b ∷ y) (omega (arith, n)) (whole (omega (arith, n)) t.1)))
  word_passes k (a ∷ b ∷ y) l (ended [] s n t) = absurd cc
  word_passes k (a ∷ b ∷ y) l (ended (c ∷ x) s n t) =
      let first : a ≡ c = cc in
      let behind : b ∷ y ≡ x ++ 31 ∷ [] = cc in
      and_from (ltb 1 k) (is_token h a && is_word (k - 1) h (b ∷ y)) (lt-ltb 1 k (omega (arith, n)))
      (and_from (is_token h a) (is_word (k - 1) h (b ∷ y)) (between_from 1 h.t a (subst (IsToken h) (sym first) t.0))
      (word_passes (k - 1) (b ∷ y) (omega (arith, n)) (ended x behind (omega (arith, n)) t.1)))
