-- Lookahead words without their end marks. No two words are the same without them, since only the last symbol may be one; and to drop the
-- end mark and to cut a word commute.
use Rattle.std.proofs.Common.{◌≡◌, ℕ, zero, suc, ◌-◌, ◌<◌, ◌≤◌, true, eqb, ltb, ◌⊎◌, List, [], ◌∷◌, ◌++◌, take, sym, refl, ap, ◌∙◌, subst, ap₂, inl, inr, ⊎_elim, arith}
use Rattle.std.proofs.lemmas.Bool.{false≢true, and_parts, and_from, or_cases, or_left, or_right, eqb-true, ltb-true, leb-true, eq-eqb, ne_eqb, lt-ltb, le-leb, cond-true, cond-false, cases_eq}
use Rattle.frames.specs.declared.header.Header.{Header}
use Rattle.frames.specs.Form.{is_token, is_word}
use Rattle.grammar.specs.Grammar.{Every}
use Rattle.grammar.proofs.Lists.{head_is, tail_is}
use Rattle.grammar.proofs.First.{NoMark}
use Rattle.lookahead.specs.Entries.{strip}

pub strip_mark : (a : ℕ) (y : List ℕ) → a ≡ 31 → strip (a ∷ y) ≡ []
strip_mark a y e = cond-true (eqb a 31) [] (a ∷ strip y) (eq-eqb a 31 e)

pub strip_token : (a : ℕ) (y : List ℕ) → NoMark a → strip (a ∷ y) ≡ a ∷ strip y
strip_token a y n = cond-false (eqb a 31) [] (a ∷ strip y) (ne_eqb a 31 n)

none_some : {a : ℕ} {y : List ℕ} → [] ≡ a ∷ y → ⊥
none_some e = cc

module _ (h : Header) where
  pub token_range : (a : ℕ) → is_token h a ≡ true → (1 ≤ a) × (a ≤ h.t)
  token_range a t = let p = and_parts _ _ t in (leb-true 1 a p.0, leb-true a h.t p.1)

  pub token_from : (a : ℕ) → 1 ≤ a → a ≤ h.t → is_token h a ≡ true
  token_from a low high = and_from _ _ (le-leb 1 a low) (le-leb a h.t high)

  -- what a word is made of
  pub one_symbol : (k a : ℕ) → is_word k h (a ∷ []) ≡ true → (a ≡ 31) ⊎ ((k ≡ 1) × (is_token h a ≡ true))
  one_symbol k a w =
      ⊎_elim (λ e. inl (eqb-true a 31 e)) (λ t. let p = and_parts _ _ t in inr (eqb-true k 1 p.0, p.1)) (or_cases (eqb a 31) _ w)

  pub more_symbols : (k a b : ℕ) (y : List ℕ) → is_word k h (a ∷ b ∷ y) ≡ true → (1 < k) × (is_token h a ≡ true) × (is_word (k - 1) h (b ∷ y) ≡ true)
  more_symbols k a b y w = let p = and_parts (ltb 1 k) _ w in let q = and_parts (is_token h a) _ p.1 in (ltb-true 1 k p.0, q.0, q.1)

  -- a token before a word
  word_more : (k a : ℕ) (y : List ℕ) → 1 < k → is_token h a ≡ true → is_word (k - 1) h y ≡ true → is_word k h (a ∷ y) ≡ true
  word_more k a [] l t w = absurd (false≢true w)
  word_more k a (b ∷ y) l t w = and_from _ _ (lt-ltb 1 k l) (and_from _ _ t w)

  word_mark : (k a : ℕ) → a ≡ 31 → is_word k h (a ∷ []) ≡ true
  word_mark k a e = or_left _ _ (eq-eqb a 31 e)

  word_one : (a : ℕ) → is_token h a ≡ true → is_word 1 h (a ∷ []) ≡ true
  word_one a t = or_right _ _ (and_from (eqb 1 1) _ refl t)

  module _ (few : h.t ≤ 20) where
    pub token_no_mark : (a : ℕ) → is_token h a ≡ true → NoMark a
    token_no_mark a t e = let r = token_range a t in omega (arith, r.1, e)

    short_long : (k a b c : ℕ) (y : List ℕ) → is_word k h (a ∷ []) ≡ true → is_word k h (b ∷ c ∷ y) ≡ true → strip (a ∷ []) ≡ strip (b ∷ c ∷ y) → ⊥
    short_long k a b c y w v e =
        let (l, t, r) = more_symbols k b c y v in
        ⊎_elim
        (λ p. none_some (sym (strip_mark a [] p) ∙ e ∙ strip_token b (c ∷ y) (token_no_mark b t)))
        (λ q. let one = q.0 in omega (arith, l, one))
        (one_symbol k a w)

    one_one : (k a b : ℕ) → is_word k h (a ∷ []) ≡ true → is_word k h (b ∷ []) ≡ true → strip (a ∷ []) ≡ strip (b ∷ []) → a ∷ [] ≡ b ∷ []
    one_one k a b w v e = by (one_symbol k a w) (one_symbol k b v)
      where
        by : (a ≡ 31) ⊎ ((k ≡ 1) × (is_token h a ≡ true)) → (b ≡ 31) ⊎ ((k ≡ 1) × (is_token h b ≡ true)) → a ∷ [] ≡ b ∷ []
        by (inl p) (inl q) = ap (λ (x : ℕ). x ∷ []) (p ∙ sym q)
        by (inl p) (inr (o, t)) = absurd (none_some (sym (strip_mark a [] p) ∙ e ∙ strip_token b [] (token_no_mark b t)))
        by (inr (o, t)) (inl q) = absurd (none_some (sym (strip_mark b [] q) ∙ sym e ∙ strip_token a [] (token_no_mark a t)))
        by (inr (o, t)) (inr (o', t')) = sym (strip_token a [] (token_no_mark a t)) ∙ e ∙ strip_token b [] (token_no_mark b t')

    -- no two words are stored alike
    pub strip_same : (k : ℕ) (y z : List ℕ) → is_word k h y ≡ true → is_word k h z ≡ true → strip y ≡ strip z → y ≡ z
    strip_same k [] z w v e = absurd (false≢true w)
    strip_same k (a ∷ y) [] w v e = absurd (false≢true v)
    strip_same k (a ∷ []) (b ∷ []) w v e = one_one k a b w v e
    strip_same k (a ∷ []) (b ∷ c ∷ z) w v e = absurd (short_long k a b c z w v e)
    strip_same k (a ∷ b ∷ y) (c ∷ []) w v e = absurd (short_long k c a b y v w (sym e))
    strip_same k (a ∷ b ∷ y) (c ∷ d ∷ z) w v e =
        let (l, t, r) = more_symbols k a b y w in
        let (l', t', r') = more_symbols k c d z v in
        let f : a ∷ strip (b ∷ y) ≡ c ∷ strip (d ∷ z) = sym (strip_token a (b ∷ y) (token_no_mark a t)) ∙ e ∙ strip_token c (d ∷ z) (token_no_mark c t') in
        ap₂ (λ (x : ℕ) (xs : List ℕ). x ∷ xs) (head_is f) (strip_same (k - 1) (b ∷ y) (d ∷ z) r r' (tail_is f))

  -- a word cut to fewer symbols is a word of so many
  word_cut : (j k : ℕ) (w : List ℕ) → 1 ≤ j → j ≤ k → is_word k h w ≡ true → is_word j h (take j w) ≡ true
  word_cut zero k w l m v = absurd (omega arith)
  word_cut (suc j) k [] l m v = absurd (false≢true v)
  word_cut (suc zero) k (a ∷ []) l m v = ⊎_elim (λ p. word_mark 1 a p) (λ q. word_one a q.1) (one_symbol k a v)
  word_cut (suc zero) k (a ∷ b ∷ y) l m v = word_one a (more_symbols k a b y v).1
  word_cut (suc (suc i)) k (a ∷ []) l m v = ⊎_elim (λ p. word_mark (suc (suc i)) a p) (λ q. let one = q.0 in absurd (omega (arith, one))) (one_symbol k a v)
  word_cut (suc (suc i)) k (a ∷ b ∷ y) l m v =
      let (n, t, r) = more_symbols k a b y v in
      let e : suc i ≡ suc (suc i) - 1 = omega arith in
      let rest = word_cut (suc i) (k - 1) (b ∷ y) (omega arith) (omega arith) r in
      word_more (suc (suc i)) a (b ∷ take i y) (omega arith) t (subst (λ (x : ℕ). is_word x h (b ∷ take i y) ≡ true) e rest)

  -- and so is a string of tokens joined to one, and cut
  pub word_joined : (j k : ℕ) (u w : List ℕ) → 1 ≤ j → j ≤ k → Every (λ (a : ℕ). is_token h a ≡ true) u → is_word k h w ≡ true
      → is_word j h (take j (u ++ w)) ≡ true
  word_joined zero k u w l m p v = absurd (omega arith)
  word_joined (suc j) k [] w l m p v = word_cut (suc j) k w l m v
  word_joined (suc zero) k (a ∷ u) w l m p v = word_one a p.0
  word_joined (suc (suc i)) k (a ∷ u) w l m p v =
      let e : suc i ≡ suc (suc i) - 1 = omega arith in
      let rest = word_joined (suc i) k u w (omega arith) (omega arith) p.1 v in
      word_more (suc (suc i)) a (take (suc i) (u ++ w)) (omega arith) p.0 (subst (λ (x : ℕ). is_word x h (take (suc i) (u ++ w)) ≡ true) e rest)

strip_take : (j : ℕ) (w : List ℕ) → strip (take j w) ≡ take j (strip w)
strip_take zero w = refl
strip_take (suc j) [] = refl
strip_take (suc j) (a ∷ w) =
    ⊎_elim
    (λ p. strip_mark a (take j w) p ∙ sym (ap (take (suc j)) (strip_mark a w p)))
    (λ n. strip_token a (take j w) n ∙ ap (λ (x : List ℕ). a ∷ x) (strip_take j w) ∙ sym (ap (take (suc j)) (strip_token a w n)))
    (cases_eq a 31)

-- the end mark may be dropped before or after
pub strip_joined : (j : ℕ) (u w : List ℕ) → Every NoMark u → strip (take j (u ++ w)) ≡ take j (u ++ strip w)
strip_joined zero u w p = refl
strip_joined (suc j) [] w p = strip_take (suc j) w
strip_joined (suc j) (a ∷ u) w p = strip_token a (take j (u ++ w)) p.0 ∙ ap (λ (x : List ℕ). a ∷ x) (strip_joined j u w p.1)
