-- Where a search ends in entries that rise: all entries before are below the one that is sought, and none behind is. The first that is not below
-- is the one that a look-up finds, if any is.
use Rattle.std.proofs.Common.{◌≡◌, ℕ, zero, suc, ◌+◌, ◌-◌, ◌*◌, ◌<◌, ◌≤◌, true, eqb, ◌⊎◌, List, [], ◌∷◌, length, get_or, sym, refl, ap, ◌∙◌, subst, inl, inr, arith}
use Rattle.std.proofs.Math.Option.{none, some}
use Rattle.std.proofs.lemmas.Bool.{cases_eq, cases_lt, cond-true, eq-eqb, and_from}
use Rattle.frames.specs.Form.{word_of}
use Rattle.lookahead.specs.Entries.{choices_in}
use Rattle.table.specs.Contents.{successor_in, same_word, choice_in}
use Rattle.table.specs.Rising.{pair_at, four_at, PairsRise}
use Rattle.table.proofs.LookedUp.{same_word_refl, successor_miss, choice_miss}

module _ (f : ℕ → ℕ) (n : ℕ) (rise : (i j : ℕ) → i < j → j < n → f i ≤ f j) (r x : ℕ) where
  pub all_below : r ≤ n → (0 < r → f (r - 1) < x) → (k : ℕ) → k < r → f k < x
  all_below h last k l = by (cases_eq k (r - 1))
    where
      by : (k ≡ r - 1) ⊎ (k ≡ r - 1 → ⊥) → f k < x
      by (inl e) = subst (λ (m : ℕ). f m < x) (sym e) (last (omega arith))
      by (inr e) = let m : k < r - 1 = omega (arith, e) in omega (arith, rise k (r - 1) m (omega arith), last (omega arith))

  pub none_below : (r < n → x ≤ f r) → (k : ℕ) → r ≤ k → k < n → x ≤ f k
  none_below first k l m = by (cases_eq k r)
    where
      by : (k ≡ r) ⊎ (k ≡ r → ⊥) → x ≤ f k
      by (inl e) = subst (λ (j : ℕ). x ≤ f j) (sym e) (first (omega arith))
      by (inr e) = let z : r < k = omega (arith, e) in omega (arith, rise r k z m, first (omega arith))

-- what stands behind an entry
pub two_on : (a b : ℕ) (es : List ℕ) (n m : ℕ) → n ≡ 2 + m → get_or (a ∷ b ∷ es) n 0 ≡ get_or es m 0
two_on a b es n m e = let z : n ≡ suc (suc m) = omega (arith, e) in ap (λ (i : ℕ). get_or (a ∷ b ∷ es) i 0) z

pub four_on : (a b c d : ℕ) (es : List ℕ) (n m : ℕ) → n ≡ 4 + m → get_or (a ∷ b ∷ c ∷ d ∷ es) n 0 ≡ get_or es m 0
four_on a b c d es n m e = let z : n ≡ suc (suc (suc (suc m))) = omega (arith, e) in ap (λ (i : ℕ). get_or (a ∷ b ∷ c ∷ d ∷ es) i 0) z

-- a number is the same at a list and behind its first entry
pub pair_on : (a b : ℕ) (es : List ℕ) (k : ℕ) → pair_at (a ∷ b ∷ es) (suc k) ≡ pair_at es k
pair_on a b es k = omega (arith, two_on a b es (2 * suc k) (2 * k) (omega arith), two_on a b es (2 * suc k + 1) (2 * k + 1) (omega arith))

pub fours_on : (a b c d : ℕ) (es : List ℕ) (k : ℕ) → four_at (a ∷ b ∷ c ∷ d ∷ es) (suc k) ≡ four_at es k
fours_on a b c d es k = omega (
  arith,
  four_on a b c d es (4 * suc k) (4 * k) (omega arith),
  four_on a b c d es (4 * suc k + 1) (4 * k + 1) (omega arith),
  four_on a b c d es (4 * suc k + 2) (4 * k + 2) (omega arith),
  four_on a b c d es (4 * suc k + 3) (4 * k + 3) (omega arith),
)

-- all are bytes
abbrev pub Bytes : List ℕ → Type 0
Bytes es = (i : ℕ) → get_or es i 0 < 256

-- the first bytes of pairs that rise do not fall
pub firsts_rise : (es : List ℕ) → PairsRise es → Bytes es → (i j : ℕ) → i < j → 2 * j + 1 < length es → get_or es (2 * i) 0 ≤ get_or es (2 * j) 0
firsts_rise es rise bytes i j l m =
    let above : pair_at es i < pair_at es j = rise i j l m in
    let byte : get_or es (2 * j + 1) 0 < 256 = bytes (2 * j + 1) in
    omega (arith, above, byte)

-- the successor by a symbol is that of the first pair that names it
module _ (X : ℕ) where
  pub successor_found : (es : List ℕ) (r : ℕ) → ((k : ℕ) → k < r → get_or es (2 * k) 0 < X) → 2 * r + 1 < length es → get_or es (2 * r) 0 ≡ X
      → successor_in X es ≡ some (get_or es (2 * r + 1) 0)
  successor_found [] r below l e = absurd (omega arith)
  successor_found (a ∷ []) r below l e = absurd (omega arith)
  successor_found (a ∷ b ∷ es) zero below l e = cond-true _ _ _ (eq-eqb a X e)
  successor_found (a ∷ b ∷ es) (suc r) below l e =
      let m : a < X = below 0 (omega arith) in
      sym (successor_miss X (a ∷ b ∷ es) (a ∷ b ∷ []) es refl refl (λ z. let w : X ≡ a = ap (λ (xs : List ℕ). get_or xs 0 0) z in absurd (omega (arith, w, m))))
      ∙ successor_found es r (λ k h. subst (λ (n : ℕ). n < X) (two_on a b es (2 * suc k) (2 * k) (omega arith)) (below (suc k) (omega arith))) (omega arith)
      (sym (two_on a b es (2 * suc r) (2 * r) (omega arith)) ∙ e)
      ∙ ap some (sym (two_on a b es (2 * suc r + 1) (2 * r + 1) (omega arith)))

  pub successor_missing : (es : List ℕ) → ((k : ℕ) → 2 * k + 1 < length es → get_or es (2 * k) 0 ≡ X → ⊥) → successor_in X es ≡ none
  successor_missing [] other = refl
  successor_missing (a ∷ []) other = refl
  successor_missing (a ∷ b ∷ es) other =
      sym (successor_miss X (a ∷ b ∷ es) (a ∷ b ∷ []) es refl refl (λ z. other 0 (omega arith) (sym (ap (λ (xs : List ℕ). get_or xs 0 0) z))))
      ∙ successor_missing es (λ k l e. other (suc k) (omega arith) (two_on a b es (2 * suc k) (2 * k) (omega arith) ∙ e))

  -- the pairs before place r name lower symbols, and the one there, if any, a higher one
  pub successor_past : (es : List ℕ) → PairsRise es → Bytes es → (r : ℕ) → ((k : ℕ) → k < r → get_or es (2 * k) 0 < X)
      → (2 * r + 1 < length es → X < get_or es (2 * r) 0) → successor_in X es ≡ none
  successor_past es rise bytes r below above = successor_missing es (λ k l e. by k l e (cases_lt k r) (cases_eq k r))
    where
      by : (k : ℕ) → 2 * k + 1 < length es → get_or es (2 * k) 0 ≡ X → (k < r) ⊎ (r ≤ k) → (k ≡ r) ⊎ (k ≡ r → ⊥) → ⊥
      by k l e (inl m) _ = let low = below k m in absurd (omega (arith, low, e))
      by k l e (inr m) (inl z) = let high = subst (λ (n : ℕ). X < get_or es (2 * n) 0) (sym z) (above (omega (arith, z))) in absurd (omega (arith, high, e))
      by k l e (inr m) (inr z) =
          let h : r < k = omega (arith, z) in
          let high = above (omega arith) in
          let rest = firsts_rise es rise bytes r k h l in
          absurd (omega (arith, high, rest, e))

-- the rule for a nonterminal and a word is that of the first entry that names these
module _ (A a b : ℕ) where
  abbrev key : ℕ
  key = A * 16777216 + a * 65536 + b * 256

  -- a list of bytes without its first entry
  bytes_on : (c d e s : ℕ) (es : List ℕ) → Bytes (c ∷ d ∷ e ∷ s ∷ es) → Bytes es
  bytes_on c d e s es bytes i = bytes (suc (suc (suc (suc i))))

  miss : (c d e s : ℕ) (es : List ℕ) → (A ∷ a ∷ b ∷ [] ≡ c ∷ d ∷ e ∷ [] → ⊥)
      → choice_in A (word_of a b) (choices_in es) ≡ choice_in A (word_of a b) (choices_in (c ∷ d ∷ e ∷ s ∷ es))
  miss c d e s es f = choice_miss A a b (c ∷ d ∷ e ∷ s ∷ es) (c ∷ d ∷ e ∷ s ∷ []) es refl refl f

  same_key : (c d e s : ℕ) → A ∷ a ∷ b ∷ [] ≡ c ∷ d ∷ e ∷ [] → c * 16777216 + d * 65536 + e * 256 + s ≡ key + s
  same_key c d e s z =
      let x : A ≡ c = ap (λ (xs : List ℕ). get_or xs 0 0) z in
      let y : a ≡ d = ap (λ (xs : List ℕ). get_or xs 1 0) z in
      let w : b ≡ e = ap (λ (xs : List ℕ). get_or xs 2 0) z in
      omega (arith, x, y, w)

  module _ (a_byte : a < 256) (b_byte : b < 256) where
    pub choice_found : (es : List ℕ) (r : ℕ) → Bytes es → ((k : ℕ) → k < r → four_at es k < key) → 4 * r + 3 < length es
        → key ≤ four_at es r → four_at es r < key + 256 → choice_in A (word_of a b) (choices_in es) ≡ some (four_at es r - key)
    choice_found [] r bytes below l low high = absurd (omega arith)
    choice_found (c ∷ []) r bytes below l low high = absurd (omega arith)
    choice_found (c ∷ d ∷ []) r bytes below l low high = absurd (omega arith)
    choice_found (c ∷ d ∷ e ∷ []) r bytes below l low high = absurd (omega arith)
    choice_found (c ∷ d ∷ e ∷ s ∷ es) zero bytes below l low high =
        let c_byte : c < 256 = bytes 0 in
        let d_byte : d < 256 = bytes 1 in
        let e_byte : e < 256 = bytes 2 in
        let s_byte : s < 256 = bytes 3 in
        let low' : key ≤ c * 16777216 + d * 65536 + e * 256 + s = low in
        let high' : c * 16777216 + d * 65536 + e * 256 + s < key + 256 = high in
        let x : c ≡ A = omega (arith, low', high') in
        let y : d ≡ a = omega (arith, low', high', x) in
        let w : e ≡ b = omega (arith, low', high', x, y) in
        let same : word_of d e ≡ word_of a b = cc in
        let z : s ≡ c * 16777216 + d * 65536 + e * 256 + s - key = omega (arith, x, y, w) in
        cond-true _ _ _ (and_from (eqb c A) _ (eq-eqb c A x) (subst (λ (y' : List ℕ). same_word (word_of d e) y' ≡ true) same (same_word_refl (word_of d e)))) ∙ ap some z
    choice_found (c ∷ d ∷ e ∷ s ∷ es) (suc r) bytes below l low high =
        let m : c * 16777216 + d * 65536 + e * 256 + s < key = below 0 (omega arith) in
        let on = fours_on c d e s es r in
        sym (miss c d e s es (λ z. absurd (omega (arith, m, same_key c d e s z))))
        ∙ choice_found es r (bytes_on c d e s es bytes) (λ k h. subst (λ (n : ℕ). n < key) (fours_on c d e s es k) (below (suc k) (omega arith))) (omega arith)
        (subst (λ (n : ℕ). key ≤ n) on low) (subst (λ (n : ℕ). n < key + 256) on high)
        ∙ ap (λ (n : ℕ). some (n - key)) (sym on)

  pub choice_missing : (es : List ℕ) → Bytes es → ((k : ℕ) → 4 * k + 3 < length es → (four_at es k < key) ⊎ (key + 256 ≤ four_at es k))
      → choice_in A (word_of a b) (choices_in es) ≡ none
  choice_missing [] bytes other = refl
  choice_missing (c ∷ []) bytes other = refl
  choice_missing (c ∷ d ∷ []) bytes other = refl
  choice_missing (c ∷ d ∷ e ∷ []) bytes other = refl
  choice_missing (c ∷ d ∷ e ∷ s ∷ es) bytes other =
      sym (miss c d e s es (λ z. by z (other 0 (omega arith))))
      ∙ choice_missing es (bytes_on c d e s es bytes) (λ k l. subst (λ (n : ℕ). (n < key) ⊎ (key + 256 ≤ n)) (fours_on c d e s es k) (other (suc k) (omega arith)))
    where
      by : A ∷ a ∷ b ∷ [] ≡ c ∷ d ∷ e ∷ []
          → (c * 16777216 + d * 65536 + e * 256 + s < key) ⊎ (key + 256 ≤ c * 16777216 + d * 65536 + e * 256 + s) → ⊥
      by z (inl l) = absurd (omega (arith, l, same_key c d e s z))
      by z (inr l) = let s_byte : s < 256 = bytes 3 in absurd (omega (arith, l, same_key c d e s z))
