-- A set with the words of entries put in has what it had and these words, each without its end mark. Put in at two numbers, a word is
-- there as its tokens, since only tokens from 1 to 20 stand before its end mark.
use Rattle.std.proofs.Common.{◌≡◌, ℕ, zero, suc, ◌-◌, ◌≤◌, Bool, true, false, cond, eqb, ltb, ◌⊎◌, List, [], ◌∷◌, Decides, sym, refl, ap, ◌∙◌, subst, ap₂, inl, inr, ⊎_elim, arith}
use mathlib.Core.List.Memᴰ
use Rattle.std.proofs.lemmas.Bool.{and_from, eq-eqb, ne_eqb, eqb-true, eqb-false, lt-ltb, cond-true, cond-false, cond_both}
use Rattle.frames.specs.declared.header.Header.{Header}
use Rattle.frames.specs.Form.{is_token, is_word, word_of}
use Rattle.grammar.proofs.First.{NoMark}
use Rattle.words.specs.Codes as codes
use Rattle.words.specs.Bits.{width_pos}
use Rattle.words.specs.Sets.{member, no_words}
use Rattle.words.specs.Members.{member_with}
use Rattle.words.specs.WordLaws.{never}
use Rattle.words.specs.declared.set.Words.{Words}
use Rattle.lookahead.specs.Entries.{Choice, strip, WordIn, ChosenIn, AllWords, AllChoices}
use Rattle.lookahead.specs.Stored.{Stores, StandsFor, StandsForChoices, first_number, second_number, with_entry, with_choice, with_entries, with_choices}
use Rattle.lookahead.proofs.Strings.{strip_mark, strip_token, strip_same, token_range, token_no_mark, one_symbol, more_symbols}

-- the numbers of a word that is stored as itself
one_number : (k c : ℕ) → 1 ≤ c → c ≤ 20 → (codes.is_word k c 0 ≡ true) × (codes.word_of c 0 ≡ c ∷ [])
one_number k zero low high = absurd (omega arith)
one_number k (suc c) low high = (and_from _ _ (lt-ltb (suc c) 21 (omega arith)) (lt-ltb 0 (codes.width k (suc c)) (width_pos k (suc c))), refl)

two_numbers : (k c d : ℕ) → codes.cut k ≡ 2 → 1 ≤ c → c ≤ 20 → 1 ≤ d → d ≤ 20 → (codes.is_word k c d ≡ true) × (codes.word_of c d ≡ c ∷ d ∷ [])
two_numbers k zero d two low high low' high' = absurd (omega arith)
two_numbers k (suc c) zero two low high low' high' = absurd (omega arith)
two_numbers k (suc c) (suc d) two low high low' high' = (and_from _ _ (lt-ltb (suc c) 21 (omega arith)) (by (ltb k 2) two), refl)
  where
    by : (b : Bool) → ◌≡◌ {A = ℕ} (cond b 1 2) 2 → ltb (suc d) (cond b 1 21) ≡ true
    by true e = absurd (omega arith)
    by false e = lt-ltb (suc d) 21 (omega arith)

-- the two numbers of an entry are those of its word without the end mark
abbrev Numbered : ℕ → ℕ → ℕ → List ℕ → Type 0
Numbered k a b y = (codes.is_word k (first_number a) (second_number a b) ≡ true) × (codes.word_of (first_number a) (second_number a b) ≡ strip y)

numbered_by : (k a b c d : ℕ) (y : List ℕ) → first_number a ≡ c → second_number a b ≡ d → codes.is_word k c d ≡ true → codes.word_of c d ≡ strip y → Numbered k a b y
numbered_by k a b c d y p q w e = (ap₂ (codes.is_word k) p q ∙ w, ap₂ codes.word_of p q ∙ e)

-- w is a word with the property P, without its end mark
abbrev pub WithoutMark : (List ℕ → Type 0) → List ℕ → Type 0
WithoutMark P w = (y : List ℕ) × (P y × (w ≡ strip y))

-- nothing is put in
none_added : {t : Bool} {P : Type 0} → (P → ⊥) → Decides t ((t ≡ true) ⊎ P)
none_added never-new = (λ m. inl m, λ c. ⊎_elim (λ old. old) (λ new. absurd (never-new new)) c)

abbrev choice : ℕ → ℕ → ℕ → ℕ → Choice
choice A a b q = record { nonterminal = A; word = word_of a b; rule = q }

module _ (k : ℕ) (h : Header) (size : h.k ≡ codes.cut k) (few : h.t ≤ 20) where
  first_token : (a : ℕ) → NoMark a → first_number a ≡ a
  first_token a n = cond-false (eqb a 31) 0 a (ne_eqb a 31 n)

  second_end : (a b : ℕ) → NoMark a → (b ≡ 0) ⊎ (b ≡ 31) → second_number a b ≡ 0
  second_end a b n (inl z) = cond-false (eqb a 31) 0 _ (ne_eqb a 31 n) ∙ ap (λ (x : ℕ). cond (eqb x 31) 0 x) z
  second_end a b n (inr e) = cond-false (eqb a 31) 0 _ (ne_eqb a 31 n) ∙ cond-true (eqb b 31) 0 b (eq-eqb b 31 e)

  second_token : (a b : ℕ) → NoMark a → NoMark b → second_number a b ≡ b
  second_token a b n m = cond-false (eqb a 31) 0 _ (ne_eqb a 31 n) ∙ cond-false (eqb b 31) 0 b (ne_eqb b 31 m)

  numbered_mark : (a b : ℕ) (y : List ℕ) → a ≡ 31 → strip y ≡ [] → Numbered k a b y
  numbered_mark a b y e f =
      numbered_by k a b 0 0 y (cond-true (eqb a 31) 0 a (eq-eqb a 31 e)) (cond-true (eqb a 31) 0 _ (eq-eqb a 31 e)) refl (sym f)

  -- a token, and then nothing or the end mark
  numbered_one : (a b : ℕ) (y : List ℕ) → is_token h a ≡ true → (b ≡ 0) ⊎ (b ≡ 31) → strip y ≡ a ∷ [] → Numbered k a b y
  numbered_one a b y t end f =
      let r = token_range h a t in
      let n = token_no_mark h few a t in
      let o = one_number k a r.0 (omega (arith, r.1)) in
      numbered_by k a b a 0 y (first_token a n) (second_end a b n end) o.0 (o.1 ∙ sym f)

  numbered_two : (a b : ℕ) → codes.cut k ≡ 2 → is_token h a ≡ true → is_token h b ≡ true → Numbered k a b (a ∷ b ∷ [])
  numbered_two a b two t t' =
      let r = token_range h a t in
      let r' = token_range h b t' in
      let n = token_no_mark h few a t in
      let n' = token_no_mark h few b t' in
      let o = two_numbers k a b two r.0 (omega (arith, r.1)) r'.0 (omega (arith, r'.1)) in
      numbered_by k a b a b (a ∷ b ∷ []) (first_token a n) (second_token a b n n') o.0
      (o.1 ∙ sym (strip_token a (b ∷ []) n ∙ ap (λ (x : List ℕ). a ∷ x) (strip_token b [] n')))

  numbered_short : (a b : ℕ) → b ≡ 0 → is_word h.k h (a ∷ []) ≡ true → Numbered k a b (a ∷ [])
  numbered_short a b z w =
      ⊎_elim
      (λ e. numbered_mark a b (a ∷ []) e (strip_mark a [] e))
      (λ q. numbered_one a b (a ∷ []) q.1 (inl z) (strip_token a [] (token_no_mark h few a q.1)))
      (one_symbol h h.k a w)

  numbered_long : (a b : ℕ) → is_word h.k h (a ∷ b ∷ []) ≡ true → Numbered k a b (a ∷ b ∷ [])
  numbered_long a b w =
      let (l, t, r) = more_symbols h h.k a b [] w in
      let n = token_no_mark h few a t in
      ⊎_elim
      (λ e. numbered_one a b (a ∷ b ∷ []) t (inr e) (strip_token a (b ∷ []) n ∙ ap (λ (x : List ℕ). a ∷ x) (strip_mark b [] e)))
      (λ q. let one = q.0 in let two : codes.cut k ≡ 2 = omega (arith, one, l, size) in numbered_two a b two t q.1)
      (one_symbol h (h.k - 1) b r)

  numbered : (a b : ℕ) → is_word h.k h (word_of a b) ≡ true → Numbered k a b (word_of a b)
  numbered a b =
      cond_both (eqb b 0) (a ∷ []) (a ∷ b ∷ []) (λ (y : List ℕ). is_word h.k h y ≡ true → Numbered k a b y)
      (λ z. numbered_short a b (eqb-true b 0 z)) (λ z. numbered_long a b)

  -- the set has one more word
  entry_added : (s : Words k) (a b : ℕ) → is_word h.k h (word_of a b) ≡ true
      → (w : List ℕ) → Decides (member (with_entry s a b) w) ((member s w ≡ true) ⊎ (w ≡ strip (word_of a b)))
  entry_added s a b good w =
      let d = member_with s (first_number a) (second_number a b) w in
      let (ok, is) = numbered a b good in (
        λ m. ⊎_elim (λ old. inl old) (λ new. inr (new.1 ∙ is)) (d.0 m),
        λ c. ⊎_elim (λ old. d.1 (inl old)) (λ new. d.1 (inr (ok, new ∙ sym is))) c,
      )

  entries_added : (es : List ℕ) → AllWords h es → (s : Words k) (w : List ℕ)
      → Decides (member (with_entries s es) w) ((member s w ≡ true) ⊎ WithoutMark (WordIn es) w)
  entries_added [] all s w = none_added (λ (y, (m, e)). Memᴰ.not-nil m)
  entries_added (a ∷ []) all s w = none_added (λ (y, (m, e)). Memᴰ.not-nil m)
  entries_added (a ∷ b ∷ es) all s w =
      let d = entries_added es (λ y m. all y (Memᴰ.tail m)) (with_entry s a b) w in
      let one = entry_added s a b (all (word_of a b) (Memᴰ.head refl)) w in (
        λ m. ⊎_elim
            (λ c. ⊎_elim (λ old. inl old) (λ e. inr (word_of a b, (Memᴰ.head refl, e))) (one.0 c))
            (λ (y, (p, e)). inr (y, (Memᴰ.tail p, e)))
            (d.0 m),
        λ c. ⊎_elim
            (λ old. d.1 (inl (one.1 (inl old))))
            (λ (y, (p, e)). ⊎_elim
            (λ f. d.1 (inl (one.1 (inr (e ∙ ap strip f)))))
            (λ p'. d.1 (inr (y, (p', e))))
            (Memᴰ.cases_cons p))
            c,
      )

  choice_added : (r : ℕ) (s : Words k) (a b q : ℕ) → is_word h.k h (word_of a b) ≡ true
      → (w : List ℕ) → Decides (member (with_choice r s a b q) w) ((member s w ≡ true) ⊎ ((q ≡ r) × (w ≡ strip (word_of a b))))
  choice_added r s a b q good w =
      let d = entry_added s a b good w in
      cond_both (eqb q r) (with_entry s a b) s (λ (x : Words k). Decides (member x w) ((member s w ≡ true) ⊎ ((q ≡ r) × (w ≡ strip (word_of a b)))))
      (λ e. (λ m. ⊎_elim (λ old. inl old) (λ new. inr (eqb-true q r e, new)) (d.0 m), λ c. ⊎_elim (λ old. d.1 (inl old)) (λ new. d.1 (inr new.1)) c))
      (λ e. (λ m. inl m, λ c. ⊎_elim (λ old. old) (λ new. absurd (eqb-false q r e new.0)) c))

  choices_added : (r : ℕ) (es : List ℕ) → AllChoices h es → (s : Words k) (w : List ℕ)
      → Decides (member (with_choices r s es) w) ((member s w ≡ true) ⊎ WithoutMark (ChosenIn es r) w)
  choices_added r [] all s w = none_added (λ (y, ((A, m), e)). Memᴰ.not-nil m)
  choices_added r (A ∷ []) all s w = none_added (λ (y, ((A, m), e)). Memᴰ.not-nil m)
  choices_added r (A ∷ a ∷ []) all s w = none_added (λ (y, ((A, m), e)). Memᴰ.not-nil m)
  choices_added r (A ∷ a ∷ b ∷ []) all s w = none_added (λ (y, ((A, m), e)). Memᴰ.not-nil m)
  choices_added r (A ∷ a ∷ b ∷ q ∷ es) all s w =
      let d = choices_added r es (λ c m. all c (Memᴰ.tail m)) (with_choice r s a b q) w in
      let one = choice_added r s a b q (all (choice A a b q) (Memᴰ.head refl)) w in (
        λ m. ⊎_elim
            (λ c. ⊎_elim
            (λ old. inl old)
            (λ (p, e). inr (word_of a b, ((A, Memᴰ.head (ap (choice A a b) (sym p))), e)))
            (one.0 c))
            (λ (y, ((B, p), e)). inr (y, ((B, Memᴰ.tail p), e)))
            (d.0 m),
        λ c. ⊎_elim
            (λ old. d.1 (inl (one.1 (inl old))))
            (λ (y, ((B, p), e)). ⊎_elim
            (λ f. d.1 (inl (one.1 (inr (sym (ap (λ (x : Choice). x.rule) f), e ∙ ap (λ (x : Choice). strip x.word) f)))))
            (λ p'. d.1 (inr (y, ((B, p'), e))))
            (Memᴰ.cases_cons p))
            c,
      )

  -- what has the words with a property, without their end marks, stores them
  pub stores_from : (W : Words k) (P : List ℕ → Type 0) → ((y : List ℕ) → P y → is_word h.k h y ≡ true)
      → ((w : List ℕ) → Decides (member W w) (WithoutMark P w)) → Stores h W P
  stores_from W P all d = record {
    words = λ y v. (
      λ m. let (z, (p, e)) = (d (strip y)).0 m in subst P (sym (strip_same h few h.k y z v (all z p) e)) p,
      λ p. (d (strip y)).1 (y, (p, refl)),
    );
    only = λ w m. (d w).0 m;
  }

  pub words_stored : (es : List ℕ) → AllWords h es → StandsFor h (with_entries (no_words k) es) es
  words_stored es all =
      stores_from (with_entries (no_words k) es) (WordIn es) all
      (λ w. let d = entries_added es all (no_words k) w in (λ m. ⊎_elim (λ old. absurd (never k w old)) (λ new. new) (d.0 m), λ c. d.1 (inr c)))

  pub choices_stored : (r : ℕ) (es : List ℕ) → AllChoices h es → StandsForChoices h (with_choices r (no_words k) es) es r
  choices_stored r es all =
      stores_from (with_choices r (no_words k) es) (ChosenIn es r) (λ y (A, m). all (record { nonterminal = A; word = y; rule = r }) m)
      (λ w. let d = choices_added r es all (no_words k) w in (λ m. ⊎_elim (λ old. absurd (never k w old)) (λ new. new) (d.0 m), λ c. d.1 (inr c)))
