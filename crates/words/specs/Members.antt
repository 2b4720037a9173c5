-- What the union and a new word do to the members.
use Rattle.std.specs.Prelude.{◌≡◌, ℕ, zero, suc, ◌<◌, Bool, true, false, ◌&&◌, ◌||◌, ltb, List, [], ◌∷◌, Decides, ◌==◌, ◌≢◌, nat_lt, slice_index, refl}
use Rattle.std.proofs.Common.{sym, ap, ap₂, ◌∙◌, subst, inl, inr, ⊎_elim, arith}
use Rattle.std.proofs.lemmas.List.{get_or_past}
use Rattle.std.proofs.lemmas.Bool.{cases_lt, and_parts, and_from, or_cases, or_left, or_right, false≢true, both_ways, or_from, lt-ltb, ltb-true, eq-eqb, eqb-true}
use Rattle.std.proofs.lemmas.Bool.Decides.{Decides-below_or}
use Rattle.words.specs.Codes.{width, word_of, is_word, bit}
use Rattle.words.specs.Bits.{bit_past, width_most}
use Rattle.words.specs.Sets.{has, passes, member, of_test, has_of_test, same_set, any, begins, some_word, with_word, word_kind, Added}
use Rattle.words.specs.declared.set.Words.{Words}

-- The numbers of no word.
abbrev pub Out : ℕ → ℕ → ℕ → Type 0
Out k a b = a < 21 → b < width k a → ⊥

-- A set has nothing there.
pub has_out : {k : ℕ} (s : Words k) (a b : ℕ) → Out k a b → has s a b ≡ false
has_out {k} s a b out =
    ⊎_elim
    (λ ha. bit_past (width k a) (slice_index s.rows a) b (s.fits a ha) (⊎_elim (λ hb. absurd (out ha hb)) (λ h. h) (cases_lt b (width k a))))
    (λ past. ap (λ x. bit x b) (get_or_past s.rows a 0 (rw s.long past)) ∙ bit_past 0 0 b (omega arith) (omega arith))
    (cases_lt a 21)

-- A test that fails at the numbers of no word is the test of its set.
pub has_test : (k : ℕ) (f : ℕ → ℕ → Bool) → ((a b : ℕ) → Out k a b → f a b ≡ false) → (a b : ℕ) → has (of_test k f) a b ≡ f a b
has_test k f h a b =
    ⊎_elim
    (λ ha. ⊎_elim
    (λ hb. has_of_test k f a b ha hb)
    (λ past. let out : Out k a b = λ p q. omega arith in has_out (of_test k f) a b out ∙ sym (h a b out))
    (cases_lt b (width k a)))
    (λ past. let out : Out k a b = λ p q. omega arith in has_out (of_test k f) a b out ∙ sym (h a b out))
    (cases_lt a 21)

-- Words pass tests that agree alike.
pub passes_same : (f g : ℕ → ℕ → Bool) → ((a b : ℕ) → f a b ≡ g a b) → (w : List ℕ) → passes f w ≡ passes g w
passes_same f g h [] = h 0 0
passes_same f g h (zero ∷ []) = refl
passes_same f g h (suc a ∷ []) = h (suc a) 0
passes_same f g h (zero ∷ b ∷ []) = refl
passes_same f g h (suc a ∷ zero ∷ []) = refl
passes_same f g h (suc a ∷ suc b ∷ []) = h (suc a) (suc b)
passes_same f g h (a ∷ b ∷ c ∷ w) = refl

-- ---- the union

-- A union has what one of the two has.
pub has_join : {k : ℕ} (s t : Words k) (a b : ℕ) → has ((word_kind k).join s t) a b ≡ (has s a b || has t a b)
has_join {k} s t = has_test k (λ a b. has s a b || has t a b) (λ a b out. or_from _ _ (has_out s a b out) (has_out t a b out))

-- A word passes one of two tests.
passes_or : (f g : ℕ → ℕ → Bool) (w : List ℕ) → passes (λ a b. f a b || g a b) w ≡ (passes f w || passes g w)
passes_or f g [] = refl
passes_or f g (zero ∷ []) = refl
passes_or f g (suc a ∷ []) = refl
passes_or f g (zero ∷ b ∷ []) = refl
passes_or f g (suc a ∷ zero ∷ []) = refl
passes_or f g (suc a ∷ suc b ∷ []) = refl
passes_or f g (a ∷ b ∷ c ∷ w) = refl

-- The words of a union are those of both.
pub member_join : {k : ℕ} (s t : Words k) (w : List ℕ) → member ((word_kind k).join s t) w ≡ (member s w || member t w)
member_join {k} s t w = passes_same (has ((word_kind k).join s t)) (λ a b. has s a b || has t a b) (has_join s t) w ∙ passes_or (has s) (has t) w

-- ---- words by their two numbers

-- Whether a test holds somewhere below n.
pub any_decides : (f : ℕ → Bool) (n : ℕ) → Decides (any f n) ((c : ℕ) × (c < n) × (f c ≡ true))
any_decides f n = Decides-below_or f (λ c. f c ≡ true) (any f) (λ c. (λ h. h, λ h. h)) refl (λ _. refl) n

module _ {k : ℕ} (s : Words k) where
  -- No second token without a first.
  pub no_second : (b : ℕ) → has s 0 (suc b) ≢ true
  no_second b h = both_ways _ (has_out s 0 (suc b) (λ p q. omega arith)) h

  -- None at all where words are cut to one token.
  pub cut_short : ltb k 2 ≡ true → (a b : ℕ) → has s (suc a) (suc b) ≢ true
  cut_short e a b h =
      both_ways _ (has_out s (suc a) (suc b) (λ p q. let q' = rw e at q in omega arith)) h

  -- The word of two numbers is in the set if the numbers are.
  pub member_word_of : (a b : ℕ) → member s (word_of a b) ≡ has s a b
  member_word_of zero zero = refl
  member_word_of zero (suc b) = sym (has_out s 0 (suc b) (λ p q. omega arith))
  member_word_of (suc a) zero = refl
  member_word_of (suc a) (suc b) = refl

  -- Each word in the set is that of two numbers.
  pub numbers_of : (w : List ℕ) → member s w ≡ true → (a b : ℕ) × (has s a b ≡ true) × (word_of a b ≡ w)
  numbers_of [] h = (0, 0, h, refl)
  numbers_of (zero ∷ []) h = absurd (false≢true h)
  numbers_of (suc a ∷ []) h = (suc a, 0, h, refl)
  numbers_of (zero ∷ b ∷ []) h = absurd (false≢true h)
  numbers_of (suc a ∷ zero ∷ []) h = absurd (false≢true h)
  numbers_of (suc a ∷ suc b ∷ []) h = (suc a, suc b, h, refl)
  numbers_of (a ∷ b ∷ c ∷ w) h = absurd (false≢true h)

  -- They are the numbers of a word.
  pub inside : (a b : ℕ) → has s a b ≡ true → (a < 21) × (b < width k a)
  inside a b h =
      ⊎_elim
      (λ ha. ⊎_elim
      (λ hb. (ha, hb))
      (λ past. absurd (both_ways _ (has_out s a b (λ p q. omega arith)) h))
      (cases_lt b (width k a)))
      (λ past. absurd (both_ways _ (has_out s a b (λ p q. omega arith)) h))
      (cases_lt a 21)

  -- Both are below 21.
  pub in_range : (a b : ℕ) → has s a b ≡ true → (a < 21) × (b < 21)
  in_range a b h = let p = inside a b h in let m = width_most k a in (p.0, omega (arith, p.1, m))

  -- A word begins with its first token.
  pub begins_from : (a b : ℕ) → has s a b ≡ true → begins s a ≡ true
  begins_from a b h = (any_decides (has s a) 21).1 (b, (in_range a b h).1, h)

  -- What begins a word goes on to one.
  pub begins_gives : (a : ℕ) → begins s a ≡ true → (b : ℕ) × (has s a b ≡ true)
  begins_gives a h = let r = (any_decides (has s a) 21).0 h in (r.0, r.2)

  -- A set with a word has some word.
  pub some_word_from : (w : List ℕ) → member s w ≡ true → some_word s ≡ true
  some_word_from w h =
      let r = numbers_of w h in
      (any_decides (begins s) 21).1 (r.0, (in_range r.0 r.1 r.2).0, begins_from r.0 r.1 r.2)

  -- Some word is a word.
  pub some_word_gives : some_word s ≡ true → (w : List ℕ) × (member s w ≡ true)
  some_word_gives h =
      let r = (any_decides (begins s) 21).0 h in
      let q = begins_gives r.0 r.2 in
      (word_of r.0 q.0, member_word_of r.0 q.0 ∙ q.1)

-- Sets with the same words are equal.
pub same_words : {k : ℕ} (s t : Words k) → ((w : List ℕ) → member s w ≡ member t w) → s ≡ t
same_words {k} s t h = same_set s t (λ a b ha hb. at a b hb)
  where
    at : (a b : ℕ) → b < width k a → has s a b ≡ has t a b
    at zero zero hb = h []
    at zero (suc b) hb = absurd (omega arith)
    at (suc a) zero hb = h (suc a ∷ [])
    at (suc a) (suc b) hb = h (suc a ∷ suc b ∷ [])

-- ---- a new word

-- The words of a set with a word added are those of the set and this one.
pub member_with : {k : ℕ} (s : Words k) (a b : ℕ) (w : List ℕ) → Decides (member (with_word s a b) w) (Added s a b w)
member_with {k} s a b w = (from, to)
  where
    here : (c d : ℕ) → c < 21 → d < width k c → has (with_word s a b) c d ≡ (has s c d || (c == a && d == b))
    here c d = has_of_test k (λ c d. has s c d || (c == a && d == b)) c d

    from : member (with_word s a b) w ≡ true → Added s a b w
    from h =
        let (c, d, hc, e) = numbers_of (with_word s a b) w h in
        let (ci, di) = inside (with_word s a b) c d hc in
        ⊎_elim
        (λ old. inl (subst (λ x. member s x ≡ true) e (member_word_of s c d ∙ old)))
        (λ new.
        let p = and_parts (c == a) (d == b) new in
        let ca = eqb-true c a p.0 in
        let db = eqb-true d b p.1 in
        let ok : is_word k c d ≡ true = and_from _ _ (lt-ltb c 21 ci) (lt-ltb d (width k c) di) in
        inr (sym (ap₂ (is_word k) ca db) ∙ ok, sym e ∙ ap₂ word_of ca db))
        (or_cases (has s c d) _ (sym (here c d ci di) ∙ hc))

    to : Added s a b w → member (with_word s a b) w ≡ true
    to (inl h) =
        let (c, d, hc, e) = numbers_of s w h in
        let (ci, di) = inside s c d hc in
        subst (λ x. member (with_word s a b) x ≡ true) e (member_word_of (with_word s a b) c d ∙ here c d ci di ∙ or_left (has s c d) _ hc)
    to (inr (ok, e)) =
        let p = and_parts (nat_lt a 21) (nat_lt b (width k a)) ok in
        let new : has (with_word s a b) a b ≡ true =
        here a b (ltb-true a 21 p.0) (ltb-true b (width k a) p.1) ∙ or_right (has s a b) _ (and_from _ _ (eq-eqb a a refl) (eq-eqb b b refl)) in
        subst (λ x. member (with_word s a b) x ≡ true) (sym e) (member_word_of (with_word s a b) a b ∙ new)
