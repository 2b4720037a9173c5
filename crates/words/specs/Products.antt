-- The product of two sets has the words of one joined to those of the other, and cut.
use Rattle.std.specs.Prelude.{◌≡◌, ℕ, zero, suc, ◌<◌, Bool, true, false, cond, ◌&&◌, List, [], ◌∷◌, ◌++◌, take, Decides, nat_lt, refl}
use Rattle.std.proofs.Common.{sym, ◌∙◌, subst, ⊎_elim, arith}
use Rattle.std.proofs.lemmas.Bool.{ne_eqb, eqb-true, and_parts, and_from, or_cases, or_left, or_right, false≢true, and_right, or_from, and_left}
use Rattle.words.specs.Codes.{cut, width}
use Rattle.words.specs.Sets.{has, passes, member, Joined, begins, some_word, follows, joins, word_kind}
use Rattle.words.specs.declared.set.Words.{Words}
use Rattle.words.specs.Members.{Out, has_out, has_test, passes_same, no_second, cut_short, begins_from, begins_gives, some_word_from, some_word_gives, in_range}

module _ {k : ℕ} (s t : Words k) where
  -- The numbers of no word are not those of a word that goes on.
  follows_out : (one : Bool) → nat_lt k 2 ≡ one → (a b : ℕ) → Out k (suc a) (suc b) → has s (suc a) 0 && follows one t (suc b) ≡ false
  follows_out true e a b out = and_right (has s (suc a) 0) _ (ne_eqb (suc b) 0 (λ z. omega arith))
  follows_out false e a b out = go (begins t (suc b)) refl (has s (suc a) 0) refl
    where
      go : (y : Bool) → begins t (suc b) ≡ y → (x : Bool) → has s (suc a) 0 ≡ x → (x && y) ≡ false
      go y ey false ex = refl
      go false ey true ex = refl
      go true ey true ex =
          let q = begins_gives t (suc b) ey in
          let wide : suc b < width k (suc a) = rw e (in_range t (suc b) q.0 q.1).0 in
          absurd (out (in_range s (suc a) 0 ex).0 wide)

  -- They are not those of a joined word.
  joins_out : (a b : ℕ) → Out k a b → joins (nat_lt k 2) s t a b ≡ false
  joins_out zero zero out = absurd (out (omega arith) (omega arith))
  joins_out zero (suc b) out = refl
  joins_out (suc a) zero out =
      or_from _ _ (and_right (has s 0 0) _ (has_out t (suc a) 0 out)) (and_right (some_word t) _ (and_left _ _ (has_out s (suc a) 0 out)))
  joins_out (suc a) (suc b) out =
      or_from _ _ (and_right (has s 0 0) _ (has_out t (suc a) (suc b) out))
      (and_right (some_word t) _ (or_from _ _ (has_out s (suc a) (suc b) out) (follows_out (nat_lt k 2) refl a b out)))

  -- The numbers in the product are those of the joined words.
  pub has_product : (a b : ℕ) → has ((word_kind k).product s t) a b ≡ joins (nat_lt k 2) s t a b
  has_product = has_test k (joins (nat_lt k 2) s t) joins_out

  -- ---- a word of s joined to one of t

  -- A word of s joined to one of t, and cut, is there.
  join_from : (one : Bool) → nat_lt k 2 ≡ one → (u v : List ℕ) → member s u ≡ true → member t v ≡ true → passes (joins one s t) (take (cond one 1 2) (u ++ v)) ≡ true
  join_from true e [] [] hs ht = and_from _ _ hs ht
  join_from true e [] (zero ∷ []) hs ht = absurd (false≢true ht)
  join_from true e [] (suc c ∷ []) hs ht = or_left _ _ (and_from _ _ hs ht)
  join_from true e [] (zero ∷ d ∷ []) hs ht = absurd (false≢true ht)
  join_from true e [] (suc c ∷ zero ∷ []) hs ht = absurd (false≢true ht)
  join_from true e [] (suc c ∷ suc d ∷ []) hs ht = absurd (cut_short t e c d ht)
  join_from true e [] (c ∷ d ∷ x ∷ v) hs ht = absurd (false≢true ht)
  join_from true e (zero ∷ []) v hs ht = absurd (false≢true hs)
  join_from true e (suc a ∷ []) v hs ht = or_right _ _ (and_from _ _ (some_word_from t v ht) (and_from _ _ hs refl))
  join_from true e (zero ∷ b ∷ []) v hs ht = absurd (false≢true hs)
  join_from true e (suc a ∷ zero ∷ []) v hs ht = absurd (false≢true hs)
  join_from true e (suc a ∷ suc b ∷ []) v hs ht = absurd (cut_short s e a b hs)
  join_from true e (a ∷ b ∷ c ∷ u) v hs ht = absurd (false≢true hs)
  join_from false e [] [] hs ht = and_from _ _ hs ht
  join_from false e [] (zero ∷ []) hs ht = absurd (false≢true ht)
  join_from false e [] (suc c ∷ []) hs ht = or_left _ _ (and_from _ _ hs ht)
  join_from false e [] (zero ∷ d ∷ []) hs ht = absurd (false≢true ht)
  join_from false e [] (suc c ∷ zero ∷ []) hs ht = absurd (false≢true ht)
  join_from false e [] (suc c ∷ suc d ∷ []) hs ht = or_left _ _ (and_from _ _ hs ht)
  join_from false e [] (c ∷ d ∷ x ∷ v) hs ht = absurd (false≢true ht)
  join_from false e (zero ∷ []) v hs ht = absurd (false≢true hs)
  join_from false e (suc a ∷ []) [] hs ht =
      or_right _ _ (and_from _ _ (some_word_from t [] ht) (and_from _ _ hs (begins_from t 0 0 ht)))
  join_from false e (suc a ∷ []) (zero ∷ []) hs ht = absurd (false≢true ht)
  join_from false e (suc a ∷ []) (suc c ∷ []) hs ht =
      or_right _ _ (and_from _ _ (some_word_from t (suc c ∷ []) ht) (or_right _ _ (and_from _ _ hs (begins_from t (suc c) 0 ht))))
  join_from false e (suc a ∷ []) (zero ∷ d ∷ []) hs ht = absurd (false≢true ht)
  join_from false e (suc a ∷ []) (suc c ∷ zero ∷ []) hs ht = absurd (false≢true ht)
  join_from false e (suc a ∷ []) (suc c ∷ suc d ∷ []) hs ht =
      or_right _ _ (and_from _ _ (some_word_from t (suc c ∷ suc d ∷ []) ht) (or_right _ _ (and_from _ _ hs (begins_from t (suc c) (suc d) ht))))
  join_from false e (suc a ∷ []) (c ∷ d ∷ x ∷ v) hs ht = absurd (false≢true ht)
  join_from false e (zero ∷ b ∷ []) v hs ht = absurd (false≢true hs)
  join_from false e (suc a ∷ zero ∷ []) v hs ht = absurd (false≢true hs)
  join_from false e (suc a ∷ suc b ∷ []) v hs ht = or_right _ _ (and_from _ _ (some_word_from t v ht) (or_left _ _ hs))
  join_from false e (a ∷ b ∷ c ∷ u) v hs ht = absurd (false≢true hs)

  -- ---- and back

  -- w is such a word.
  abbrev Parts : Bool → List ℕ → Type 0
  Parts one w = (u v : List ℕ) × ((member s u ≡ true) × (member t v ≡ true) × (w ≡ take (cond one 1 2) (u ++ v)))

  -- One token is not cut.
  take_one : (one : Bool) (x : ℕ) → x ∷ [] ≡ take (cond one 1 2) (x ∷ [])
  take_one true x = refl
  take_one false x = refl

  -- A word of one token that goes on by nothing is joined.
  one_token : (one : Bool) (a : ℕ) → has s (suc a) 0 ≡ true → some_word t ≡ true → follows one t 0 ≡ true → Parts one (suc a ∷ [])
  one_token true a h w f = let v = some_word_gives t w in (suc a ∷ [], v.0, (h, v.1, refl))
  one_token false a h w f = let q = begins_gives t 0 f in (suc a ∷ [], [], (h, empty q.0 q.1, refl))
    where
      empty : (b : ℕ) → has t 0 b ≡ true → has t 0 0 ≡ true
      empty zero p = p
      empty (suc b) p = absurd (no_second t b p)

  -- So is one that goes on by a token.
  two_tokens : (one : Bool) → nat_lt k 2 ≡ one → (a b : ℕ) → has s (suc a) 0 ≡ true → follows one t (suc b) ≡ true → Parts one (suc a ∷ suc b ∷ [])
  two_tokens true e a b h f = absurd (omega (arith, eqb-true (suc b) 0 f))
  two_tokens false e a b h f = let q = begins_gives t (suc b) f in go q.0 q.1
    where
      go : (c : ℕ) → has t (suc b) c ≡ true → Parts false (suc a ∷ suc b ∷ [])
      go zero p = (suc a ∷ [], suc b ∷ [], (h, p, refl))
      go (suc c) p = (suc a ∷ [], suc b ∷ suc c ∷ [], (h, p, refl))

  -- What is there is a word of s joined to one of t, and cut.
  join_gives : (one : Bool) → nat_lt k 2 ≡ one → (w : List ℕ) → passes (joins one s t) w ≡ true → Parts one w
  join_gives true e [] h = let p = and_parts _ _ h in ([], [], (p.0, p.1, refl))
  join_gives false e [] h = let p = and_parts _ _ h in ([], [], (p.0, p.1, refl))
  join_gives one e (zero ∷ []) h = absurd (false≢true h)
  join_gives one e (suc a ∷ []) h =
      ⊎_elim
      (λ l. let p = and_parts _ _ l in ([], suc a ∷ [], (p.0, p.1, take_one one (suc a))))
      (λ r. let p = and_parts _ _ r in let q = and_parts _ _ p.1 in one_token one a q.0 p.0 q.1)
      (or_cases (has s 0 0 && has t (suc a) 0) _ h)
  join_gives one e (zero ∷ b ∷ []) h = absurd (false≢true h)
  join_gives one e (suc a ∷ zero ∷ []) h = absurd (false≢true h)
  join_gives true e (suc a ∷ suc b ∷ []) h =
      ⊎_elim
      (λ l. absurd (cut_short t e a b (and_parts _ _ l).1))
      (λ r. let p = and_parts _ _ r in ⊎_elim (λ x. absurd (cut_short s e a b x)) (λ y. let q = and_parts _ _ y in two_tokens true e a b q.0 q.1) (or_cases (has s (suc a) (suc b)) _ p.1))
      (or_cases (has s 0 0 && has t (suc a) (suc b)) _ h)
  join_gives false e (suc a ∷ suc b ∷ []) h =
      ⊎_elim
      (λ l. let p = and_parts _ _ l in ([], suc a ∷ suc b ∷ [], (p.0, p.1, refl)))
      (λ r. let p = and_parts _ _ r in
      ⊎_elim
      (λ x. let v = some_word_gives t p.0 in (suc a ∷ suc b ∷ [], v.0, (x, v.1, refl)))
      (λ y. let q = and_parts _ _ y in two_tokens false e a b q.0 q.1)
      (or_cases (has s (suc a) (suc b)) _ p.1))
      (or_cases (has s 0 0 && has t (suc a) (suc b)) _ h)
  join_gives one e (a ∷ b ∷ c ∷ w) h = absurd (false≢true h)

  -- The words of a product are those of one set joined to those of the other, and cut.
  pub member_product : (w : List ℕ) → Decides (member ((word_kind k).product s t) w) (Joined s t w)
  member_product w =
      let same = passes_same (has ((word_kind k).product s t)) (joins (nat_lt k 2) s t) has_product in (
        λ h. join_gives (nat_lt k 2) refl w (sym (same w) ∙ h),
        λ (u, v, (hu, hv, e)). subst (λ x. member ((word_kind k).product s t) x ≡ true) (sym e) (same (take (cut k) (u ++ v)) ∙ join_from (nat_lt k 2) refl u v hu hv),
      )
