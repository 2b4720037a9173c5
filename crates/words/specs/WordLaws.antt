-- Sets of words have the laws of a kind of value. A law is shown by the words on its two sides; a set has at most 421 words.
use Rattle.std.specs.Prelude.{◌≡◌, ℕ, zero, suc, ◌<◌, ◌≤◌, Bool, true, false, cond, ◌||◌, ◌⊎◌, List, [], ◌∷◌, ◌++◌, take, Decides, ◌==◌, ◌≢◌, nat_lt, refl}
use Rattle.std.proofs.Common.{sym, ap, ◌∙◌, subst, inl, inr, ⊎_elim, append_assoc, append-nil, le_refl, arith}
use Rattle.std.proofs.Math.Bool.{or_assoc, or_comm, or_self}
use Rattle.std.proofs.lemmas.Bool.{cases_lt, or_cases, or_left, or_right, false≢true}
use Rattle.std.proofs.lemmas.Bool.Decides.{same_from_decides}
use Rattle.std.proofs.lemmas.Slice.Eq.{slice_eq-Decides}
use Rattle.std.specs.Cmp.{unsigned_Decides}
use Rattle.std.specs.Cmp.Lexicographic.{pointwise}
use Rattle.grammar.proofs.Lists.{take_join, take_join_left}
use Rattle.solver.specs.Laws.{Laws}
use Rattle.words.specs.Codes.{cut, width}
use Rattle.words.specs.Sets.{has, passes, member, Joined, no_words, word_kind, by_rows, same_set, row_count, count}
use Rattle.words.specs.declared.set.Words.{Words}
use Rattle.words.specs.Members.{has_test, passes_same, member_join, has_join, member_with, same_words, cut_short}
use Rattle.words.specs.Products.{member_product}
use Rattle.words.specs.Counts.{total_le, total_same, ones_total, flag_le, flag_one, flag_same}

module _ (k : ℕ) where
  -- A word of a set is as it is cut.
  pub whole : (s : Words k) (w : List ℕ) → member s w ≡ true → take (cut k) w ≡ w
  whole s w h = go (nat_lt k 2) refl w h
    where
      go : (one : Bool) → nat_lt k 2 ≡ one → (w : List ℕ) → member s w ≡ true → take (cond one 1 2) w ≡ w
      go true e [] h = refl
      go false e [] h = refl
      go true e (a ∷ []) h = refl
      go false e (a ∷ []) h = refl
      go true e (zero ∷ b ∷ []) h = absurd (false≢true h)
      go true e (suc a ∷ zero ∷ []) h = absurd (false≢true h)
      go true e (suc a ∷ suc b ∷ []) h = absurd (cut_short s e a b h)
      go false e (a ∷ b ∷ []) h = refl
      go one e (a ∷ b ∷ c ∷ w) h = absurd (false≢true h)

  -- The product.
  infixl 60 ◌∘◌
  abbrev ◌∘◌ : Words k → Words k → Words k
  s ∘ t = (word_kind k).product s t

  -- The union.
  infixl 50 ◌∪◌
  abbrev ◌∪◌ : Words k → Words k → Words k
  s ∪ t = (word_kind k).join s t

  -- The set of the empty word.
  abbrev one : Words k
  one = (word_kind k).unit

  -- Joined words, cut first on the left.
  cut_left : (u v : List ℕ) → take (cut k) (take (cut k) u ++ v) ≡ take (cut k) (u ++ v)
  cut_left u v = take_join_left (cut k) (cut k) u v (le_refl (cut k))

  -- Joined words, cut first on the right.
  cut_right : (u v : List ℕ) → take (cut k) (u ++ take (cut k) v) ≡ take (cut k) (u ++ v)
  cut_right u v = take_join (cut k) (cut k) u v (le_refl (cut k))

  -- Sets whose words are known by the same fact are equal.
  same_by : (s t : Words k) (P : List ℕ → Type 0) → ((w : List ℕ) → Decides (member s w) (P w)) → ((w : List ℕ) → Decides (member t w) (P w)) → s ≡ t
  same_by s t P p q = same_words s t (λ w. same_from_decides (member s w) (member t w) (p w) (q w))

  -- ---- the product is associative

  -- w is a word of each of three sets, joined and cut.
  abbrev Three : (s t r : Words k) → List ℕ → Type 0
  Three s t r w = (u v x : List ℕ) × ((member s u ≡ true) × (member t v ≡ true) × (member r x ≡ true) × (w ≡ take (cut k) (u ++ (v ++ x))))

  -- Grouped to the left.
  left_three : (s t r : Words k) (w : List ℕ) → Decides (member ((s ∘ t) ∘ r) w) (Three s t r w)
  left_three s t r w = (
    λ h.
        let (y, x, (hy, hx, e)) = (member_product (s ∘ t) r w).0 h in
        let (u, v, (hu, hv, f)) = (member_product s t y).0 hy in
        (u, v, x, (hu, hv, hx, e ∙ ap (λ z. take (cut k) (z ++ x)) f ∙ cut_left (u ++ v) x ∙ ap (take (cut k)) (append_assoc u v x))),
    λ (u, v, x, (hu, hv, hx, e)). (member_product (s ∘ t) r w).1 (
      take (cut k) (u ++ v),
      x,
      (
        (member_product s t (take (cut k) (u ++ v))).1 (u, v, (hu, hv, refl)),
        hx,
        e ∙ ap (take (cut k)) (sym (append_assoc u v x)) ∙ sym (cut_left (u ++ v) x),
      ),
    ),
  )

  -- Grouped to the right.
  right_three : (s t r : Words k) (w : List ℕ) → Decides (member (s ∘ (t ∘ r)) w) (Three s t r w)
  right_three s t r w = (
    λ h.
        let (u, y, (hu, hy, e)) = (member_product s (t ∘ r) w).0 h in
        let (v, x, (hv, hx, f)) = (member_product t r y).0 hy in
        (u, v, x, (hu, hv, hx, e ∙ ap (λ z. take (cut k) (u ++ z)) f ∙ cut_right u (v ++ x))),
    λ (u, v, x, (hu, hv, hx, e)). (member_product s (t ∘ r) w).1 (
      u,
      take (cut k) (v ++ x),
      (hu, (member_product t r (take (cut k) (v ++ x))).1 (v, x, (hv, hx, refl)), e ∙ sym (cut_right u (v ++ x))),
    ),
  )

  -- Both groupings have the same words.
  product_associative : (s t r : Words k) → (s ∘ t) ∘ r ≡ s ∘ (t ∘ r)
  product_associative s t r = same_by _ _ (Three s t r) (left_three s t r) (right_three s t r)

  -- ---- bottom

  -- The empty set has no word.
  pub nothing : (w : List ℕ) → member (no_words k) w ≡ false
  nothing w = passes_same (has (no_words k)) (λ a b. false) (has_test k (λ a b. false) (λ a b out. refl)) w ∙ none w
    where
      none : (w : List ℕ) → passes (λ a b. false) w ≡ false
      none [] = refl
      none (zero ∷ []) = refl
      none (suc a ∷ []) = refl
      none (zero ∷ b ∷ []) = refl
      none (suc a ∷ zero ∷ []) = refl
      none (suc a ∷ suc b ∷ []) = refl
      none (a ∷ b ∷ c ∷ w) = refl

  -- No word is in it.
  pub never : (w : List ℕ) → member (no_words k) w ≢ true
  never w h = false≢true (sym (nothing w) ∙ h)

  -- Bottom joined to a set.
  bottom_before : (s : Words k) → no_words k ∘ s ≡ no_words k
  bottom_before s = same_by _ _ (λ w. ⊥)
      (λ w. (λ h. let (u, v, (hu, hv, e)) = (member_product (no_words k) s w).0 h in never u hu, λ x. absurd x))
      (λ w. (λ h. never w h, λ x. absurd x))

  -- A set joined to bottom.
  bottom_after : (s : Words k) → s ∘ no_words k ≡ no_words k
  bottom_after s = same_by _ _ (λ w. ⊥)
      (λ w. (λ h. let (u, v, (hu, hv, e)) = (member_product s (no_words k) w).0 h in never v hv, λ x. absurd x))
      (λ w. (λ h. never w h, λ x. absurd x))

  -- ---- the unit

  -- The unit has the empty word.
  pub one_empty : member one [] ≡ true
  one_empty = (member_with (no_words k) 0 0 []).1 (inr (refl, refl))

  -- It has no other.
  pub only_empty : (w : List ℕ) → member one w ≡ true → w ≡ []
  only_empty w h = ⊎_elim (λ old. absurd (never w old)) (λ new. new.1) ((member_with (no_words k) 0 0 w).0 h)

  -- The unit joined to a set.
  unit_before : (s : Words k) → one ∘ s ≡ s
  unit_before s = same_by _ _ (λ w. member s w ≡ true)
      (λ w. (
        λ h.
            let (u, v, (hu, hv, e)) = (member_product one s w).0 h in
            let same : v ≡ w = sym (whole s v hv) ∙ ap (λ z. take (cut k) (z ++ v)) (sym (only_empty u hu)) ∙ sym e in
            subst (λ x. member s x ≡ true) same hv,
        λ h. (member_product one s w).1 ([], w, (one_empty, h, sym (whole s w h))),
      ))
      (λ w. (λ h. h, λ h. h))

  -- A set joined to the unit.
  unit_after : (s : Words k) → s ∘ one ≡ s
  unit_after s = same_by _ _ (λ w. member s w ≡ true)
      (λ w. (
        λ h.
            let (u, v, (hu, hv, e)) = (member_product s one w).0 h in
            let same : u ≡ w =
            sym (whole s u hu) ∙ ap (take (cut k)) (sym (append-nil u)) ∙ ap (λ z. take (cut k) (u ++ z)) (sym (only_empty v hv)) ∙ sym e in
            subst (λ x. member s x ≡ true) same hu,
        λ h. (member_product s one w).1 (w, [], (h, one_empty, sym (ap (take (cut k)) (append-nil w) ∙ whole s w h))),
      ))
      (λ w. (λ h. h, λ h. h))

  -- ---- the union

  -- A word of a union is a word of one of the two.
  pub in_join : (s t : Words k) (w : List ℕ) → Decides (member (s ∪ t) w) ((member s w ≡ true) ⊎ (member t w ≡ true))
  in_join s t w = (
    λ h. or_cases (member s w) (member t w) (sym (member_join s t w) ∙ h),
    λ e. member_join s t w ∙ ⊎_elim (λ l. or_left _ _ l) (λ r. or_right (member s w) _ r) e,
  )

  -- Unions, in any grouping.
  join_associative : (s t r : Words k) → (s ∪ t) ∪ r ≡ s ∪ (t ∪ r)
  join_associative s t r = same_words _ _ (λ w.
      member_join (s ∪ t) r w ∙ ap (λ x. x || member r w) (member_join s t w) ∙ or_assoc (member s w) (member t w) (member r w)
      ∙ sym (member_join s (t ∪ r) w ∙ ap (λ x. member s w || x) (member_join t r w)))

  -- Unions, in any order.
  join_commutative : (s t : Words k) → s ∪ t ≡ t ∪ s
  join_commutative s t = same_words _ _ (λ w. member_join s t w ∙ or_comm (member s w) (member t w) ∙ sym (member_join t s w))

  -- A union with itself.
  join_idempotent : (s : Words k) → s ∪ s ≡ s
  join_idempotent s = same_words _ _ (λ w. member_join s s w ∙ or_self (member s w))

  -- A union with the empty set.
  bottom_joined : (s : Words k) → no_words k ∪ s ≡ s
  bottom_joined s = same_words _ _ (λ w. member_join (no_words k) s w ∙ ap (λ x. x || member s w) (nothing w))

  -- ---- the product spreads over the union

  -- A union on the right.
  spreads_right : (s t r : Words k) → s ∘ (t ∪ r) ≡ (s ∘ t) ∪ (s ∘ r)
  spreads_right s t r = same_by _ _ (λ w. Joined s t w ⊎ Joined s r w)
      (λ w. (
        λ h.
            let (u, v, (hu, hv, e)) = (member_product s (t ∪ r) w).0 h in
            ⊎_elim (λ x. inl (u, v, (hu, x, e))) (λ x. inr (u, v, (hu, x, e))) ((in_join t r v).0 hv),
        λ e. (member_product s (t ∪ r) w).1
            (⊎_elim (λ (u, v, (hu, hv, p)). (u, v, (hu, (in_join t r v).1 (inl hv), p))) (λ (u, v, (hu, hv, p)). (u, v, (hu, (in_join t r v).1 (inr hv), p))) e),
      ))
      (λ w. (
        λ h. ⊎_elim (λ x. inl ((member_product s t w).0 x)) (λ x. inr ((member_product s r w).0 x)) ((in_join (s ∘ t) (s ∘ r) w).0 h),
        λ e. (in_join (s ∘ t) (s ∘ r) w).1 (⊎_elim (λ x. inl ((member_product s t w).1 x)) (λ x. inr ((member_product s r w).1 x)) e),
      ))

  -- A union on the left.
  spreads_left : (s t r : Words k) → (s ∪ t) ∘ r ≡ (s ∘ r) ∪ (t ∘ r)
  spreads_left s t r = same_by _ _ (λ w. Joined s r w ⊎ Joined t r w)
      (λ w. (
        λ h.
            let (u, v, (hu, hv, e)) = (member_product (s ∪ t) r w).0 h in
            ⊎_elim (λ x. inl (u, v, (x, hv, e))) (λ x. inr (u, v, (x, hv, e))) ((in_join s t u).0 hu),
        λ e. (member_product (s ∪ t) r w).1
            (⊎_elim (λ (u, v, (hu, hv, p)). (u, v, ((in_join s t u).1 (inl hu), hv, p))) (λ (u, v, (hu, hv, p)). (u, v, ((in_join s t u).1 (inr hu), hv, p))) e),
      ))
      (λ w. (
        λ h. ⊎_elim (λ x. inl ((member_product s r w).0 x)) (λ x. inr ((member_product t r w).0 x)) ((in_join (s ∘ r) (t ∘ r) w).0 h),
        λ e. (in_join (s ∘ r) (t ∘ r) w).1 (⊎_elim (λ x. inl ((member_product s r w).1 x)) (λ x. inr ((member_product t r w).1 x)) e),
      ))

  -- ---- a union that changes a set makes it larger, and a set has at most 421 words

  -- A union has each word of the set.
  flag_up : (s t : Words k) (a b : ℕ) → cond (has s a b) 1 0 ≤ cond (has (s ∪ t) a b) 1 0
  flag_up s t a b = rw (has_join s t a b) (flag_le (has s a b) (has t a b))

  -- So no row has fewer.
  row_up : (s t : Words k) (a : ℕ) → row_count s a ≤ row_count (s ∪ t) a
  row_up s t a = total_le _ _ (width k a) (λ b h. flag_up s t a b)

  -- A union with as many words as the set is the set.
  rises : (s t : Words k) → (s ∪ t ≡ s → ⊥) → count s < count (s ∪ t)
  rises s t ne =
      ⊎_elim
      (λ h. h)
      (λ (le : count (s ∪ t) ≤ count s). absurd (ne (sym (same_set s (s ∪ t) (λ a b ha hb.
      let rows : row_count s a ≡ row_count (s ∪ t) a = total_same (row_count s) (row_count (s ∪ t)) 21 (λ i l. row_up s t i) le a ha in
      flag_same _ _ (total_same (λ b. cond (has s a b) 1 0) (λ b. cond (has (s ∪ t) a b) 1 0) (width k a) (λ b l. flag_up s t a b) (omega arith) b hb))))))
      (cases_lt (count s) (count (s ∪ t)))

  -- The most words that begin with a token, or, at 0, with none.
  abbrev most : ℕ → ℕ
  most zero = 1
  most (suc a) = 21

  -- No row is wider.
  width_up_to : (a : ℕ) → width k a ≤ most a
  width_up_to zero = omega arith
  width_up_to (suc a) = elim (nat_lt k 2) as (λ z. cond z 1 21 ≤ 21) [ true ↦ omega arith | false ↦ omega arith ]

  -- 421 = 1 + 20 * 21.
  bounded : (s : Words k) → count s ≤ 421
  bounded s = total_le (row_count s) most 21 (λ a h.
      let r = total_le (λ b. cond (has s a b) 1 0) (λ b. 1) (width k a) (λ b l. flag_one (has s a b)) in
      let w = width_up_to a in
      let e = ones_total (width k a) in
      omega arith)

  -- Sets are equal where their rows are.
  pub rows_decide : (s t : Words k) → Decides (pointwise ◌==◌ s.rows t.rows) (s ≡ t)
  rows_decide s t =
      let d = slice_eq-Decides unsigned_Decides s.rows t.rows _ refl in
      (λ h. by_rows s t (d.0 h), λ e. d.1 (ap (λ s. s.rows) e))

  -- The laws, with a chain of 421 steps.
  pub word_laws : Laws (word_kind k) count 421
  word_laws = record {
    join_associative = join_associative;
    join_commutative = join_commutative;
    join_idempotent = join_idempotent;
    bottom_joined = bottom_joined;
    product_associative = product_associative;
    unit_before = unit_before;
    unit_after = unit_after;
    spreads_right = spreads_right;
    spreads_left = spreads_left;
    bottom_before = bottom_before;
    bottom_after = bottom_after;
    rises = rises;
    bounded = bounded;
  }
