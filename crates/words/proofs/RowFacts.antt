-- What the rows of a set say of its words. Two sets are equal if their bits are; so each operation is shown bit by bit, from a law of the
-- bits of one row.
use Rattle.std.proofs.Common.{◌≡◌, ℕ, zero, suc, ◌+◌, ◌-◌, ◌*◌, ◌/◌, ◌%◌, ◌^◌, ◌<◌, ◌≤◌, Bool, true, false, cond, not, ◌&&◌, ◌||◌, eqb, ltb, ◌≢◌, List, [], ◌∷◌, length, get_or, drop, set, replicate, Decides, sym, refl, ap, ◌∙◌, subst, ap₂, ⊎_elim, arith, length-drop}
use native.Mathlib.Nat.{pow-succ'}
use lib.Bits.{bit_or}
use Rattle.std.proofs.Math.Pow.{pow_mono}
use Rattle.std.proofs.Math.Bool.{or_comm, or-false}
use Rattle.std.proofs.lemmas.Nat.Bits.{bit_at-zero, bit_at-pow_same, bit_at-pow_other}
use Rattle.std.proofs.lemmas.Nat.{or_lt, pow_below}
use Rattle.std.proofs.lemmas.List.{get_or-replicate, get_or-set_same, get_or-set_other, length-set}
use Rattle.std.proofs.lemmas.Bool.{cases_eq, cases_Bool, ne_eqb, eq-eqb, eqb-true, lt-ltb, ltb-true, and_from, and_parts, both_ways, cond_both}
use Rattle.std.proofs.lemmas.Bool.Decides.{same_from_decides}
use Rattle.words.specs.Codes.{width, is_word, bit}
use Rattle.words.specs.Bits.{bit_low, bit_half, bit_or_lem, same_bits, width_most}
use Rattle.words.specs.Rows.{heads, row_longer, row_product, row_bit}
use Rattle.words.specs.Sets.{has, member, has_of_test, any, begins, some_word, follows, joins, no_words, with_word, word_kind, same_set, Added}
use Rattle.words.specs.declared.set.Words.{Words}
use Rattle.words.specs.Members.{any_decides, has_join, member_with, same_words, some_word_from}
use Rattle.words.specs.Products.{has_product, member_product}
use Rattle.words.specs.WordLaws.{nothing}

pub bit_zero : (b : ℕ) → bit 0 b ≡ false
bit_zero b = ap (λ y. eqb y 1) (bit_at-zero b)

-- a power of two has one bit
bit_pow : (n b : ℕ) → bit (2 ^ n) b ≡ eqb b n
bit_pow n b =
    ⊎_elim
    (λ (e : b ≡ n). ap (bit (2 ^ n)) e ∙ ap (λ y. eqb y 1) (bit_at-pow_same n) ∙ sym (eq-eqb b n e))
    (λ ne. ap (λ y. eqb y 1) (bit_at-pow_other n b ne) ∙ sym (ne_eqb b n ne))
    (cases_eq b n)

pub row_fits : {k : ℕ} (s : Words k) (a : ℕ) → a < 21 → get_or s.rows a 0 < 2 ^ 21
row_fits {k} s a h = let f = s.fits a h in let p = pow_mono (width_most k a) in omega arith

-- ---- no word

pub bottom_is : {k : ℕ} (s : Words k) → s.rows ≡ replicate 21 0 → s ≡ no_words k
bottom_is {k} s e = same_set s (no_words k) (λ a b ha hb.
    ap (λ x. bit x b) (ap (λ rows. get_or rows a 0) e ∙ get_or-replicate 21 a 0 0 ha) ∙ bit_zero b ∙ sym (has_of_test k (λ a b. false) a b ha hb))

-- ---- one word more

module _ {k : ℕ} (s : Words k) (a b : ℕ) where
  abbrev here : ℕ
  here = bit_or (get_or s.rows a 0) (2 ^ b)

  pub insert_fits : is_word k a b ≡ true → (c : ℕ) → c < 21 → get_or (set s.rows a here) c 0 < 2 ^ width k c
  insert_fits ok c hc =
      let p = and_parts (ltb a 21) (ltb b (width k a)) ok in
      let ha = ltb-true a 21 p.0 in
      let hb = ltb-true b (width k a) p.1 in
      ⊎_elim
      (λ (e : c ≡ a).
      let within : a < length s.rows = rw s.long ha in
      rw (e, get_or-set_same s.rows a here 0 within) (or_lt (width k a) _ _ (s.fits a ha) (pow_below b (width k a) hb)))
      (λ ne. rw (get_or-set_other s.rows a c here 0 ne) (s.fits c hc))
      (cases_eq c a)

  pub insert_is : (r : Words k) → is_word k a b ≡ true → r.rows ≡ set s.rows a here → r ≡ with_word s a b
  insert_is r ok e = same_set r (with_word s a b) (λ c d hc hd.
      ap (λ rows. bit (get_or rows c 0) d) e ∙ at c d ∙ sym (has_of_test k (λ c d. has s c d || (eqb c a && eqb d b)) c d hc hd))
    where
      at : (c d : ℕ) → bit (get_or (set s.rows a here) c 0) d ≡ (has s c d || (eqb c a && eqb d b))
      at c d =
          ⊎_elim
          (λ (e : c ≡ a).
          let within : a < length s.rows = rw s.long (ltb-true a 21 (and_parts (ltb a 21) (ltb b (width k a)) ok).0) in
          ap (λ i. bit (get_or (set s.rows a here) i 0) d) e
          ∙ ap (λ x. bit x d) (get_or-set_same s.rows a here 0 within)
          ∙ bit_or_lem (get_or s.rows a 0) (2 ^ b) d
          ∙ ap₂ (λ i v. has s i d || v) (sym e) (bit_pow b d)
          ∙ ap (λ v. has s c d || (v && eqb d b)) (sym (eq-eqb c a e)))
          (λ ne.
          ap (λ x. bit x d) (get_or-set_other s.rows a c here 0 ne)
          ∙ sym (or-false (has s c d))
          ∙ ap (λ v. has s c d || (v && eqb d b)) (sym (ne_eqb c a ne)))
          (cases_eq c a)

  -- the numbers of no word add nothing
  pub insert_none : is_word k a b ≡ false → s ≡ with_word s a b
  insert_none out = same_set s (with_word s a b) (λ c d hc hd.
      sym (or-false (has s c d)) ∙ ap (λ v. has s c d || v) (sym (differ c d hc hd)) ∙ sym (has_of_test k (λ c d. has s c d || (eqb c a && eqb d b)) c d hc hd))
    where
      differ : (c d : ℕ) → c < 21 → d < width k c → (eqb c a && eqb d b) ≡ false
      differ c d hc hd =
          ⊎_elim
          (λ both.
          let p = and_parts (eqb c a) (eqb d b) both in
          let ok : is_word k c d ≡ true = and_from _ _ (lt-ltb c 21 hc) (lt-ltb d (width k c) hd) in
          absurd (both_ways _ out (sym (ap₂ (is_word k) (eqb-true c a p.0) (eqb-true d b p.1)) ∙ ok)))
          (λ apart. apart)
          (cases_Bool (eqb c a && eqb d b))

  pub word_added : (r : Words k) → r ≡ with_word s a b → (w : List ℕ) → Decides (member r w) (Added s a b w)
  word_added r e w = subst (λ x. Decides (member x w) (Added s a b w)) (sym e) (member_with s a b w)

-- ---- the union

pub join_fits : {k : ℕ} (s t : Words k) (a : ℕ) → a < 21 → bit_or (get_or s.rows a 0) (get_or t.rows a 0) < 2 ^ width k a
join_fits {k} s t a h = or_lt (width k a) _ _ (s.fits a h) (t.fits a h)

pub join_is : {k : ℕ} (s t r : Words k) → ((a : ℕ) → a < 21 → get_or r.rows a 0 ≡ bit_or (get_or s.rows a 0) (get_or t.rows a 0)) → r ≡ (word_kind k).join s t
join_is {k} s t r h = same_set r ((word_kind k).join s t) (λ a b ha hb.
    ap (λ x. bit x b) (h a ha) ∙ bit_or_lem (get_or s.rows a 0) (get_or t.rows a 0) b ∙ sym (has_join s t a b))

-- ---- which rows have a word

pub head_one : (x : ℕ) → cond (eqb x 0) 0 1 ≤ 1
head_one x = elim (eqb x 0) as (λ z. cond z 0 1 ≤ 1) [ true ↦ omega arith | false ↦ omega arith ]

heads_lt : (xs : List ℕ) → heads xs < 2 ^ length xs
heads_lt [] = omega arith
heads_lt (x ∷ xs) =
    let h = heads_lt xs in
    let p = pow-succ' 2 (length xs) in
    let one = head_one x in
    omega arith

pub heads_drop_lt : (xs : List ℕ) → length xs ≡ 21 → (a : ℕ) → heads (drop a xs) < 2 ^ 21
heads_drop_lt xs e a =
    let h = heads_lt (drop a xs) in
    let short : length (drop a xs) ≤ 21 = simp length-drop (omega arith) in
    let p = pow_mono short in
    omega arith

bit_heads : (xs : List ℕ) (a : ℕ) → bit (heads xs) a ≡ not (eqb (get_or xs a 0) 0)
bit_heads [] a = bit_zero a
bit_heads (x ∷ xs) zero =
    bit_low (cond (eqb x 0) 0 1 + 2 * heads xs)
    ∙ elim (eqb x 0) as (λ z. eqb ((cond z 0 1 + 2 * heads xs) % 2) 1 ≡ not z)
    [ true ↦ ne_eqb ((0 + 2 * heads xs) % 2) 1 (λ e. omega arith) | false ↦ eq-eqb ((1 + 2 * heads xs) % 2) 1 (omega arith) ]
bit_heads (x ∷ xs) (suc a) =
    let half : (cond (eqb x 0) 0 1 + 2 * heads xs) / 2 ≡ heads xs =
    elim (eqb x 0) as (λ z. (cond z 0 1 + 2 * heads xs) / 2 ≡ heads xs) [ true ↦ omega arith | false ↦ omega arith ] in
    bit_half (cond (eqb x 0) 0 1 + 2 * heads xs) a ∙ ap (λ y. bit y a) half ∙ bit_heads xs a

any_same : (f g : ℕ → Bool) (n : ℕ) → ((i : ℕ) → i < n → f i ≡ g i) → any f n ≡ any g n
any_same f g zero h = refl
any_same f g (suc n) h = ap₂ (λ x y. x || y) (h n (omega arith)) (any_same f g n (λ i l. h i (omega arith)))

any_none : (f : ℕ → Bool) (n : ℕ) → any f n ≡ false → (i : ℕ) → i < n → f i ≡ false
any_none f n e i h = ⊎_elim (λ t. absurd (both_ways (any f n) e ((any_decides f n).1 (i, h, t)))) (λ z. z) (cases_Bool (f i))

-- a row has a word unless it is 0
pub any_row : (x : ℕ) → x < 2 ^ 21 → any (bit x) 21 ≡ not (eqb x 0)
any_row x h = go (any (bit x) 21) refl
  where
    go : (v : Bool) → any (bit x) 21 ≡ v → any (bit x) 21 ≡ not (eqb x 0)
    go false e =
        let nil : x ≡ 0 = same_bits 21 x 0 h (omega arith) (λ b l. any_none (bit x) 21 e b l ∙ sym (bit_zero b)) in
        e ∙ sym (ap not (eq-eqb x 0 nil))
    go true e =
        let d = (any_decides (bit x) 21).0 e in
        e ∙ sym (ap not (ne_eqb x 0 (λ nil. both_ways (bit x d.0) (ap (λ y. bit y d.0) nil ∙ bit_zero d.0) d.2)))

begins_is : {k : ℕ} (t : Words k) (a : ℕ) → a < 21 → begins t a ≡ bit (heads t.rows) a
begins_is t a h = any_row (get_or t.rows a 0) (row_fits t a h) ∙ sym (bit_heads t.rows a)

heads_fits : {k : ℕ} (t : Words k) → heads t.rows < 2 ^ 21
heads_fits t = subst (λ n. heads t.rows < 2 ^ n) t.long (heads_lt t.rows)

pub some_word_is : {k : ℕ} (t : Words k) → some_word t ≡ not (eqb (heads t.rows) 0)
some_word_is t = any_same (begins t) (bit (heads t.rows)) 21 (λ a h. begins_is t a h) ∙ any_row (heads t.rows) (heads_fits t)

-- ---- a row of a product

module _ (x y : ℕ) (after : ℕ) where
  -- an odd number less 1 has bit 0 clear and the others as they were
  bit_less_one : x % 2 ≡ 1 → (b : ℕ) → bit (x - 1) (suc b) ≡ bit x (suc b)
  bit_less_one e b = let h : (x - 1) / 2 ≡ x / 2 = omega arith in bit_half (x - 1) b ∙ ap (λ y. bit y b) h ∙ sym (bit_half x b)

  -- the row without what the empty word of the first set brings
  abbrev own_bit : ℕ → Bool
  own_bit zero = bit x 0 && bit after 0
  own_bit (suc b) = bit x (suc b) || (bit x 0 && bit after (suc b))

  odd_row : x % 2 ≡ 1 → (b : ℕ) → bit (bit_or (x - 1) after) b ≡ own_bit b
  odd_row e zero =
      bit_or_lem (x - 1) after 0
      ∙ ap (λ v. v || bit after 0) (bit_low (x - 1) ∙ ne_eqb ((x - 1) % 2) 1 (λ z. omega arith))
      ∙ sym (ap (λ v. v && bit after 0) (bit_low x ∙ eq-eqb (x % 2) 1 e))
  odd_row e (suc b) =
      bit_or_lem (x - 1) after (suc b)
      ∙ ap (λ v. v || bit after (suc b)) (bit_less_one e b)
      ∙ sym (ap (λ v. bit x (suc b) || (v && bit after (suc b))) (bit_low x ∙ eq-eqb (x % 2) 1 e))

  even_row : eqb (x % 2) 1 ≡ false → (b : ℕ) → bit x b ≡ own_bit b
  even_row e zero = let low : bit x 0 ≡ false = bit_low x ∙ e in low ∙ sym (ap (λ v. v && bit after 0) low)
  even_row e (suc b) =
      let low : bit x 0 ≡ false = bit_low x ∙ e in
      sym (or-false (bit x (suc b))) ∙ sym (ap (λ v. bit x (suc b) || (v && bit after (suc b))) low)

  longer_bit : (b : ℕ) → bit (row_longer x after) b ≡ own_bit b
  longer_bit b =
      cond_both (eqb (x % 2) 1) (bit_or (x - 1) after) x (λ n. bit n b ≡ own_bit b) (λ e. odd_row (eqb-true (x % 2) 1 e) b) (λ e. even_row e b)

  pub product_bit : (empty : Bool) (b : ℕ) → bit (row_product x y empty after) b ≡ row_bit x y empty after b
  product_bit true zero = bit_or_lem (row_longer x after) y 0 ∙ ap (λ v. v || bit y 0) (longer_bit 0) ∙ or_comm (own_bit 0) (bit y 0)
  product_bit true (suc b) =
      bit_or_lem (row_longer x after) y (suc b) ∙ ap (λ v. v || bit y (suc b)) (longer_bit (suc b)) ∙ or_comm (own_bit (suc b)) (bit y (suc b))
  product_bit false zero = longer_bit 0
  product_bit false (suc b) = longer_bit (suc b)

  pub product_lt : (empty : Bool) (n : ℕ) → x < 2 ^ n → y < 2 ^ n → after < 2 ^ n → row_product x y empty after < 2 ^ n
  product_lt empty n hx hy ha = go empty
    where
      longer_lt : row_longer x after < 2 ^ n
      longer_lt =
          cond_both (eqb (x % 2) 1) (bit_or (x - 1) after) x (λ m. m < 2 ^ n) (λ e. or_lt n (x - 1) after (omega arith) ha) (λ e. hx)

      go : (empty : Bool) → row_product x y empty after < 2 ^ n
      go true = or_lt n (row_longer x after) y longer_lt hy
      go false = longer_lt

-- ---- the product

-- row 0 is 1 just where the empty word is there
pub empty_is : {k : ℕ} (s : Words k) → eqb (get_or s.rows 0 0) 1 ≡ has s 0 0
empty_is s =
    let small : get_or s.rows 0 0 < 2 = s.fits 0 (omega arith) in
    let same : get_or s.rows 0 0 ≡ get_or s.rows 0 0 % 2 = omega arith in
    ap (λ x. eqb x 1) same ∙ sym (bit_low (get_or s.rows 0 0))

module _ {k : ℕ} (s t : Words k) where
  -- what follows a word of one token, as a row
  abbrev pub after_row : Bool → ℕ
  after_row one = cond one 1 (heads t.rows)

  follows_is : (one : Bool) (b : ℕ) → b < 21 → bit (after_row one) b ≡ follows one t b
  follows_is true b h = bit_pow 0 b
  follows_is false b h = sym (begins_is t b h)

  after_fits : (a : ℕ) → after_row (ltb k 2) < 2 ^ width k (suc a)
  after_fits a = elim (ltb k 2) as (λ z. cond z 1 (heads t.rows) < 2 ^ cond z 1 21) [ true ↦ omega arith | false ↦ heads_fits t ]

  -- the rows of the product
  pub record Rows (rows : List ℕ) : Type 0 where
    pub long : length rows ≡ 21
    pub first : get_or rows 0 0 ≡ cond (has s 0 0) (get_or t.rows 0 0) 0
    pub others : (a : ℕ) → a < 21 → 1 ≤ a → get_or rows a 0 ≡ row_product (get_or s.rows a 0) (get_or t.rows a 0) (has s 0 0) (after_row (ltb k 2))

  pub rows_all : (rows : List ℕ) (first after : ℕ) (empty : Bool) → length rows ≡ 21 → empty ≡ has s 0 0 → after ≡ after_row (ltb k 2)
      → first ≡ cond empty (get_or t.rows 0 0) 0
      → ((a : ℕ) → a < 21 → 1 ≤ a → get_or rows a 0 ≡ row_product (get_or s.rows a 0) (get_or t.rows a 0) empty after) → Rows (set rows 0 first)
  rows_all rows first after empty long e f is others =
      let within : 0 < length rows = omega arith in
      record {
        long = length-set rows 0 first ∙ long;
        first = get_or-set_same rows 0 first 0 within ∙ is ∙ ap (λ z. cond z (get_or t.rows 0 0) 0) e;
        others = λ a h one.
            let ne : a ≢ 0 = λ z. omega arith in
            get_or-set_other rows 0 a first 0 ne ∙ others a h one ∙ ap₂ (row_product (get_or s.rows a 0) (get_or t.rows a 0)) e f;
      }

  pub times_fits : (rows : List ℕ) → Rows rows → (a : ℕ) → a < 21 → get_or rows a 0 < 2 ^ width k a
  times_fits rows p zero h =
      rw p.first (let f = t.fits 0 (omega arith) in elim (has s 0 0) as (λ z. cond z (get_or t.rows 0 0) 0 < 2 ^ 1) [ true ↦ f | false ↦ omega arith ])
  times_fits rows p (suc a) h =
      rw (p.others (suc a) h (omega arith))
      (product_lt (get_or s.rows (suc a) 0) (get_or t.rows (suc a) 0) (after_row (ltb k 2)) (has s 0 0) (width k (suc a)) (s.fits (suc a) h) (t.fits (suc a) h) (after_fits a))

  pub times_is : (r : Words k) → some_word t ≡ true → Rows r.rows → r ≡ (word_kind k).product s t
  times_is r some p = same_set r ((word_kind k).product s t) (λ a b ha hb. at a b ha hb ∙ sym (has_product s t a b))
    where
      zeroth : (z : Bool) → bit (cond z (get_or t.rows 0 0) 0) 0 ≡ (z && has t 0 0)
      zeroth true = refl
      zeroth false = refl

      row : (a : ℕ) → suc a < 21 → (b : ℕ) → has r (suc a) b ≡ row_bit (get_or s.rows (suc a) 0) (get_or t.rows (suc a) 0) (has s 0 0) (after_row (ltb k 2)) b
      row a h b = ap (λ x. bit x b) (p.others (suc a) h (omega arith)) ∙ product_bit (get_or s.rows (suc a) 0) (get_or t.rows (suc a) 0) (after_row (ltb k 2)) (has s 0 0) b

      at : (a b : ℕ) → a < 21 → b < width k a → has r a b ≡ joins (ltb k 2) s t a b
      at zero zero ha hb = ap (λ x. bit x 0) p.first ∙ zeroth (has s 0 0)
      at zero (suc b) ha hb = absurd (omega arith)
      at (suc a) zero ha hb =
          row a ha 0
          ∙ ap (λ x. (has s 0 0 && has t (suc a) 0) || (has s (suc a) 0 && x)) (follows_is (ltb k 2) 0 (omega arith))
          ∙ ap (λ x. (has s 0 0 && has t (suc a) 0) || (x && (has s (suc a) 0 && follows (ltb k 2) t 0))) (sym some)
      at (suc a) (suc b) ha hb =
          let wide : suc b < 21 = (let m = width_most k (suc a) in omega arith) in
          row a ha (suc b)
          ∙ ap (λ x. (has s 0 0 && has t (suc a) (suc b)) || (has s (suc a) (suc b) || (has s (suc a) 0 && x))) (follows_is (ltb k 2) (suc b) wide)
          ∙ ap (λ x. (has s 0 0 && has t (suc a) (suc b)) || (x && (has s (suc a) (suc b) || (has s (suc a) 0 && follows (ltb k 2) t (suc b))))) (sym some)

  -- a product with no word at all
  pub times_none : some_word t ≡ false → (word_kind k).product s t ≡ no_words k
  times_none none = same_words _ _ (λ w. same_from_decides {P = ⊥} _ _
      (λ h. let (u, v, (hu, hv, e)) = (member_product s t w).0 h in both_ways _ none (some_word_from t v hv), λ x. absurd x)
      (λ h. both_ways _ (nothing k w) h, λ x. absurd x))
