-- The turns of look-ups: an entry for the key is the answer, one for another tells nothing.
use Rattle.std.proofs.Common.{◌≡◌, ℕ, ◌<◌, Bool, true, false, cond, ◌&&◌, eqb, ◌⊎◌, ◌↔◌, List, [], ◌∷◌, ◌++◌, length, get_or, take, None, Decides, sym, refl, ap, ◌∙◌, subst, ap₂, inl, inr, arith}
use mathlib.Core.List.Memᴰ
use mathlib.Core.List.{Memᴰ}
use Rattle.std.specs.Prelude.{◌==◌}
use Rattle.std.specs.List.{starts_with}
use Rattle.std.specs.Cmp.{unsigned_Decides}
use Rattle.std.proofs.lemmas.Slice.Eq.{slice_eq-Decides}
use Rattle.std.proofs.lemmas.Bool.{true≢false, cond-true, cond-false, eq-eqb, ne_eqb, eqb-true, and_from, and_parts, cases_eq}
use Rattle.grammar.specs.Table.{Table}
use Rattle.frames.specs.Form.{word_of}
use Rattle.items.specs.Entries.{items}
use Rattle.lookahead.specs.Entries.{words_in, choices_in}
use Rattle.table.specs.Contents.{successor_in, same_word, choice_in}
use Rattle.table.specs.LookUps.{BeginsWith}
use Rattle.table.specs.States.{onwards, after_in}

-- a key is looked for in the first bytes of an entry
pub key_decides : (key entry : List ℕ) (r : Bool) → r ≡ starts_with ◌==◌ entry key → Decides r (key ≡ take (length key) entry)
key_decides key entry r e = slice_eq-Decides unsigned_Decides key (take (length key) entry) r e

module _ (X : ℕ) (xs : List ℕ) where
  pub successor_miss : (entry rest : List ℕ) → xs ≡ entry ++ rest → length entry ≡ 2 → (X ∷ [] ≡ take 1 entry → ⊥) → successor_in X rest ≡ successor_in X xs
  successor_miss (a ∷ b ∷ []) rest cut long f = sym (ap (successor_in X) cut ∙ cond-false _ _ _ (ne_eqb a X (λ e. absurd (f (ap (λ (n : ℕ). n ∷ []) (sym e))))))
  successor_miss [] rest cut long f = absurd (omega arith)
  successor_miss (a ∷ []) rest cut long f = absurd (omega arith)
  successor_miss (a ∷ b ∷ c ∷ entry) rest cut long f = absurd (omega arith)

-- the words of two entries are the same just when their numbers are
pub same_word_refl : (y : List ℕ) → same_word y y ≡ true
same_word_refl [] = refl
same_word_refl (a ∷ y) = and_from (eqb a a) (same_word y y) (eq-eqb a a refl) (same_word_refl y)

pub same_word_is : (x y : List ℕ) → same_word x y ≡ true → x ≡ y
same_word_is [] [] e = refl
same_word_is [] (b ∷ y) e = absurd (true≢false (sym e))
same_word_is (a ∷ x) [] e = absurd (true≢false (sym e))
same_word_is (a ∷ x) (b ∷ y) e = let (p, q) = and_parts (eqb a b) (same_word x y) e in ap₂ (λ (c : ℕ) (z : List ℕ). c ∷ z) (eqb-true a b p) (same_word_is x y q)

pub word_numbers : (a b c d : ℕ) → word_of a b ≡ word_of c d → (a ≡ c) × (b ≡ d)
word_numbers a b c d e = by (cases_eq b 0) (cases_eq d 0)
  where
    short : (x y : ℕ) → y ≡ 0 → word_of x y ≡ x ∷ []
    short x y z = cond-true _ _ _ (eq-eqb y 0 z)

    long : (x y : ℕ) → (y ≡ 0 → ⊥) → word_of x y ≡ x ∷ y ∷ []
    long x y z = cond-false _ _ _ (ne_eqb y 0 z)

    by : (b ≡ 0) ⊎ (b ≡ 0 → ⊥) → (d ≡ 0) ⊎ (d ≡ 0 → ⊥) → (a ≡ c) × (b ≡ d)
    by (inl p) (inl q) = (ap (λ (y : List ℕ). get_or y 0 0) (sym (short a b p) ∙ e ∙ short c d q), p ∙ sym q)
    by (inl p) (inr q) = let z : ◌≡◌ {A = ℕ} 1 2 = ap length (sym (short a b p) ∙ e ∙ long c d q) in absurd (omega arith)
    by (inr p) (inl q) = let z : ◌≡◌ {A = ℕ} 2 1 = ap length (sym (long a b p) ∙ e ∙ short c d q) in absurd (omega arith)
    by (inr p) (inr q) =
        let f : a ∷ b ∷ [] ≡ c ∷ d ∷ [] = sym (long a b p) ∙ e ∙ long c d q in
        (ap (λ (y : List ℕ). get_or y 0 0) f, ap (λ (y : List ℕ). get_or y 1 0) f)

module _ (A a b : ℕ) (xs : List ℕ) where
  pub choice_miss : (entry rest : List ℕ) → xs ≡ entry ++ rest → length entry ≡ 4 → (A ∷ a ∷ b ∷ [] ≡ take 3 entry → ⊥)
      → choice_in A (word_of a b) (choices_in rest) ≡ choice_in A (word_of a b) (choices_in xs)
  choice_miss (c ∷ d ∷ e ∷ r ∷ []) rest cut long f =
      sym (ap (λ (l : List ℕ). choice_in A (word_of a b) (choices_in l)) cut ∙ cond-false _ _ _ (by (eqb c A && same_word (word_of d e) (word_of a b)) refl))
    where
      by : (t : Bool) → (eqb c A && same_word (word_of d e) (word_of a b)) ≡ t → t ≡ false
      by false z = refl
      by true z =
          let (p, q) = and_parts (eqb c A) _ z in
          let first : c ≡ A = eqb-true _ _ p in
          let (x, y) = word_numbers d e a b (same_word_is _ _ q) in
          let same : A ∷ a ∷ b ∷ [] ≡ c ∷ d ∷ e ∷ [] = cc in
          absurd (f same)
  choice_miss [] rest cut long f = absurd (omega arith)
  choice_miss (c ∷ []) rest cut long f = absurd (omega arith)
  choice_miss (c ∷ d ∷ []) rest cut long f = absurd (omega arith)
  choice_miss (c ∷ d ∷ e ∷ []) rest cut long f = absurd (omega arith)
  choice_miss (c ∷ d ∷ e ∷ r ∷ z ∷ entry) rest cut long f = absurd (omega arith)

-- where the way ends, it ends for all that stands before
pub after_none : (T : Table) (q : ℕ) (front back : List ℕ) → after_in T q back ≡ None → None ≡ after_in T q (front ++ back)
after_none T q [] back e = sym e
after_none T q (X ∷ front) back e = ap (onwards T X) (after_none T q front back e)

-- the first of some pairs, as a place and as a word
pair_is : (entry : List ℕ) → length entry ≡ 2 → entry ≡ get_or entry 0 0 ∷ get_or entry 1 0 ∷ []
pair_is (a ∷ b ∷ []) long = refl
pair_is [] long = absurd (omega arith)
pair_is (a ∷ []) long = absurd (omega arith)
pair_is (a ∷ b ∷ c ∷ entry) long = absurd (omega arith)

module _ (xs entry rest : List ℕ) (cut : xs ≡ entry ++ rest) (long : length entry ≡ 2) where
  first_pair : xs ≡ get_or entry 0 0 ∷ get_or entry 1 0 ∷ rest
  first_pair = cut ∙ ap (λ (pair : List ℕ). pair ++ rest) (pair_is entry long)

  pub first_place : items xs ≡ record { rule = get_or entry 0 0; dot = get_or entry 1 0 } ∷ items rest
  first_place = ap items first_pair

  pub first_word : words_in xs ≡ word_of (get_or entry 0 0) (get_or entry 1 0) ∷ words_in rest
  first_word = ap words_in first_pair

pub no_place : (xs : List ℕ) → length xs < 2 → items xs ≡ []
no_place [] l = refl
no_place (a ∷ []) l = refl
no_place (a ∷ b ∷ xs) l = absurd (omega arith)

pub no_word : (xs : List ℕ) → length xs < 2 → words_in xs ≡ []
no_word [] l = refl
no_word (a ∷ []) l = refl
no_word (a ∷ b ∷ xs) l = absurd (omega arith)

-- what is sought is in a list just when it is behind the first, where that is not sought
pub passed : {A : Type 0} (P : A → Type 0) (x : A) (xs rest : List A) → xs ≡ x ∷ rest → (P x → ⊥) → (y : A) → P y → Memᴰ y rest ↔ Memᴰ y xs
passed P x xs rest e not y p = (λ m. subst (Memᴰ y) (sym e) (Memᴰ.tail m), λ m. by (Memᴰ.cases_cons (subst (Memᴰ y) e m)))
  where
    by : (y ≡ x) ⊎ Memᴰ y rest → Memᴰ y rest
    by (inl s) = absurd (not (subst P s p))
    by (inr m) = m

-- a word begins with its first symbol
pub begins_first : (a b : ℕ) → BeginsWith (word_of a b) (a ∷ [])
begins_first a b = by (eqb b 0)
  where
    by : (t : Bool) → BeginsWith (cond t (a ∷ []) (a ∷ b ∷ [])) (a ∷ [])
    by true = record { rest = []; splits = refl }
    by false = record { rest = b ∷ []; splits = refl }
