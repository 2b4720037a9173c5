-- Entries that rise are told by which they are: two such lists with the same entries are one list. So states are equal just when they have the
-- same entries as places and as words.
use Rattle.std.proofs.Common.{◌≡◌, ℕ, ◌<◌, true, false, ◌&&◌, ◌||◌, eqb, ltb, leb, ◌⊎◌, ◌↔◌, List, [], ◌∷◌, length, get_or, sym, refl, ap, ◌∙◌, subst, ap₂, inl, inr, arith}
use mathlib.Core.List.Memᴰ
use mathlib.Core.List.{Memᴰ}
use Rattle.std.proofs.lemmas.Bool.{true≢false, and_parts, or_cases, eqb-true, ltb-true, cond_both}
use Rattle.grammar.specs.Item.{Item}
use Rattle.grammar.specs.Table.{EqualStates}
use Rattle.frames.specs.declared.header.Section.{Section}
use Rattle.frames.specs.declared.header.Section.TheVariants.{Kernel, Words}
use Rattle.frames.specs.Raw.{Raw, header_of, section_of}
use Rattle.frames.specs.Form.{word_of, below, pair_good, pairs_good}
use Rattle.items.specs.Entries.{items}
use Rattle.lookahead.specs.Entries.{words_in}
use Rattle.table.specs.Contents.{table_of}
use Rattle.table.specs.Drafts.{Formed}
use Rattle.table.proofs.Formed.{entries_are_good}

abbrev pair : ℕ → ℕ → Item
pair a b = record { rule = a; dot = b }

-- A pair before another.
abbrev Lower : Item → Item → Type 0
Lower i j = (i.rule < j.rule) ⊎ ((i.rule ≡ j.rule) × (i.dot < j.dot))

lower : (a b c d : ℕ) → below (a ∷ b ∷ []) (c ∷ d ∷ []) ≡ true → Lower (pair a b) (pair c d)
lower a b c d e = by (or_cases (ltb a c) (eqb a c && (ltb b d || (eqb b d && false))) e)
  where
    second : (ltb b d ≡ true) ⊎ ((eqb b d && false) ≡ true) → b < d
    second (inl l) = ltb-true b d l
    second (inr f) = absurd (true≢false (sym (and_parts (eqb b d) false f).1))

    by : (ltb a c ≡ true) ⊎ ((eqb a c && (ltb b d || (eqb b d && false))) ≡ true) → Lower (pair a b) (pair c d)
    by (inl l) = inl (ltb-true a c l)
    by (inr l) = let (s, t) = and_parts (eqb a c) _ l in inr (eqb-true a c s, second (or_cases (ltb b d) _ t))

lower_on : (i j k : Item) → Lower i j → Lower j k → Lower i k
lower_on i j k (inl l) (inl m) = inl (omega arith)
lower_on i j k (inl l) (inr (s, m)) = inl (omega arith)
lower_on i j k (inr (s, l)) (inl m) = inl (omega arith)
lower_on i j k (inr (s, l)) (inr (t, m)) = inr (s ∙ t, omega arith)

lower_once : (i j : Item) → Lower i j → Lower j i → ⊥
lower_once i j (inl l) (inl m) = absurd (omega arith)
lower_once i j (inl l) (inr (s, m)) = absurd (omega arith)
lower_once i j (inr (s, l)) (inl m) = absurd (omega arith)
lower_once i j (inr (s, l)) (inr (t, m)) = absurd (omega arith)

module _ (R : Raw) (c : Section) where
  rising : (prev : List ℕ) (a b : ℕ) (es : List ℕ) → pairs_good R c prev (a ∷ b ∷ es) ≡ true
      → (below prev (a ∷ b ∷ []) ≡ true) × (pairs_good R c (a ∷ b ∷ []) es ≡ true)
  rising prev a b es e =
      let (x, y) = and_parts (below prev (a ∷ b ∷ []) && pair_good R c a b) (pairs_good R c (a ∷ b ∷ []) es) e in
      ((and_parts (below prev (a ∷ b ∷ [])) (pair_good R c a b) x).0, y)

  -- a pair is before all that stand behind it
  behind : (a b : ℕ) (es : List ℕ) → pairs_good R c (a ∷ b ∷ []) es ≡ true → (i : Item) → Memᴰ i (items es) → Lower (pair a b) i
  behind a b [] e i m = absurd (Memᴰ.not-nil m)
  behind a b (x ∷ []) e i m = absurd (Memᴰ.not-nil m)
  behind a b (x ∷ y ∷ es) e i m = by (behind x y es (rising (a ∷ b ∷ []) x y es e).1 i) (Memᴰ.cases_cons m)
    where
      next : Lower (pair a b) (pair x y)
      next = lower a b x y (rising (a ∷ b ∷ []) x y es e).0

      by : (Memᴰ i (items es) → Lower (pair x y) i) → (i ≡ pair x y) ⊎ Memᴰ i (items es) → Lower (pair a b) i
      by so (inl p) = subst (Lower (pair a b)) (sym p) next
      by so (inr p) = lower_on (pair a b) (pair x y) i next (so p)

  -- two lists of pairs that rise, with the same pairs
  same_pairs : (prev prev' es es' : List ℕ) → pairs_good R c prev es ≡ true → pairs_good R c prev' es' ≡ true
      → ((i : Item) → Memᴰ i (items es) ↔ Memᴰ i (items es')) → es ≡ es'
  same_pairs prev prev' [] [] e e' f = refl
  same_pairs prev prev' [] (a ∷ []) e e' f = absurd (true≢false (sym e'))
  same_pairs prev prev' (a ∷ []) es' e e' f = absurd (true≢false (sym e))
  same_pairs prev prev' [] (a ∷ b ∷ es') e e' f = absurd (Memᴰ.not-nil ((f (pair a b)).1 (Memᴰ.head refl)))
  same_pairs prev prev' (a ∷ b ∷ es) [] e e' f = absurd (Memᴰ.not-nil ((f (pair a b)).0 (Memᴰ.head refl)))
  same_pairs prev prev' (a ∷ b ∷ es) (x ∷ []) e e' f = absurd (true≢false (sym e'))
  same_pairs prev prev' (a ∷ b ∷ es) (x ∷ y ∷ es') e e' f =
      let head = heads (Memᴰ.cases_cons ((f (pair a b)).0 (Memᴰ.head refl))) (Memᴰ.cases_cons ((f (pair x y)).1 (Memᴰ.head refl))) in
      let rest = same_pairs (a ∷ b ∷ []) (x ∷ y ∷ []) es es' (rising prev a b es e).1 (rising prev' x y es' e').1 (λ i. (
        λ m. on (pair a b) i head (behind a b es (rising prev a b es e).1 i m) (Memᴰ.cases_cons ((f i).0 (Memᴰ.tail m))),
        λ m. back i head (behind x y es' (rising prev' x y es' e').1 i m) (Memᴰ.cases_cons ((f i).1 (Memᴰ.tail m))),
      )) in
      ap₂ (λ (i : Item) (ys : List ℕ). i.rule ∷ i.dot ∷ ys) head rest
    where
      heads : (pair a b ≡ pair x y) ⊎ Memᴰ (pair a b) (items es') → (pair x y ≡ pair a b) ⊎ Memᴰ (pair x y) (items es) → pair a b ≡ pair x y
      heads (inl p) _ = p
      heads (inr m) (inl p) = sym p
      heads (inr m) (inr n) =
          absurd (lower_once (pair a b) (pair x y) (behind a b es (rising prev a b es e).1 (pair x y) n) (behind x y es' (rising prev' x y es' e').1 (pair a b) m))

      on : (j i : Item) → j ≡ pair x y → Lower j i → (i ≡ pair x y) ⊎ Memᴰ i (items es') → Memᴰ i (items es')
      on j i head l (inl p) = absurd (lower_once j j (subst (Lower j) (p ∙ sym head) l) (subst (Lower j) (p ∙ sym head) l))
      on j i head l (inr m) = m

      back : (i : Item) → pair a b ≡ pair x y → Lower (pair x y) i → (i ≡ pair a b) ⊎ Memᴰ i (items es) → Memᴰ i (items es)
      back i head l (inl p) = absurd (lower_once (pair x y) (pair x y) (subst (Lower (pair x y)) (p ∙ head) l) (subst (Lower (pair x y)) (p ∙ head) l))
      back i head l (inr m) = m

-- a word is told by the two numbers that it is written by
first_is : (a b : ℕ) → get_or (word_of a b) 0 0 ≡ a
first_is a b = cond_both (eqb b 0) (a ∷ []) (a ∷ b ∷ []) (λ (y : List ℕ). get_or y 0 0 ≡ a) (λ z. refl) (λ z. refl)

second_is : (a b : ℕ) → get_or (word_of a b) 1 0 ≡ b
second_is a b = cond_both (eqb b 0) (a ∷ []) (a ∷ b ∷ []) (λ (y : List ℕ). get_or y 1 0 ≡ b) (λ z. sym (eqb-true b 0 z)) (λ z. refl)

same_numbers : (a b c d : ℕ) → word_of a b ≡ word_of c d → pair a b ≡ pair c d
same_numbers a b c d e =
    ap₂ pair (sym (first_is a b) ∙ ap (λ (y : List ℕ). get_or y 0 0) e ∙ first_is c d) (sym (second_is a b) ∙ ap (λ (y : List ℕ). get_or y 1 0) e ∙ second_is c d)

pair_word : (es : List ℕ) (i : Item) → Memᴰ i (items es) → Memᴰ (word_of i.rule i.dot) (words_in es)
pair_word [] i m = absurd (Memᴰ.not-nil m)
pair_word (a ∷ []) i m = absurd (Memᴰ.not-nil m)
pair_word (a ∷ b ∷ es) i m = by (pair_word es i) (Memᴰ.cases_cons m)
  where
    by : (Memᴰ i (items es) → Memᴰ (word_of i.rule i.dot) (words_in es)) → (i ≡ pair a b) ⊎ Memᴰ i (items es)
        → Memᴰ (word_of i.rule i.dot) (word_of a b ∷ words_in es)
    by so (inl p) = Memᴰ.head (ap (λ (j : Item). word_of j.rule j.dot) p)
    by so (inr p) = Memᴰ.tail (so p)

word_pair : (es : List ℕ) (i : Item) → Memᴰ (word_of i.rule i.dot) (words_in es) → Memᴰ i (items es)
word_pair [] i m = absurd (Memᴰ.not-nil m)
word_pair (a ∷ []) i m = absurd (Memᴰ.not-nil m)
word_pair (a ∷ b ∷ es) i m = by (word_pair es i) (Memᴰ.cases_cons m)
  where
    by : (Memᴰ (word_of i.rule i.dot) (words_in es) → Memᴰ i (items es)) → (word_of i.rule i.dot ≡ word_of a b) ⊎ Memᴰ (word_of i.rule i.dot) (words_in es)
        → Memᴰ i (pair a b ∷ items es)
    by so (inl p) = Memᴰ.head (same_numbers i.rule i.dot a b p)
    by so (inr p) = Memᴰ.tail (so p)

-- Two states have the same entries of places, and the same of words.
abbrev pub SameEntries : Raw → ℕ → ℕ → Type 0
SameEntries R m q = (section_of R m Kernel ≡ section_of R q Kernel) × (section_of R m Words ≡ section_of R q Words)

pub same_equal : (R : Raw) (m q : ℕ) → SameEntries R m q → EqualStates (table_of R) m q
same_equal R m q (k, w) = (
  λ i. (subst (λ (es : List ℕ). Memᴰ i (items es)) k, subst (λ (es : List ℕ). Memᴰ i (items es)) (sym k)),
  λ y. (subst (λ (es : List ℕ). Memᴰ y (words_in es)) w, subst (λ (es : List ℕ). Memᴰ y (words_in es)) (sym w)),
)

module _ (R : Raw) (formed : Formed R) (m q : ℕ) (l : m < (header_of R).s) (n : q < (header_of R).s) where
  kernel_rises : (p : ℕ) → p < (header_of R).s → pairs_good R Kernel [] (section_of R p Kernel) ≡ true
  kernel_rises p h = (and_parts (leb 1 (length (section_of R p Kernel))) _ (entries_are_good R formed p h Kernel)).1

  words_rise : (p : ℕ) → p < (header_of R).s → pairs_good R Words [] (section_of R p Words) ≡ true
  words_rise p h = (and_parts (leb 1 (length (section_of R p Words))) _ (entries_are_good R formed p h Words)).1

  pub equal_same : EqualStates (table_of R) m q → SameEntries R m q
  equal_same (k, w) = (
    same_pairs R Kernel [] [] (section_of R m Kernel) (section_of R q Kernel) (kernel_rises m l) (kernel_rises q n) k,
    same_pairs R Words [] [] (section_of R m Words) (section_of R q Words) (words_rise m l) (words_rise q n) (λ i. (
      λ e. word_pair (section_of R q Words) i ((w (word_of i.rule i.dot)).0 (pair_word (section_of R m Words) i e)),
      λ e. word_pair (section_of R m Words) i ((w (word_of i.rule i.dot)).1 (pair_word (section_of R q Words) i e)),
    )),
  )
