-- States as sets: every item of a kernel lies within the bounds of sets, so the set has the items of the list and no other; and every word is
-- stored.
use Rattle.std.proofs.Common.{◌≡◌, ℕ, ◌+◌, ◌<◌, ◌≤◌, Bool, true, false, ◌&&◌, eqb, ltb, leb, ◌⊎◌, ◌↔◌, List, [], ◌∷◌, length, drop, Decides, sym, refl, ap, ◌∙◌, subst, inl, inr, arith}
use mathlib.Core.Bool.{beq}
use lib.Pointwise.{pointwise}
use mathlib.Core.List.Memᴰ
use mathlib.Core.List.{Memᴰ}
use Rattle.std.specs.Prelude.{◌==◌}
use Rattle.std.proofs.lemmas.Bool.{true≢false, and_parts, and_from, or_cases, or_left, or_right, eqb-true, eq-eqb, ne_eqb, ltb-true, lt-ltb, leb-true, cond-true, cond-false, cases_eq}
use Rattle.grammar.specs.Item.{Item}
use Rattle.grammar.specs.Table.{Kernel}
use Rattle.frames.specs.declared.header.Section as section
use Rattle.frames.specs.Raw.{Raw, frame, header_of, right_of, section_of}
use Rattle.frames.specs.Form.{is_kernel_place, pairs_good}
use Rattle.items.specs.declared.places.Places.{Places}
use Rattle.items.specs.Entries.{items, same_item, mentions}
use Rattle.items.specs.Sets.{has, in_grid}
use Rattle.words.specs.WordLaws.{rows_decide}
use Rattle.items.proofs.Grids.{same_places}
use Rattle.table.specs.declared.state.State.{State}
use Rattle.table.specs.Contents.{table_of}
use Rattle.table.specs.Drafts.{Formed}
use Rattle.table.proofs.Formed.{ranges, right_short, entries_are_good}
use Rattle.table.proofs.Sections.{kernel_places}

pub same_item_is : (i j : Item) → same_item i j ≡ true → i ≡ j
same_item_is i j e =
    let (r, d) = and_parts (eqb i.rule j.rule) (eqb i.dot j.dot) e in
    λ x. record { rule = eqb-true i.rule j.rule r x; dot = eqb-true i.dot j.dot d x }

pub same_item_refl : (i : Item) → same_item i i ≡ true
same_item_refl i = and_from (eqb i.rule i.rule) _ (eq-eqb _ _ refl) (eq-eqb _ _ refl)

pub mentioned : (es : List ℕ) (i : Item) → mentions es i ≡ true → Memᴰ i (items es)
mentioned [] i e = absurd (true≢false (sym e))
mentioned (r ∷ []) i e = absurd (true≢false (sym e))
mentioned (r ∷ d ∷ es) i e = by (mentioned es i) (or_cases (same_item i (record { rule = r; dot = d })) (mentions es i) e)
  where
    by : (mentions es i ≡ true → Memᴰ i (items es)) → (same_item i (record { rule = r; dot = d }) ≡ true) ⊎ (mentions es i ≡ true)
        → Memᴰ i (record { rule = r; dot = d } ∷ items es)
    by so (inl p) = Memᴰ.head (same_item_is i _ p)
    by so (inr p) = Memᴰ.tail (so p)

pub mention : (es : List ℕ) (i : Item) → Memᴰ i (items es) → mentions es i ≡ true
mention [] i m = absurd (Memᴰ.not-nil m)
mention (r ∷ []) i m = absurd (Memᴰ.not-nil m)
mention (r ∷ d ∷ es) i m = by (mention es i) (Memᴰ.cases_cons m)
  where
    by : (Memᴰ i (items es) → mentions es i ≡ true) → (i ≡ record { rule = r; dot = d }) ⊎ Memᴰ i (items es) → mentions (r ∷ d ∷ es) i ≡ true
    by so (inl p) = or_left _ _ (ap (same_item i) (sym p) ∙ same_item_refl i)
    by so (inr p) = or_right (same_item i (record { rule = r; dot = d })) _ (so p)

-- two states have the same places and the same words
abbrev pub SameStates : {K : ℕ} → State K → State K → Type 0
SameStates s s' = ((i : Item) → has s.places i ≡ has s'.places i) × (s.words ≡ s'.words)

-- what `==` of two states answers
pub states_decide : {K : ℕ} (s t : State K) (r : Bool) → r ≡ (pointwise beq s.places.marks t.places.marks && pointwise ◌==◌ s.words.rows t.words.rows)
    → Decides r (SameStates s t)
states_decide {K} s t r e =
    let places = same_places s.places t.places _ refl in
    let words = rows_decide K s.words t.words in (
      λ h. let (p, w) = and_parts (pointwise beq s.places.marks t.places.marks) (pointwise ◌==◌ s.words.rows t.words.rows) (sym e ∙ h) in (places.0 p, words.0 w),
      λ (p, w). e ∙ and_from _ _ (places.1 p) (words.1 w),
    )

module _ (R : Raw) (formed : Formed R) where
  right_length : (r : ℕ) → r ≤ (header_of R).p → length (right_of R r) ≤ 6
  right_length r l = by (cases_eq r (header_of R).p)
    where
      by : (r ≡ (header_of R).p) ⊎ (r ≡ (header_of R).p → ⊥) → length (right_of R r) ≤ 6
      by (inl e) = let n : length (right_of R r) ≡ 2 = ap length (cond-true _ _ _ (eq-eqb r _ e)) in omega arith
      by (inr f) =
          let below : r < (header_of R).p = omega arith in
          let n : length (right_of R r) ≡ length (drop 2 (frame R (1 + r))) = ap length (cond-false _ _ _ (ne_eqb r (header_of R).p f)) in
          let s = right_short R formed r below in
          omega (arith, n, s)

  -- a kernel place lies within the bounds of sets
  pub within_grid : (i : Item) → is_kernel_place R i.rule i.dot ≡ true → in_grid i ≡ true
  within_grid i e =
      let (r, d) = and_parts (leb i.rule (header_of R).p) (ltb i.dot (length (right_of R i.rule))) e in
      let low = leb-true _ _ r in
      let p = (ranges R formed).p_high in
      let short = right_length i.rule low in
      let dot = ltb-true _ _ d in
      and_from (ltb i.rule 61) _ (lt-ltb _ 61 (omega (arith, low, p))) (lt-ltb _ 7 (omega (arith, dot, short)))

  pub kernel_set : (q : ℕ) → q < (header_of R).s → (s : Places) (es : List ℕ) → es ≡ section_of R q section.TheVariants.Kernel
      → ((i : Item) → has s i ≡ (in_grid i && mentions es i)) → (i : Item) → (has s i ≡ true) ↔ Kernel (table_of R) q i
  kernel_set q l s es e told i = (
    λ h. subst (λ (xs : List ℕ). Memᴰ i (items xs)) e (mentioned es i (and_parts (in_grid i) (mentions es i) (sym (told i) ∙ h)).1),
    λ m. told i ∙ and_from (in_grid i) _ (within_grid i (kernel_places R formed q l i m)) (mention es i (subst (λ (xs : List ℕ). Memᴰ i (items xs)) (sym e) m)),
  )

  -- a state's kernel has some item
  pub some_item : (q : ℕ) → q < (header_of R).s → (i : Item) × Kernel (table_of R) q i
  some_item q l = by (section_of R q section.TheVariants.Kernel) (entries_are_good R formed q l section.TheVariants.Kernel)
    where
      by : (es : List ℕ) → (leb 1 (length es) && pairs_good R section.TheVariants.Kernel [] es) ≡ true → (i : Item) × Memᴰ i (items es)
      by [] e = absurd (true≢false (sym e))
      by (r ∷ []) e = absurd (true≢false (sym (and_parts (leb 1 1) false e).1))
      by (r ∷ d ∷ es) e = (record { rule = r; dot = d }, Memᴰ.head refl)
