-- Where the frames of an accepted file stand: what a look-up reads without testing is there. That a file is accepted is hidden, so what is had of
-- it are numbers and tests, of which there is one proof at most.
use Rattle.std.proofs.Common.{◌≡◌, ℕ, ◌+◌, ◌-◌, ◌*◌, ◌<◌, ◌≤◌, true, ◌&&◌, ltb, leb, ◌⊎◌, List, [], ◌∷◌, length, get_or, drop, take, slice_range, sym, refl, ap, ◌∙◌, subst, inl, inr, arith, length-take, length-drop, drop-drop}
use mathlib.Core.List.{Memᴰ}
use mathlib.Core.Logic.{∥∥₁_elim}
use Rattle.std.proofs.Math.Bool.{Bool-set}
use Rattle.std.proofs.lemmas.List.{drop-take}
use Rattle.std.proofs.lemmas.Bool.{true≢false, and_parts, cases_lt, cond-true, cond-false, lt-ltb, le-ltb, ltb-true, leb-true, ne_eqb}
use Rattle.frames.specs.declared.header.Section.{Section}
use Rattle.frames.specs.declared.header.Section.TheVariants.{Kernel, Words, Successors, Choices}
use Rattle.frames.specs.Raw.{Raw, start_of, end_of, frame, header_of, right_of, section_of, place}
use Rattle.frames.specs.Form.{between, below, is_kernel_place, pairs_good, entries_good, rule_good, needed, good_at, frame_good, numbers_good, start_good}
use Rattle.items.specs.Entries.{items}
use Rattle.table.specs.Rising.{PairsRise, FoursRise}
use Rattle.table.specs.Rows.{numbers, starts, frames, AcceptedFile}
use Rattle.table.proofs.Files.{formed_file}
use Rattle.table.proofs.Searching.{Bytes}
use Rattle.table.proofs.Rising.{pairs_rise, fours_rise}
use Rattle.table.proofs.Formed.{range, rule_is_good, entries_are_good}

-- the first place of a kernel: a rule and a dot before some symbol of its right side
pub record FirstPlace (R : Raw) (es : List ℕ) : Type 0 where
  pub long : 2 ≤ length es
  pub known : get_or es 0 0 ≤ (header_of R).p
  pub inside : get_or es 1 0 < length (right_of R (get_or es 0 0))
  pub listed : Memᴰ (record { rule = get_or es 0 0; dot = get_or es 1 0 }) (items es)

first_place : (R : Raw) (es : List ℕ) → leb 1 (length es) ≡ true → pairs_good R Kernel [] es ≡ true → FirstPlace R es
first_place R [] e f = absurd (true≢false (sym e))
first_place R (a ∷ []) e f = absurd (true≢false (sym f))
first_place R (a ∷ b ∷ es) e f =
    let (g, _) = and_parts (below [] (a ∷ b ∷ []) && is_kernel_place R a b) (pairs_good R Kernel (a ∷ b ∷ []) es) f in
    let (_, h) = and_parts (below [] (a ∷ b ∷ [])) (is_kernel_place R a b) g in
    let (rule, dot) = and_parts (leb a (header_of R).p) (ltb b (length (right_of R a))) h in
    record { long = omega arith; known = leb-true _ _ rule; inside = ltb-true _ _ dot; listed = Memᴰ.head refl }

-- a part of a part is the part behind
pub range_behind : (xs : List ℕ) (i j n : ℕ) → i + n ≤ j → take (j - (i + n)) (drop (i + n) xs) ≡ drop n (slice_range xs i j)
range_behind xs i j n within =
    let many : j - i ≡ n + (j - (i + n)) = omega arith in
    sym (ap (λ (k : ℕ). drop n (take k (drop i xs))) many ∙ drop-take n (j - (i + n)) (drop i xs) ∙ ap (take (j - (i + n))) (drop-drop n i xs))

module _ (R : Raw) (good : ∥ AcceptedFile R ∥₁) where
  numbers_hold : numbers_good R ≡ true
  numbers_hold = ∥∥₁_elim good (Bool-set _ _) (λ a. a numbers 0 refl)

  start_holds : (i : ℕ) → i < R.frames → start_good R i ≡ true
  start_holds i l = ∥∥₁_elim good (Bool-set _ _) (λ a. a starts i l)

  frame_holds : (i : ℕ) → frame_good R i ≡ true
  frame_holds i = ∥∥₁_elim good (Bool-set _ _) (λ a. a frames i)

  rule_holds : (r : ℕ) → r < (header_of R).p → rule_good (header_of R) (frame R (1 + r)) ≡ true
  rule_holds r l = ∥∥₁_elim good (Bool-set _ _) (λ a. rule_is_good R (formed_file R a) r l)

  section_holds : (q : ℕ) → q < (header_of R).s → (c : Section) → entries_good R c (section_of R q c) ≡ true
  section_holds q l c = ∥∥₁_elim good (Bool-set _ _) (λ a. entries_are_good R (formed_file R a) q l c)

  -- the frames that a table needs are there
  needed_there : (i : ℕ) → i < needed R → i < R.frames
  needed_there i l =
      ltb-true i R.frames (and_parts (ltb i R.frames) (good_at R i) (sym (cond-true _ _ _ (lt-ltb i (needed R) l)) ∙ frame_holds i)).0

  pub rule_there : (r : ℕ) → r < (header_of R).p → 1 + r < R.frames
  rule_there r l = needed_there (1 + r) (omega arith)

  place_low : (c : Section) → place c < 4
  place_low Kernel = omega arith
  place_low Words = omega arith
  place_low Successors = omega arith
  place_low Choices = omega arith

  pub section_there : (q : ℕ) → q < (header_of R).s → (c : Section) → 1 + (header_of R).p + 4 * q + place c < R.frames
  section_there q l c = let low = place_low c in needed_there _ (omega arith)

  -- each begins and ends within the memories, and is not empty
  pub starts_there : R.frames ≤ length R.starts
  starts_there = leb-true _ _ (and_parts (leb R.frames (length R.starts)) (leb R.bytes (length R.store)) numbers_hold).0

  store_there : R.bytes ≤ length R.store
  store_there = leb-true _ _ (and_parts (leb R.frames (length R.starts)) (leb R.bytes (length R.store)) numbers_hold).1

  start_below : (i : ℕ) → i < R.frames → start_of R i < R.bytes
  start_below i l = ltb-true _ _ (and_parts (ltb (start_of R i) R.bytes) _ (start_holds i l)).0

  starts_rise : (i : ℕ) → i + 1 < R.frames → start_of R i < start_of R (i + 1)
  starts_rise i l =
      let (_, e) = and_parts (ltb (start_of R (i + 1)) R.bytes) _ (start_holds (i + 1) l) in
      let z : i + 1 - 1 ≡ i = omega arith in
      let e' : ltb (start_of R (i + 1 - 1)) (start_of R (i + 1)) ≡ true = sym (cond-false _ _ _ (ne_eqb (i + 1) 0 (λ w. absurd (omega (arith, w))))) ∙ e in
      ltb-true _ _ (subst (λ (j : ℕ). ltb (start_of R j) (start_of R (i + 1)) ≡ true) z e')

  ends : (i : ℕ) → i < R.frames → (start_of R i < end_of R i) × (end_of R i ≤ R.bytes)
  ends i l = by (cases_lt (i + 1) R.frames)
    where
      by : (i + 1 < R.frames) ⊎ (R.frames ≤ i + 1) → (start_of R i < end_of R i) × (end_of R i ≤ R.bytes)
      by (inl m) =
          let e : end_of R i ≡ start_of R (i + 1) = cond-true _ _ _ (lt-ltb (i + 1) R.frames m) in
          (omega (arith, e, starts_rise i m), omega (arith, e, start_below (i + 1) m))
      by (inr m) =
          let e : end_of R i ≡ R.bytes = cond-false _ _ _ (le-ltb (i + 1) R.frames m) in
          (omega (arith, e, start_below i l), omega (arith, e))

  pub starts_before : (i : ℕ) → i < R.frames → start_of R i < end_of R i
  starts_before i l = (ends i l).0

  pub ends_within : (i : ℕ) → i < R.frames → end_of R i ≤ length R.store
  ends_within i l = omega (arith, (ends i l).1, store_there)

  pub frame_long : (i : ℕ) → i < R.frames → length (frame R i) ≡ end_of R i - start_of R i
  frame_long i l =
      let m = ends_within i l in
      let n = starts_before i l in
      omega (arith, m, n, length-take (end_of R i - start_of R i) (drop (start_of R i) R.store), length-drop (start_of R i) R.store)

  pub rule_long : (r : ℕ) → r < (header_of R).p → 2 ≤ length (frame R (1 + r))
  rule_long r l = (range 2 8 _ (and_parts (between 2 8 (length (frame R (1 + r)))) _ (rule_holds r l)).0).0

  -- a kernel begins with a place that has a symbol behind its dot
  pub kernel_begins : (q : ℕ) → q < (header_of R).s → FirstPlace R (section_of R q Kernel)
  kernel_begins q l =
      let es = section_of R q Kernel in
      let (e, f) = and_parts (leb 1 (length es)) (pairs_good R Kernel [] es) (section_holds q l Kernel) in
      first_place R es e f

  -- successors and words rise as numbers, and choices do
  pub successors_rise : (q : ℕ) → q < (header_of R).s → Bytes (section_of R q Successors) → PairsRise (section_of R q Successors)
  successors_rise q l bytes = pairs_rise R Successors [] _ (section_holds q l Successors) bytes

  pub words_rise : (q : ℕ) → q < (header_of R).s → Bytes (section_of R q Words) → PairsRise (section_of R q Words)
  words_rise q l bytes =
      let es = section_of R q Words in
      let (_, f) = and_parts (leb 1 (length es)) (pairs_good R Words [] es) (section_holds q l Words) in
      pairs_rise R Words [] es f bytes

  pub choices_rise : (q : ℕ) → q < (header_of R).s → Bytes (section_of R q Choices) → FoursRise (section_of R q Choices)
  choices_rise q l bytes = fours_rise (header_of R) [] _ (section_holds q l Choices) bytes
