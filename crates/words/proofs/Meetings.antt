-- Two sets share a word just where two of their rows share a bit.
use Rattle.std.proofs.Common.{◌≡◌, ℕ, zero, suc, ◌<◌, Bool, true, not, ◌||◌, eqb, List, [], ◌∷◌, length, get_or, Decides, sym, ◌∙◌, subst, ⊎_elim, arith}
use Rattle.std.specs.List.{list_any, zip}
use lib.Bits.{bit_and}
use Rattle.std.proofs.lemmas.Nat.{and_le_l}
use Rattle.std.proofs.lemmas.Bool.{and_from, and_parts, or_cases, or_left, or_right, false≢true}
use Rattle.words.specs.Codes.{bit, word_of}
use Rattle.words.specs.Bits.{bit_and_lem}
use Rattle.words.specs.Sets.{has, member, any, Meet}
use Rattle.words.specs.declared.set.Words.{Words}
use Rattle.words.specs.Members.{any_decides, member_word_of, numbers_of, in_range}
use Rattle.words.proofs.RowFacts.{row_fits, any_row}

-- whether a test holds of the pair at some index
any_pair : (f : ℕ → ℕ → Bool) (xs ys : List ℕ) → length ys ≡ length xs
    → Decides (list_any (λ (p : ℕ × ℕ). f p.0 p.1) (zip xs ys)) ((a : ℕ) × (a < length xs) × (f (get_or xs a 0) (get_or ys a 0) ≡ true))
any_pair f [] ys e = (λ h. absurd (false≢true h), λ (a, l, h). absurd (omega arith))
any_pair f (x ∷ xs) [] e = absurd (omega arith)
any_pair f (x ∷ xs) (y ∷ ys) e =
    let rest = any_pair f xs ys (omega arith) in (
      λ h. ⊎_elim (λ here. (0, omega arith, here)) (λ there. let (a, l, t) = rest.0 there in (suc a, omega arith, t)) (or_cases _ _ h),
      λ (a, l, h). at rest.1 a l h,
    )
  where
    there : Bool
    there = list_any (λ (p : ℕ × ℕ). f p.0 p.1) (zip xs ys)

    at : ((a : ℕ) × (a < length xs) × (f (get_or xs a 0) (get_or ys a 0) ≡ true) → there ≡ true)
        → (a : ℕ) → a < length (x ∷ xs) → f (get_or (x ∷ xs) a 0) (get_or (y ∷ ys) a 0) ≡ true → (f x y || there) ≡ true
    at rest zero l h = or_left _ _ h
    at rest (suc a) l h = or_right (f x y) _ (rest (a, omega arith, h))

module _ {k : ℕ} (s t : Words k) where
  -- the bits that two rows share
  abbrev shared : ℕ → ℕ
  shared a = bit_and (get_or s.rows a 0) (get_or t.rows a 0)

  any_shared : (a : ℕ) → a < 21 → any (bit (shared a)) 21 ≡ not (eqb (shared a) 0)
  any_shared a h =
      let f = row_fits s a h in
      let l = and_le_l (get_or s.rows a 0) (get_or t.rows a 0) in
      any_row (shared a) (omega arith)

  pub meet_here : (a : ℕ) → a < 21 → not (eqb (shared a) 0) ≡ true → Meet s t
  meet_here a h some =
      let (b, l, both) = (any_decides (bit (shared a)) 21).0 (any_shared a h ∙ some) in
      let p = and_parts (has s a b) (has t a b) (sym (bit_and_lem (get_or s.rows a 0) (get_or t.rows a 0) b) ∙ both) in
      (word_of a b, member_word_of s a b ∙ p.0, member_word_of t a b ∙ p.1)

  pub meet_at : Meet s t → (a : ℕ) × (a < 21) × (not (eqb (shared a) 0) ≡ true)
  meet_at (w, hs, ht) =
      let (a, b, ha, e) = numbers_of s w hs in
      let hb : has t a b ≡ true = sym (member_word_of t a b) ∙ subst (λ x. member t x ≡ true) (sym e) ht in
      let (al, bl) = in_range s a b ha in
      let both : bit (shared a) b ≡ true = bit_and_lem (get_or s.rows a 0) (get_or t.rows a 0) b ∙ and_from _ _ ha hb in
      (a, al, sym (any_shared a al) ∙ (any_decides (bit (shared a)) 21).1 (b, bl, both))

  -- the sets share a word where some pair of rows shares a bit
  pub meets_decides : Decides (list_any (λ (p : ℕ × ℕ). not (eqb (bit_and p.0 p.1) 0)) (zip s.rows t.rows)) (Meet s t)
  meets_decides =
      let d = any_pair (λ x y. not (eqb (bit_and x y) 0)) s.rows t.rows (t.long ∙ sym s.long) in (
        λ h. let (a, l, e) = d.0 h in meet_here a (subst (λ n. a < n) s.long l) e,
        λ m. let (a, l, e) = meet_at m in d.1 (a, subst (λ n. a < n) (sym s.long) l, e),
      )
