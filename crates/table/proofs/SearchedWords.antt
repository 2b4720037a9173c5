-- The words of pairs that rise: one begins with another just when its numbers say so, and if some word does, the lowest that is not below does.
use Rattle.std.proofs.Common.{◌≡◌, ℕ, zero, suc, ◌+◌, ◌*◌, ◌<◌, ◌≤◌, Bool, true, false, cond, eqb, ◌⊎◌, List, [], ◌∷◌, ◌++◌, length, get_or, sym, refl, ap, ◌∙◌, subst, inl, inr, arith, append-nil}
use mathlib.Core.List.Memᴰ
use mathlib.Core.List.{Memᴰ}
use Rattle.std.proofs.lemmas.Bool.{cases_eq, cases_lt, cond-true, cond-false, eq-eqb, ne_eqb, eqb-true}
use Rattle.frames.specs.Form.{word_of}
use Rattle.lookahead.specs.Entries.{WordIn}
use Rattle.table.specs.LookUps.{BeginsWith}
use Rattle.table.specs.Rising.{pair_at, PairsRise}
use Rattle.table.proofs.LookedUp.{begins_first}
use Rattle.table.proofs.Searching.{Bytes, two_on}

-- the words of pairs are those of the entries, one by one
pub word_there : (es : List ℕ) (k : ℕ) → 2 * k + 1 < length es → WordIn es (word_of (get_or es (2 * k) 0) (get_or es (2 * k + 1) 0))
word_there [] k l = absurd (omega arith)
word_there (a ∷ []) k l = absurd (omega arith)
word_there (a ∷ b ∷ es) zero l = Memᴰ.head refl
word_there (a ∷ b ∷ es) (suc k) l =
    subst (λ (x : ℕ). WordIn (a ∷ b ∷ es) (word_of x (get_or (a ∷ b ∷ es) (2 * suc k + 1) 0))) (sym (two_on a b es (2 * suc k) (2 * k) (omega arith)))
    (subst (λ (x : ℕ). WordIn (a ∷ b ∷ es) (word_of (get_or es (2 * k) 0) x)) (sym (two_on a b es (2 * suc k + 1) (2 * k + 1) (omega arith)))
    (Memᴰ.tail (word_there es k (omega arith))))

pub record WordAt (es y : List ℕ) : Type 0 where
  pub place : ℕ
  pub within : 2 * place + 1 < length es
  pub first : ℕ
  pub second : ℕ
  pub first_is : first ≡ get_or es (2 * place) 0
  pub second_is : second ≡ get_or es (2 * place + 1) 0
  pub word_is : y ≡ word_of first second

pub word_found : (es y : List ℕ) → WordIn es y → WordAt es y
word_found [] y m = absurd (Memᴰ.not-nil m)
word_found (a ∷ []) y m = absurd (Memᴰ.not-nil m)
word_found (a ∷ b ∷ es) y m = by (word_found es y) (Memᴰ.cases_cons m)
  where
    next : WordAt es y → WordAt (a ∷ b ∷ es) y
    next w = record {
      place = suc w.place;
      within = let l = w.within in omega (arith, l);
      first = w.first;
      second = w.second;
      first_is = w.first_is ∙ sym (two_on a b es (2 * suc w.place) (2 * w.place) (omega arith));
      second_is = w.second_is ∙ sym (two_on a b es (2 * suc w.place + 1) (2 * w.place + 1) (omega arith));
      word_is = w.word_is;
    }

    by : (WordIn es y → WordAt es y) → (y ≡ word_of a b) ⊎ WordIn es y → WordAt (a ∷ b ∷ es) y
    by rest (inl e) = record { place = 0; within = omega arith; first = a; second = b; first_is = refl; second_is = refl; word_is = e }
    by rest (inr w) = next (rest w)

-- the numbers of a word
first_number : (a b : ℕ) → get_or (word_of a b) 0 0 ≡ a
first_number a b = by (eqb b 0)
  where
    by : (t : Bool) → get_or (cond t (a ∷ []) (a ∷ b ∷ [])) 0 0 ≡ a
    by true = refl
    by false = refl

second_number : (a b : ℕ) → get_or (word_of a b) 1 0 ≡ b
second_number a b = by (eqb b 0) refl
  where
    by : (t : Bool) → eqb b 0 ≡ t → get_or (cond t (a ∷ []) (a ∷ b ∷ [])) 1 0 ≡ b
    by true e = sym (eqb-true b 0 e)
    by false e = refl

first_of_front : (f g : ℕ) (rest : List ℕ) → get_or (word_of f g ++ rest) 0 0 ≡ f
first_of_front f g rest = by (eqb g 0)
  where
    by : (t : Bool) → get_or (cond t (f ∷ []) (f ∷ g ∷ []) ++ rest) 0 0 ≡ f
    by true = refl
    by false = refl

second_of_front : (f g : ℕ) (rest : List ℕ) → (g ≡ 0 → ⊥) → get_or (word_of f g ++ rest) 1 0 ≡ g
second_of_front f g rest n = ap (λ (w : List ℕ). get_or (w ++ rest) 1 0) (cond-false _ _ _ (ne_eqb g 0 n))

pub begins_numbers : (a b f g : ℕ) → BeginsWith (word_of a b) (word_of f g) → (a ≡ f) × ((g ≡ 0) ⊎ (b ≡ g))
begins_numbers a b f g x = (sym (first_number a b) ∙ ap (λ (w : List ℕ). get_or w 0 0) x.splits ∙ first_of_front f g x.rest, by (cases_eq g 0))
  where
    by : (g ≡ 0) ⊎ (g ≡ 0 → ⊥) → (g ≡ 0) ⊎ (b ≡ g)
    by (inl e) = inl e
    by (inr n) = inr (sym (second_number a b) ∙ ap (λ (w : List ℕ). get_or w 1 0) x.splits ∙ second_of_front f g x.rest n)

whole : (w : List ℕ) → BeginsWith w w
whole w = record { rest = []; splits = sym (append-nil w) }

begins_by_numbers : (a b f g : ℕ) → a ≡ f → (g ≡ 0) ⊎ (b ≡ g) → BeginsWith (word_of a b) (word_of f g)
begins_by_numbers a b f g e (inl z) =
    subst (λ (w : List ℕ). BeginsWith (word_of a b) w) (ap (λ (n : ℕ). n ∷ []) e ∙ sym (cond-true _ _ _ (eq-eqb g 0 z))) (begins_first a b)
begins_by_numbers a b f g e (inr s) =
    subst (λ (n : ℕ). BeginsWith (word_of a b) (word_of n g)) e (subst (λ (n : ℕ). BeginsWith (word_of a b) (word_of a n)) s (whole (word_of a b)))

-- the number of a word that begins with another is not below that one's
pub not_below : (es : List ℕ) (f g : ℕ) (y : List ℕ) (w : WordAt es y) → BeginsWith y (word_of f g) → f * 256 + g ≤ pair_at es w.place
not_below es f g y w x = by (begins_numbers w.first w.second f g (subst (λ (z : List ℕ). BeginsWith z (word_of f g)) w.word_is x))
  where
    by : (w.first ≡ f) × ((g ≡ 0) ⊎ (w.second ≡ g)) → f * 256 + g ≤ pair_at es w.place
    by (e, inl z) = omega (arith, e, z, w.first_is, w.second_is)
    by (e, inr s) = omega (arith, e, s, w.first_is, w.second_is)

module _ (es : List ℕ) (rise : PairsRise es) (bytes : Bytes es) (f g : ℕ) (g_byte : g < 256) (r : ℕ)
    (below : (k : ℕ) → k < r → pair_at es k < f * 256 + g) (y : List ℕ) (w : WordAt es y) (x : BeginsWith y (word_of f g)) where
  -- it stands at that place or behind
  pub not_before : r ≤ w.place
  not_before = by (cases_lt w.place r)
    where
      by : (w.place < r) ⊎ (r ≤ w.place) → r ≤ w.place
      by (inl l) = absurd (omega (arith, below w.place l, not_below es f g y w x))
      by (inr l) = l

  at_or_behind : pair_at es r ≤ pair_at es w.place
  at_or_behind = by (cases_eq r w.place)
    where
      by : (r ≡ w.place) ⊎ (r ≡ w.place → ⊥) → pair_at es r ≤ pair_at es w.place
      by (inl e) = let z : pair_at es r ≡ pair_at es w.place = ap (pair_at es) e in omega (arith, z)
      by (inr n) = let l : r < w.place = omega (arith, n, not_before) in omega (arith, rise r w.place l w.within)

  pub lowest_begins : f * 256 + g ≤ pair_at es r → BeginsWith (word_of (get_or es (2 * r) 0) (get_or es (2 * r + 1) 0)) (word_of f g)
  lowest_begins above =
      by (begins_numbers w.first w.second f g (subst (λ (z : List ℕ). BeginsWith z (word_of f g)) w.word_is x))
    where
      a : ℕ
      a = get_or es (2 * r) 0

      b : ℕ
      b = get_or es (2 * r + 1) 0

      b_byte : get_or es (2 * r + 1) 0 < 256
      b_byte = bytes (2 * r + 1)

      last_byte : get_or es (2 * w.place + 1) 0 < 256
      last_byte = bytes (2 * w.place + 1)

      by : (w.first ≡ f) × ((g ≡ 0) ⊎ (w.second ≡ g)) → BeginsWith (word_of (get_or es (2 * r) 0) (get_or es (2 * r + 1) 0)) (word_of f g)
      by (e, inl z) =
          begins_by_numbers _ _ f g (omega (arith, above, at_or_behind, e, z, w.first_is, w.second_is, b_byte, last_byte)) (inl z)
      by (e, inr s) =
          let same : get_or es (2 * r) 0 ≡ f = omega (arith, above, at_or_behind, e, s, w.first_is, w.second_is, b_byte, last_byte, g_byte) in
          begins_by_numbers _ _ f g same (inr (omega (arith, above, at_or_behind, e, s, w.first_is, w.second_is, same)))
