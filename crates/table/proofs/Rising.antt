-- The entries of a section rise byte by byte, so they rise as numbers.
use Rattle.std.proofs.Common.{◌≡◌, ℕ, zero, suc, ◌+◌, ◌*◌, ◌<◌, true, ◌&&◌, List, [], ◌∷◌, length, inl, inr, arith}
use Rattle.std.proofs.lemmas.Bool.{and_parts}
use Rattle.frames.specs.declared.header.Header.{Header}
use Rattle.frames.specs.declared.header.Section.{Section}
use Rattle.frames.specs.Raw.{Raw}
use Rattle.frames.specs.Form.{below, pair_good, choice_good, pairs_good, choices_good}
use Rattle.frames.specs.Formed.{Precedes}
use Rattle.frames.proofs.Rising.{precedes}
use Rattle.table.specs.Rising.{pair_at, four_at, PairsRise, FoursRise}
use Rattle.table.proofs.Searching.{Bytes, pair_on, fours_on}

pair_below : (a b c d : ℕ) → b < 256 → Precedes (a ∷ b ∷ []) (c ∷ d ∷ []) → a * 256 + b < c * 256 + d
pair_below a b c d l (inl m) = omega arith
pair_below a b c d l (inr (e, inl m)) = omega (arith, e, m)
pair_below a b c d l (inr (e, inr (f, z))) = absurd z

four_below : (a b c d a' b' c' d' : ℕ) → b < 256 → c < 256 → d < 256 → Precedes (a ∷ b ∷ c ∷ d ∷ []) (a' ∷ b' ∷ c' ∷ d' ∷ [])
    → a * 16777216 + b * 65536 + c * 256 + d < a' * 16777216 + b' * 65536 + c' * 256 + d'
four_below a b c d a' b' c' d' x y z (inl m) = omega arith
four_below a b c d a' b' c' d' x y z (inr (e, inl m)) = omega (arith, e, m)
four_below a b c d a' b' c' d' x y z (inr (e, inr (f, inl m))) = omega (arith, e, f, m)
four_below a b c d a' b' c' d' x y z (inr (e, inr (f, inr (g, inl m)))) = omega (arith, e, f, g, m)
four_below a b c d a' b' c' d' x y z (inr (e, inr (f, inr (g, inr (h, w))))) = absurd w

module _ (R : Raw) (c : Section) where
  behind_pair : (a b : ℕ) (es : List ℕ) → pairs_good R c (a ∷ b ∷ []) es ≡ true → b < 256 → Bytes es → (k : ℕ) → 2 * k + 1 < length es
      → a * 256 + b < pair_at es k
  behind_pair a b [] e l bytes k m = absurd (omega arith)
  behind_pair a b (d ∷ []) e l bytes k m = absurd (omega arith)
  behind_pair a b (d ∷ f ∷ es) e l bytes k m =
      let (here, rest) = and_parts (below (a ∷ b ∷ []) (d ∷ f ∷ []) && pair_good R c d f) (pairs_good R c (d ∷ f ∷ []) es) e in
      let (rises, _) = and_parts (below (a ∷ b ∷ []) (d ∷ f ∷ [])) (pair_good R c d f) here in
      by (pair_below a b d f l (precedes (a ∷ b ∷ []) (d ∷ f ∷ []) rises)) (behind_pair d f es rest (bytes 1) (λ i. bytes (suc (suc i)))) k m
    where
      by : a * 256 + b < d * 256 + f → ((k : ℕ) → 2 * k + 1 < length es → d * 256 + f < pair_at es k) → (k : ℕ) → 2 * k + 1 < length (d ∷ f ∷ es)
          → a * 256 + b < pair_at (d ∷ f ∷ es) k
      by first rest zero m = first
      by first rest (suc k) m = let n = rest k (omega arith) in omega (arith, first, n, pair_on d f es k)

  pub pairs_rise : (last es : List ℕ) → pairs_good R c last es ≡ true → Bytes es → PairsRise es
  pairs_rise last [] e bytes i j l m = absurd (omega arith)
  pairs_rise last (a ∷ []) e bytes i j l m = absurd (omega arith)
  pairs_rise last (a ∷ b ∷ es) e bytes i j l m =
      let (_, rest) = and_parts (below last (a ∷ b ∷ []) && pair_good R c a b) (pairs_good R c (a ∷ b ∷ []) es) e in
      let on : Bytes es = λ n. bytes (suc (suc n)) in
      by (behind_pair a b es rest (bytes 1) on) (pairs_rise (a ∷ b ∷ []) es rest on) i j l m
    where
      by : ((k : ℕ) → 2 * k + 1 < length es → a * 256 + b < pair_at es k) → PairsRise es → (i j : ℕ) → i < j → 2 * j + 1 < length (a ∷ b ∷ es)
          → pair_at (a ∷ b ∷ es) i < pair_at (a ∷ b ∷ es) j
      by first rest i zero l m = absurd (omega arith)
      by first rest zero (suc j) l m = let n = first j (omega arith) in omega (arith, n, pair_on a b es j)
      by first rest (suc i) (suc j) l m = let n = rest i j (omega arith) (omega arith) in omega (arith, n, pair_on a b es i, pair_on a b es j)

module _ (h : Header) where
  behind_four : (a b c d : ℕ) (es : List ℕ) → choices_good h (a ∷ b ∷ c ∷ d ∷ []) es ≡ true → b < 256 → c < 256 → d < 256 → Bytes es
      → (k : ℕ) → 4 * k + 3 < length es → a * 16777216 + b * 65536 + c * 256 + d < four_at es k
  behind_four a b c d [] e x y z bytes k m = absurd (omega arith)
  behind_four a b c d (a' ∷ []) e x y z bytes k m = absurd (omega arith)
  behind_four a b c d (a' ∷ b' ∷ []) e x y z bytes k m = absurd (omega arith)
  behind_four a b c d (a' ∷ b' ∷ c' ∷ []) e x y z bytes k m = absurd (omega arith)
  behind_four a b c d (a' ∷ b' ∷ c' ∷ d' ∷ es) e x y z bytes k m =
      let new = a' ∷ b' ∷ c' ∷ d' ∷ [] in
      let (here, rest) = and_parts (below (a ∷ b ∷ c ∷ d ∷ []) new && choice_good h a' b' c' d') (choices_good h new es) e in
      let (rises, _) = and_parts (below (a ∷ b ∷ c ∷ d ∷ []) new) (choice_good h a' b' c' d') here in
      by (four_below a b c d a' b' c' d' x y z (precedes (a ∷ b ∷ c ∷ d ∷ []) new rises))
      (behind_four a' b' c' d' es rest (bytes 1) (bytes 2) (bytes 3) (λ i. bytes (suc (suc (suc (suc i)))))) k m
    where
      by : a * 16777216 + b * 65536 + c * 256 + d < a' * 16777216 + b' * 65536 + c' * 256 + d'
          → ((k : ℕ) → 4 * k + 3 < length es → a' * 16777216 + b' * 65536 + c' * 256 + d' < four_at es k)
          → (k : ℕ) → 4 * k + 3 < length (a' ∷ b' ∷ c' ∷ d' ∷ es) → a * 16777216 + b * 65536 + c * 256 + d < four_at (a' ∷ b' ∷ c' ∷ d' ∷ es) k
      by first rest zero m = first
      by first rest (suc k) m = let n = rest k (omega arith) in omega (arith, first, n, fours_on a' b' c' d' es k)

  pub fours_rise : (last es : List ℕ) → choices_good h last es ≡ true → Bytes es → FoursRise es
  fours_rise last [] e bytes i j l m = absurd (omega arith)
  fours_rise last (a ∷ []) e bytes i j l m = absurd (omega arith)
  fours_rise last (a ∷ b ∷ []) e bytes i j l m = absurd (omega arith)
  fours_rise last (a ∷ b ∷ c ∷ []) e bytes i j l m = absurd (omega arith)
  fours_rise last (a ∷ b ∷ c ∷ d ∷ es) e bytes i j l m =
      let (_, rest) = and_parts (below last (a ∷ b ∷ c ∷ d ∷ []) && choice_good h a b c d) (choices_good h (a ∷ b ∷ c ∷ d ∷ []) es) e in
      let on : Bytes es = λ n. bytes (suc (suc (suc (suc n)))) in
      by (behind_four a b c d es rest (bytes 1) (bytes 2) (bytes 3) on) (fours_rise (a ∷ b ∷ c ∷ d ∷ []) es rest on) i j l m
    where
      by : ((k : ℕ) → 4 * k + 3 < length es → a * 16777216 + b * 65536 + c * 256 + d < four_at es k) → FoursRise es
          → (i j : ℕ) → i < j → 4 * j + 3 < length (a ∷ b ∷ c ∷ d ∷ es) → four_at (a ∷ b ∷ c ∷ d ∷ es) i < four_at (a ∷ b ∷ c ∷ d ∷ es) j
      by first rest i zero l m = absurd (omega arith)
      by first rest zero (suc j) l m = let n = first j (omega arith) in omega (arith, n, fours_on a b c d es j)
      by first rest (suc i) (suc j) l m = let n = rest i j (omega arith) (omega arith) in omega (arith, n, fours_on a b c d es i, fours_on a b c d es j)
