-- A set of words as a value: its members, and the operations on sets.
use Rattle.std.specs.Prelude.{◌≡◌, ℕ, zero, suc, ◌+◌, ◌^◌, ◌<◌, Bool, true, false, cond, ◌&&◌, ◌||◌, ◌⊎◌, List, [], ◌∷◌, ◌++◌, map, length, take, ◌==◌, nat_lt, slice_index}
use Rattle.std.proofs.Common.{sym, ap, ◌∙◌, arith}
use mathlib.Core.HLevel.{is_prop→PathP, Π_prop}
use Rattle.std.proofs.Math.Bridge.{le_prop}
use Rattle.std.proofs.Math.Nat.{ℕ_set}
use Rattle.std.specs.List.{range_with_len}
use Rattle.std.proofs.lemmas.List.FromFn.{length-map-range_with_len, get_or-map-range_with_len}
use Rattle.std.proofs.lemmas.List.{ext_get_or}
use Rattle.grammar.specs.Equations.{Kind}
use Rattle.words.specs.Codes.{cut, width, word_of, is_word, bit, mask}
use Rattle.words.specs.Bits.{mask_lt, bit_mask, same_bits}
use Rattle.words.specs.declared.set.Words.{Words}

-- Whether the word of first token a and second token b is in the set, 0 where there is none.
abbrev pub has : {k : ℕ} → Words k → ℕ → ℕ → Bool
has s a b = bit (slice_index s.rows a) b

-- Whether a word passes a test on its two numbers.
abbrev pub passes : (ℕ → ℕ → Bool) → List ℕ → Bool
passes f [] = f 0 0
passes f (zero ∷ []) = false
passes f (suc a ∷ []) = f (suc a) 0
passes f (zero ∷ b ∷ []) = false
passes f (suc a ∷ zero ∷ []) = false
passes f (suc a ∷ suc b ∷ []) = f (suc a) (suc b)
passes f (a ∷ b ∷ c ∷ w) = false

-- Whether a word is in the set.
abbrev pub member : {k : ℕ} → Words k → List ℕ → Bool
member s w = passes (has s) w

-- The set of the words whose two numbers pass.
unfoldable pub of_test : (k : ℕ) → (ℕ → ℕ → Bool) → Words k
of_test k f = record {
  rows = map (λ a. mask (f a) (width k a)) (range_with_len 0 21);
  long = length-map-range_with_len (λ a. mask (f a) (width k a)) 0 21;
  fits = λ a h. rw (get_or-map-range_with_len (λ a. mask (f a) (width k a)) 0 21 a a 0 h (omega arith)) (mask_lt (f a) (width k a));
}

-- It has just these words.
pub has_of_test : (k : ℕ) (f : ℕ → ℕ → Bool) (a b : ℕ) → a < 21 → b < width k a → has (of_test k f) a b ≡ f a b
unfolding of_test
has_of_test k f a b ha hb =
    ap (λ x. bit x b) (get_or-map-range_with_len (λ a. mask (f a) (width k a)) 0 21 a a 0 ha (omega arith)) ∙ bit_mask (f a) (width k a) b hb

-- Sets with the same rows are equal.
pub by_rows : {k : ℕ} (s t : Words k) → s.rows ≡ t.rows → s ≡ t
by_rows {k} s t e = λ i. record {
  rows = e i;
  long = is_prop→PathP (λ i. length (e i) ≡ 21) (λ i. ℕ_set (length (e i)) 21) s.long t.long i;
  fits = is_prop→PathP (λ i. (a : ℕ) → a < 21 → slice_index (e i) a < 2 ^ width k a) (λ i. Π_prop (λ a. Π_prop (λ h. le_prop))) s.fits t.fits i;
}

-- Sets with the same words are equal, by the numbers of the words.
pub same_set : {k : ℕ} (s t : Words k) → ((a b : ℕ) → a < 21 → b < width k a → has s a b ≡ has t a b) → s ≡ t
same_set {k} s t h =
    by_rows s t (ext_get_or 0 s.rows t.rows (s.long ∙ sym t.long)
    (λ a within. let ha : a < 21 = rw s.long at within in same_bits (width k a) (slice_index s.rows a) (slice_index t.rows a) (s.fits a ha) (t.fits a ha) (λ b hb. h a b ha hb)))

-- Whether one of f 0 .. f (n - 1) is true.
abbrev pub any : (ℕ → Bool) → ℕ → Bool
any f zero = false
any f (suc n) = f n || any f n

-- Whether some word begins with token a, or, at 0, whether the empty word is there.
abbrev pub begins : {k : ℕ} → Words k → ℕ → Bool
begins s a = any (has s a) 21

-- Whether there is a word.
abbrev pub some_word : {k : ℕ} → Words k → Bool
some_word s = any (begins s) 21

-- Whether b can follow a word of one token in a product with t: where words are cut to one token, only nothing can.
abbrev pub follows : {k : ℕ} → Bool → Words k → ℕ → Bool
follows one t b = cond one (b == 0) (begins t b)

-- Whether the word of a and b is a word of s joined to one of t, and cut.
abbrev pub joins : {k : ℕ} → Bool → Words k → Words k → ℕ → ℕ → Bool
joins one s t zero zero = has s 0 0 && has t 0 0
joins one s t zero (suc b) = false
joins one s t (suc a) zero = (has s 0 0 && has t (suc a) 0) || (some_word t && (has s (suc a) 0 && follows one t 0))
joins one s t (suc a) (suc b) = (has s 0 0 && has t (suc a) (suc b)) || (some_word t && (has s (suc a) (suc b) || (has s (suc a) 0 && follows one t (suc b))))

-- The empty set.
abbrev pub no_words : (k : ℕ) → Words k
no_words k = of_test k (λ a b. false)

-- The set with the word of a and b, if these are the numbers of a word.
abbrev pub with_word : {k : ℕ} → Words k → ℕ → ℕ → Words k
with_word {k} s a b = of_test k (λ c d. has s c d || (c == a && d == b))

-- Sets of words as a kind of value: union, and concatenation cut. 0 stands for no token, so its value has the empty word.
abbrev pub word_kind : (k : ℕ) → Kind (Words k)
word_kind k = record {
  bottom = no_words k;
  unit = with_word (no_words k) 0 0;
  token = λ a. with_word (no_words k) a 0;
  join = λ s t. of_test k (λ a b. has s a b || has t a b);
  product = λ s t. of_test k (joins (nat_lt k 2) s t);
  holds = member;
}

-- w is a word of s joined to one of t, and cut.
abbrev pub Joined : {k : ℕ} → Words k → Words k → List ℕ → Type 0
Joined {k} s t w = (u v : List ℕ) × ((member s u ≡ true) × (member t v ≡ true) × (w ≡ take (cut k) (u ++ v)))

-- w is a word of s, or the word of a and b, where these are the numbers of a word.
abbrev pub Added : {k : ℕ} → Words k → ℕ → ℕ → List ℕ → Type 0
Added {k} s a b w = (member s w ≡ true) ⊎ ((is_word k a b ≡ true) × (w ≡ word_of a b))

-- Some word is in both sets.
abbrev pub Meet : {k : ℕ} → Words k → Words k → Type 0
Meet s t = (w : List ℕ) × (member s w ≡ true) × (member t w ≡ true)

-- The sum of f 0 .. f (n - 1).
abbrev pub total : (ℕ → ℕ) → ℕ → ℕ
total f zero = 0
total f (suc n) = f n + total f n

-- The number of words that begin with a token.
abbrev pub row_count : {k : ℕ} → Words k → ℕ → ℕ
row_count {k} s a = total (λ b. cond (has s a b) 1 0) (width k a)

-- The number of words.
abbrev pub count : {k : ℕ} → Words k → ℕ
count s = total (row_count s) 21
