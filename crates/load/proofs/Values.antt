-- Digits and their bytes, by index: byte j of a frame is that of its digits 2j and 2j + 1.
use Rattle.std.proofs.Common.{◌≡◌, ℕ, zero, suc, ◌+◌, ◌*◌, ◌/◌, ◌<◌, true, List, [], ◌∷◌, ◌++◌, length, get_or, drop, sym, refl, ap, ◌∙◌, arith, length-append, length-drop}
use Rattle.std.proofs.lemmas.List.{drop-drop, drop_at, get_or_append_left, get_or-drop}
use Rattle.std.proofs.lemmas.Bool.{and_parts}
use Rattle.load.specs.Digits.{is_digit, all_digits, value_of, bytes_of}

pub digit_at : (ws : List ℕ) (i : ℕ) → all_digits ws ≡ true → i < length ws → is_digit (get_or ws i 0) ≡ true
digit_at [] i e h = absurd (omega arith)
digit_at (w ∷ ws) zero e h = (and_parts _ _ e).0
digit_at (w ∷ ws) (suc i) e h = digit_at ws i (and_parts (is_digit w) _ e).1 (omega arith)

pub bytes_length : (ws : List ℕ) → length (bytes_of ws) ≡ length ws / 2
bytes_length [] = refl
bytes_length (a ∷ []) = refl
bytes_length (a ∷ b ∷ ws) = let e = bytes_length ws in omega arith

pub byte_at : (ws : List ℕ) (j : ℕ) → 2 * j + 1 < length ws → get_or (bytes_of ws) j 0 ≡ 16 * value_of (get_or ws (2 * j) 0) + value_of (get_or ws (2 * j + 1) 0)
byte_at [] j h = absurd (omega arith)
byte_at (a ∷ []) j h = absurd (omega arith)
byte_at (a ∷ b ∷ ws) zero h = refl
byte_at (a ∷ b ∷ ws) (suc j) h =
    let high : 2 * suc j ≡ suc (suc (2 * j)) = omega arith in
    let low : 2 * suc j + 1 ≡ suc (suc (2 * j + 1)) = omega arith in
    byte_at ws j (omega arith)
    ∙ ap (λ k. 16 * value_of (get_or (a ∷ b ∷ ws) k 0) + value_of (get_or ws (2 * j + 1) 0)) (sym high)
    ∙ ap (λ k. 16 * value_of (get_or (a ∷ b ∷ ws) (2 * suc j) 0) + value_of (get_or (a ∷ b ∷ ws) k 0)) (sym low)

-- two digits cut off what is behind the first 2j
pub record Pair (ws two rest : List ℕ) (j : ℕ) : Type 0 where
  pub inside : 2 * j + 1 < length ws
  pub high : get_or two 0 0 ≡ get_or ws (2 * j) 0
  pub low : get_or two 1 0 ≡ get_or ws (2 * j + 1) 0
  pub behind : rest ≡ drop (2 * (j + 1)) ws

pub pair_cut : (ws left two rest : List ℕ) (j : ℕ) → left ≡ drop (2 * j) ws → left ≡ two ++ rest → length two ≡ 2 → Pair ws two rest j
pair_cut ws left two rest j is cut long =
    let past : drop 2 left ≡ rest = ap (drop 2) cut ∙ drop_at two rest 2 long in
    let twice : 2 * j + 2 ≡ 2 * (j + 1) = omega arith in
    let at : (k : ℕ) → k < 2 → get_or two k 0 ≡ get_or ws (2 * j + k) 0 = λ k lt.
    sym (ap (λ l. get_or l k 0) cut ∙ get_or_append_left two rest 0 k (omega (arith, long))) ∙ ap (λ l. get_or l k 0) is ∙ get_or-drop (2 * j) ws k 0 in
    let none : 2 * j + 0 ≡ 2 * j = omega arith in record {
      inside = omega (arith, ap length is, ap length cut, length-append two rest, length-drop (2 * j) ws, long);
      high = at 0 (omega arith) ∙ ap (λ k. get_or ws k 0) none;
      low = at 1 (omega arith);
      behind = sym past ∙ ap (drop 2) is ∙ drop-drop 2 (2 * j) ws ∙ ap (λ k. drop k ws) twice;
    }
