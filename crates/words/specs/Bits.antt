-- Bits of a number.
use Rattle.std.specs.Prelude.{◌≡◌, ℕ, zero, suc, ◌+◌, ◌*◌, ◌/◌, ◌%◌, ◌^◌, ◌<◌, ◌≤◌, Bool, true, false, cond, ◌&&◌, ◌||◌, eqb, ◌==◌, nat_lt, refl}
use Rattle.std.proofs.Common.{min, max, sym, ap, ◌∙◌, arith}
use Rattle.std.proofs.Math.Nat.{pow-succ'}
use Rattle.std.specs.Int.Bits.{bit_and, bit_or}
use Rattle.std.specs.Int.{bit_at}
use Rattle.std.proofs.lemmas.Nat.Bits.{bit_at_lowest, bit_at-suc, bit_at-lt, bit_at_above, bit_at_or, bit_at_and, same_from_bits_below}
use Rattle.std.proofs.lemmas.Bool.{eqb-true, eqb-false, eq-eqb, ne_eqb}
use Rattle.words.specs.Codes.{width, bit, mask}

-- Bit 0 is the last digit.
pub bit_low : (x : ℕ) → bit x 0 ≡ (x % 2 == 1)
bit_low x = ap (λ y. eqb y 1) (bit_at_lowest x)

-- The other bits are those of the half.
pub bit_half : (x b : ℕ) → bit x (suc b) ≡ bit (x / 2) b
bit_half x b = ap (λ y. eqb y 1) (bit_at-suc x b)

-- A row of n bits is below 2 ^ n.
pub mask_lt : (g : ℕ → Bool) (n : ℕ) → mask g n < 2 ^ n
mask_lt g zero = omega arith
mask_lt g (suc n) =
    let h = mask_lt (λ b. g (suc b)) n in
    let p = pow-succ' 2 n in
    elim (g 0) as (λ v. cond v 1 0 + 2 * mask (λ b. g (suc b)) n < 2 ^ suc n) [ true ↦ omega arith | false ↦ omega arith ]

-- Its bits are those that it was made of.
pub bit_mask : (g : ℕ → Bool) (n b : ℕ) → b < n → bit (mask g n) b ≡ g b
bit_mask g zero b h = absurd (omega arith)
bit_mask g (suc n) zero h =
    let m = mask (λ b. g (suc b)) n in
    bit_low (cond (g 0) 1 0 + 2 * m)
    ∙ elim (g 0) as (λ v. ((cond v 1 0 + 2 * m) % 2 == 1) ≡ v)
    [ true ↦ eq-eqb ((1 + 2 * m) % 2) 1 (omega arith) | false ↦ ne_eqb ((0 + 2 * m) % 2) 1 (λ e. omega arith) ]
bit_mask g (suc n) (suc b) h =
    let m = mask (λ b. g (suc b)) n in
    let half : (cond (g 0) 1 0 + 2 * m) / 2 ≡ m = elim (g 0) as (λ v. (cond v 1 0 + 2 * m) / 2 ≡ m) [ true ↦ omega arith | false ↦ omega arith ] in
    bit_half (cond (g 0) 1 0 + 2 * m) b ∙ ap (λ y. bit y b) half ∙ bit_mask (λ c. g (suc c)) n b (omega arith)

-- Digits with the same bit are equal.
same_digit : (x y : ℕ) → x < 2 → y < 2 → (x == 1) ≡ (y == 1) → x ≡ y
same_digit x y hx hy e = go (x == 1) refl
  where
    go : (v : Bool) → (x == 1) ≡ v → x ≡ y
    go true p = let a = eqb-true x 1 p in let b = eqb-true y 1 (sym e ∙ p) in omega arith
    go false p = let a = eqb-false x 1 p in let b = eqb-false y 1 (sym e ∙ p) in omega arith

-- Numbers of n bits with the same bits are equal.
pub same_bits : (n x y : ℕ) → x < 2 ^ n → y < 2 ^ n → ((b : ℕ) → b < n → bit x b ≡ bit y b) → x ≡ y
same_bits n x y hx hy e =
    same_from_bits_below n x y hx hy (λ b h. same_digit (bit_at x b) (bit_at y b) (bit_at-lt x b) (bit_at-lt y b) (e b h))

-- A number of n bits has no bit from n on.
pub bit_past : (n x b : ℕ) → x < 2 ^ n → n ≤ b → bit x b ≡ false
bit_past n x b hx h = ap (λ y. eqb y 1) (bit_at_above x n b hx h)

-- Or, at a digit.
or_digit : (x y : ℕ) → x < 2 → y < 2 → (max x y == 1) ≡ (x == 1 || y == 1)
or_digit zero zero hx hy = refl
or_digit zero (suc zero) hx hy = refl
or_digit zero (suc (suc y)) hx hy = absurd (omega arith)
or_digit (suc zero) zero hx hy = refl
or_digit (suc zero) (suc zero) hx hy = refl
or_digit (suc zero) (suc (suc y)) hx hy = absurd (omega arith)
or_digit (suc (suc x)) y hx hy = absurd (omega arith)

-- Or, at a bit.
pub bit_or_lem : (x y b : ℕ) → bit (bit_or x y) b ≡ (bit x b || bit y b)
bit_or_lem x y b = ap (λ z. eqb z 1) (bit_at_or x y b) ∙ or_digit (bit_at x b) (bit_at y b) (bit_at-lt x b) (bit_at-lt y b)

-- And, at a digit.
and_digit : (x y : ℕ) → x < 2 → y < 2 → (min x y == 1) ≡ (x == 1 && y == 1)
and_digit zero zero hx hy = refl
and_digit zero (suc zero) hx hy = refl
and_digit zero (suc (suc y)) hx hy = absurd (omega arith)
and_digit (suc zero) zero hx hy = refl
and_digit (suc zero) (suc zero) hx hy = refl
and_digit (suc zero) (suc (suc y)) hx hy = absurd (omega arith)
and_digit (suc (suc x)) y hx hy = absurd (omega arith)

-- And, at a bit.
pub bit_and_lem : (x y b : ℕ) → bit (bit_and x y) b ≡ (bit x b && bit y b)
bit_and_lem x y b = ap (λ z. eqb z 1) (bit_at_and x y b) ∙ and_digit (bit_at x b) (bit_at y b) (bit_at-lt x b) (bit_at-lt y b)

-- Each row has a bit.
pub width_pos : (k a : ℕ) → 0 < width k a
width_pos k zero = omega arith
width_pos k (suc a) = elim (nat_lt k 2) as (λ z. 0 < cond z 1 21) [ true ↦ omega arith | false ↦ omega arith ]

-- No row has more than 21.
pub width_most : (k a : ℕ) → width k a ≤ 21
width_most k zero = omega arith
width_most k (suc a) = elim (nat_lt k 2) as (λ z. cond z 1 21 ≤ 21) [ true ↦ omega arith | false ↦ omega arith ]
