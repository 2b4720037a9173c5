-- The digits in front of a batch, as the text of a number.
use Rattle.std.proofs.Common.{◌≡◌, ℕ, zero, suc, ◌+◌, ◌^◌, ◌<◌, ◌≤◌, min, length, Bool, true, false, List, [], ◌∷◌, take, Some, None, Option, SomeIff, sym, refl, ◌∙◌, subst, arith}
use Rattle.std.specs.Option.{unwrap_or}
use Rattle.std.specs.Char.{is_ascii_digit, digit_value}
use Rattle.std.specs.List.{prefix_len}
use Rattle.std.specs.Str.{IsUtf8}
use Rattle.std.specs.Str.Parse.{AllDigits, digits_value}
use Rattle.std.proofs.lemmas.Bool.Decides.{nat_tests}
use Rattle.std.proofs.lemmas.Fmt.{IsAscii-from_digits}
use Rattle.std.proofs.lemmas.Str.{IsUtf8-from_ascii}
use Rattle.std.proofs.lemmas.Int.Digits.{digits_value-lt}
use Rattle.std.proofs.lemmas.List.{length-take-le}
use Rattle.std.proofs.lemmas.List.Sums.{prefix_len-le-length}
use Rattle.std.proofs.Math.Nat.{pow-le-pow_right}
use Rattle.batches.specs.Cases.{digits}

pub digits_are_text : (ds : List ℕ) → AllDigits 10 ds → IsUtf8 ds
digits_are_text ds h = IsUtf8-from_ascii ds (IsAscii-from_digits ds h)

is_digit : (c : ℕ) → is_ascii_digit c ≡ true → digit_value c < 10
is_digit c e = grind (arith, nat_tests)

-- the digits in front, as far as any number of them
front : (most : ℕ) (batch : List ℕ) → AllDigits 10 (take (min most (prefix_len is_ascii_digit batch)) batch)
front zero batch = let none : min 0 (prefix_len is_ascii_digit batch) ≡ 0 = omega arith in subst (λ k. AllDigits 10 (take k batch)) (sym none) tt
front (suc most) [] = let none : min (suc most) 0 ≡ 0 = omega arith in subst (λ k. AllDigits 10 (take k [])) (sym none) tt
front (suc most) (c ∷ cs) = by (is_ascii_digit c) refl (front most cs)
  where
    by : (t : Bool) → is_ascii_digit c ≡ t → AllDigits 10 (take (min most (prefix_len is_ascii_digit cs)) cs) → AllDigits 10 (take (min (suc most) (prefix_len is_ascii_digit (c ∷ cs))) (c ∷ cs))
    by true e more =
        let one : min (suc most) (1 + prefix_len is_ascii_digit cs) ≡ suc (min most (prefix_len is_ascii_digit cs)) = omega arith in
        rw e (subst (λ k. AllDigits 10 (take k (c ∷ cs))) (sym one) (is_digit c e, more))
    by false e more = let none : min (suc most) 0 ≡ 0 = omega arith in rw e (subst (λ k. AllDigits 10 (take k (c ∷ cs))) (sym none) tt)

pub all_digits : (batch : List ℕ) → AllDigits 10 (digits batch)
all_digits batch = front 9 batch

-- nine digits write a number that a length can be
pub short : (ds : List ℕ) → AllDigits 10 ds → length ds ≤ 9 → digits_value 10 ds < 2 ^ 64
short ds h few =
    let e : digits_value 10 ds < 10 ^ length ds = digits_value-lt 10 ds h in
    let up : 10 ^ length ds ≤ 10 ^ 9 = pow-le-pow_right {n = 10} (omega arith) {i = length ds} {j = 9} few in
    omega (arith, e, up)

pub counted : (batch : List ℕ) → min (prefix_len is_ascii_digit batch) 9 ≡ length (digits batch)
counted batch =
    let low = prefix_len-le-length is_ascii_digit batch in
    let e : min (prefix_len is_ascii_digit batch) 9 ≡ min 9 (prefix_len is_ascii_digit batch) = omega arith in
    e ∙ sym (length-take-le (min 9 (prefix_len is_ascii_digit batch)) batch (omega (arith, low)))

-- what is parsed of such digits, and 0 where there are none
pub written : (ds : List ℕ) (r : Option ℕ) → AllDigits 10 ds → length ds ≤ 9 → SomeIff r ((0 < length ds) × (digits_value 10 ds < 2 ^ 64)) (digits_value 10 ds)
    → unwrap_or r 0 ≡ digits_value 10 ds
written [] None h few none = refl
written (c ∷ cs) None h few none = absurd (none (omega arith, short (c ∷ cs) h few))
written ds (Some n) h few is = is.1
