-- Escaped text, byte after byte.
use Rattle.std.proofs.Common.{◌≡◌, ℕ, ◌+◌, ◌-◌, ◌/◌, ◌%◌, ◌^◌, ◌<◌, ◌≤◌, true, false, ◌⊎◌, List, [], ◌∷◌, ◌++◌, length, get_or, take, sym, refl, ap, ◌∙◌, inl, inr, arith, append_assoc, append-nil}
use Rattle.std.specs.Fmt.{HasWritten, digits, format_spec, char_count, padded_integral}
use Rattle.std.specs.declared.fmt.Formatter.{Formatter}
use Rattle.std.proofs.lemmas.Grind.{put_two}
use Rattle.std.proofs.lemmas.Bool.{cases_lt, lt-ltb, le-ltb}
use Rattle.std.proofs.lemmas.Fmt.{hex_one_digit, hex_two_digits}
use Rattle.std.proofs.lemmas.List.{take_more}
use Rattle.listing.specs.Escapes.{lead, escape, escaped, escaped_text}

-- the digits of a byte, at least one wide
abbrev shown : ℕ → List ℕ
shown b = padded_integral (format_spec 32 0 0 1 (2 ^ 64 - 1)) false [] (digits 16 true b)

-- the digits of a byte behind what stands before them
lead_digits : (b : ℕ) → b < 256 → lead b ++ shown b ≡ escape b
unfolding padded_integral char_count
lead_digits b byte = by (cases_lt b 16)
  where
    by : (b < 16) ⊎ (16 ≤ b) → lead b ++ shown b ≡ escape b
    by (inl l) =
        let none : b / 16 ≡ 0 = omega arith in
        let same : b % 16 ≡ b = omega arith in
        rw (lt-ltb b 16 l, hex_one_digit true b l, none, same)
    by (inr l) = rw (le-ltb b 16 l, hex_two_digits true b l byte)

-- what the two writes of an escape give
pub put_escape : {W : Type 0} (took : W → List ℕ → W → Type 0) (f g h : Formatter W) (b : ℕ) → b < 256 → HasWritten took f (lead b) g → HasWritten took g (shown b) h → HasWritten took f (escape b) h
put_escape took f g h b byte first second = put_two took f g h (lead b) (shown b) (escape b) first second (lead_digits b byte)

escaped_append : (xs ys : List ℕ) → escaped_text (xs ++ ys) ≡ escaped_text xs ++ escaped_text ys
escaped_append [] ys = refl
escaped_append (x ∷ xs) ys =
    ap (λ (t : List ℕ). escaped x ++ t) (escaped_append xs ys) ∙ sym (append_assoc (escaped x) (escaped_text xs) (escaped_text ys))

pub escaped_more : (bs : List ℕ) (i : ℕ) → i < length bs → escaped_text (take i bs) ++ escaped (get_or bs i 0) ≡ escaped_text (take (i + 1) bs)
escaped_more bs i h =
    ap (λ (t : List ℕ). escaped_text (take i bs) ++ t) (sym (append-nil (escaped (get_or bs i 0))))
    ∙ sym (escaped_append (take i bs) (get_or bs i 0 ∷ []))
    ∙ ap escaped_text (sym (take_more bs i 0 h))
