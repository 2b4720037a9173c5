-- Runs as the code counts them: on from a first byte that is known, or up to the byte that a search finds.
use Rattle.std.proofs.Common.{◌≡◌, ℕ, ◌+◌, ◌-◌, ◌<◌, ◌≤◌, Bool, true, false, not, ◌||◌, eqb, refl, List, [], ◌∷◌, Option, None, Some, length, get_or, take, drop, sym, ap, ◌∙◌, arith}
use Rattle.std.specs.List.{prefix_len}
use Rattle.std.specs.Option.{unwrap_or}
use Rattle.std.proofs.lemmas.List.{take_rest}
use Rattle.std.proofs.lemmas.List.Sums.{prefix_len_is, prefix_len-le-length}
use Rattle.std.proofs.lemmas.Bool.{cond-true, not_from_true, not_from_false}
use Rattle.memchr.specs.Find.{IsFirstByte, is_byte, is_byte3}
use Rattle.byte_classes.specs.Classes.{class_of, letter, digit, blank}
use Rattle.byte_classes.specs.declared.class.Class.TheVariants.{Letter, Digit, Blank}
use Rattle.sheet.specs.Runs.{in_name, in_comment}
use Rattle.sheet.proofs.Runs.{refused}
use Rattle.sheet.proofs.Sound.{letter_is, digit_is}
use Rattle.sheet.proofs.Steps.{class_blank}

from_first : (p : ℕ → Bool) (s : List ℕ) → 0 < length s → p (get_or s 0 0) ≡ true → 1 + prefix_len p (take (length s - 1) (drop 1 s)) ≡ prefix_len p s
from_first p [] some first = absurd (omega arith)
from_first p (b ∷ bs) some first =
    ap (λ r. 1 + prefix_len p r) (take_rest (b ∷ bs) 1) ∙ sym (cond-true (p b) (1 + prefix_len p bs) 0 first)

pub letters_from_first : (s : List ℕ) → 0 < length s → class_of (get_or s 0 0) ≡ Letter → 1 + prefix_len letter (take (length s - 1) (drop 1 s)) ≡ prefix_len letter s
letters_from_first s some first = from_first letter s some (letter_is (get_or s 0 0) first)

pub digits_from_first : (s : List ℕ) → 0 < length s → class_of (get_or s 0 0) ≡ Digit → 1 + prefix_len digit (take (length s - 1) (drop 1 s)) ≡ prefix_len digit s
digits_from_first s some first = from_first digit s some (digit_is (get_or s 0 0) first)

pub blanks_from_first : (s : List ℕ) → 0 < length s → class_of (get_or s 0 0) ≡ Blank → 1 + prefix_len blank (take (length s - 1) (drop 1 s)) ≡ prefix_len blank s
blanks_from_first s some first = from_first blank s some (class_blank (get_or s 0 0) first)

-- a search for what ends a run finds how long it is
up_to_found : (p test : ℕ → Bool) (s : List ℕ) → ((x : ℕ) → p x ≡ not (test x)) → (r : Option ℕ) → IsFirstByte test s r → unwrap_or r (length s) ≡ prefix_len p s
up_to_found p test s ends None none =
    sym (prefix_len_is p s (length s) 0 (omega arith)
    (λ k h. let x = get_or s k 0 in ends x ∙ not_from_false (test x) (refused (test x) (none k (omega arith) h)))
    (λ h. absurd (omega arith)))
up_to_found p test s ends (Some n) found =
    sym (prefix_len_is p s n 0 (omega (arith, found.0.high))
    (λ k h. let x = get_or s k 0 in ends x ∙ not_from_false (test x) (refused (test x) (found.0.before k (omega arith) h)))
    (λ h. let x = get_or s n 0 in ends x ∙ not_from_true (test x) found.1))

none_of : (a b c : Bool) → not (a || (b || c)) ≡ not ((a || b) || c)
none_of true b c = refl
none_of false b c = refl

pub name_up_to_found : (s : List ℕ) (r : Option ℕ) → IsFirstByte (is_byte3 34 35 10) s r → unwrap_or r (length s) ≡ prefix_len in_name s
name_up_to_found s r h = up_to_found in_name (is_byte3 34 35 10) s (λ x. none_of (eqb x 34) (eqb x 35) (eqb x 10)) r h

pub comment_up_to_found : (s : List ℕ) (r : Option ℕ) → IsFirstByte (is_byte 10) s r → unwrap_or r (length s) ≡ prefix_len in_comment s
comment_up_to_found s r h = up_to_found in_comment (is_byte 10) s (λ x. refl) r h

pub name_within : (s : List ℕ) (r : Option ℕ) → IsFirstByte (is_byte3 34 35 10) s r → unwrap_or r (length s) ≤ length s
name_within s r h = omega (arith, name_up_to_found s r h, prefix_len-le-length in_name s)

pub comment_within : (s : List ℕ) (r : Option ℕ) → IsFirstByte (is_byte 10) s r → unwrap_or r (length s) ≤ length s
comment_within s r h = omega (arith, comment_up_to_found s r h, prefix_len-le-length in_comment s)
