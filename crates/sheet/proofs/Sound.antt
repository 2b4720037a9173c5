-- What `front` finds is what the relation names: by the class of the first byte, the bytes of a token are a longest run, a closed
-- name, a mark, a line end or a comment, and a fault is one that the relation has.
use Rattle.std.proofs.Common.{◌≡◌, ℕ, zero, suc, ◌+◌, ◌<◌, ◌≤◌, Bool, true, false, eqb, leb, List, [], ◌∷◌, ◌++◌, length, take, drop, sym, refl, ap, ◌∙◌, subst, one-add, arith}
use native.Mathlib.Numerals.{add-two}
use Rattle.std.specs.List.{prefix_len}
use Rattle.std.proofs.lemmas.List.{take-append-drop, length-drop}
use Rattle.std.proofs.lemmas.List.Folds.{length-prefix_len}
use Rattle.std.proofs.lemmas.List.Sums.{prefix_len-le-length}
use Rattle.std.proofs.lemmas.Bool.{cond-true, cond_both, leb-true, leb-false, eqb-true}
use Rattle.std.proofs.lemmas.Bool.Decides.{nat_tests}
use Rattle.byte_classes.specs.Classes.{class_of, blank, letter, digit}
use Rattle.byte_classes.specs.Keywords.{keyword_of}
use Rattle.byte_classes.specs.declared.class.Class.{Class}
use Rattle.byte_classes.specs.declared.class.Class.TheVariants.{Letter, Digit, Blank, LineEnd, Mark, Quote, Hash, Other}
use Rattle.sheet.specs.Faults.{fault_number}
use Rattle.sheet.specs.Kinds.{word_kind}
use Rattle.sheet.specs.Reads.{Begins, Run, Lexical, Wrong, is_number, is_word, is_name, is_mark, is_line_end, is_comment, no_class, open_quote, long_number, long_word}
use Rattle.sheet.specs.Scan.{Front, ending, gap, token, fault, limited, closed, by_class}
use Rattle.sheet.specs.Runs.{in_name, in_comment}
use Rattle.sheet.specs.declared.fault.ScanFault.TheVariants.{OpenQuote, Oversized}
use Rattle.sheet.proofs.Runs.{run}
use Rattle.sheet.proofs.Steps.{class_blank}

-- what the relation says of a front
abbrev pub Sound : ℕ → List ℕ → Front → Type 0
Sound b bs ending = ⊥
Sound b bs gap = blank b ≡ true
Sound b bs (token kind n) = (0 < n) × (n ≤ length (b ∷ bs)) × Lexical kind (take n (b ∷ bs)) (drop n (b ∷ bs))
Sound b bs (fault f) = Wrong (fault_number f) (b ∷ bs)

pub letter_is : (b : ℕ) → class_of b ≡ Letter → letter b ≡ true
letter_is b e = grind (arith, nat_tests)

pub digit_is : (b : ℕ) → class_of b ≡ Digit → digit b ≡ true
digit_is b e = grind (arith, nat_tests)

line_end_is : (b : ℕ) → class_of b ≡ LineEnd → b ≡ 10
line_end_is b e = grind (arith, nat_tests)

quote_is : (b : ℕ) → class_of b ≡ Quote → b ≡ 34
quote_is b e = grind (arith, nat_tests)

hash_is : (b : ℕ) → class_of b ≡ Hash → b ≡ 35
hash_is b e = grind (arith, nat_tests)

-- a run that has a limit, within it or past it
limited_sound : (p : ℕ → Bool) (kind b : ℕ) (bs : List ℕ) → p b ≡ true → ((w rest : List ℕ) → w ≡ take (prefix_len p (b ∷ bs)) (b ∷ bs) → Run p w rest → 0 < length w → length w ≤ 32 → Lexical kind w rest) → ((w rest : List ℕ) → b ∷ bs ≡ w ++ rest → Run p w rest → 32 < length w → Wrong 21 (b ∷ bs)) → Sound b bs (limited kind (prefix_len p (b ∷ bs)))
limited_sound p kind b bs first lexical wrong =
    let s = b ∷ bs in
    let n = prefix_len p s in
    let some : 0 < n = subst (λ k. 0 < k) (sym (cond-true (p b) (1 + prefix_len p bs) 0 first)) (omega arith) in
    let long = length-prefix_len p s in
    cond_both (leb n 32) (token kind n) (fault Oversized) (Sound b bs)
    (λ h. (some, prefix_len-le-length p s, lexical (take n s) (drop n s) refl (run p s) (omega arith) (omega (arith, leb-true n 32 h))))
    (λ h. wrong (take n s) (drop n s) (sym (take-append-drop n s)) (run p s) (omega (arith, leb-false n 32 h)))

word_sound : (b : ℕ) (bs : List ℕ) → class_of b ≡ Letter → Sound b bs (by_class Letter (b ∷ bs))
word_sound b bs e =
    limited_sound letter (word_kind (keyword_of (take (prefix_len letter (b ∷ bs)) (b ∷ bs)))) b bs (letter_is b e)
    (λ w rest is. is_word (ap (λ v. word_kind (keyword_of v)) (sym is)))
    (λ w rest. long_word w rest refl)

number_sound : (b : ℕ) (bs : List ℕ) → class_of b ≡ Digit → Sound b bs (by_class Digit (b ∷ bs))
number_sound b bs e =
    limited_sound digit 1 b bs (digit_is b e) (λ w rest is. is_number refl) (λ w rest. long_number w rest refl)

-- a hash and the rest of the line
comment_sound : (bs : List ℕ) → Sound 35 bs (by_class Hash (35 ∷ bs))
comment_sound bs =
    let p = in_comment in
    let n = prefix_len p bs in
    subst (λ k. Sound 35 bs (token 16 k)) (sym (one-add n))
    (omega arith, omega (arith, prefix_len-le-length p bs), is_comment (take n bs) refl refl (run p bs))

take_next : (n : ℕ) (ys : List ℕ) (x : ℕ) (xs : List ℕ) → drop n ys ≡ x ∷ xs → take (suc n) ys ≡ take n ys ++ x ∷ []
take_next zero [] x xs e = absurd cc
take_next zero (y ∷ ys) x xs e = let same : y ≡ x = cc in ap (λ k. k ∷ []) same
take_next (suc n) [] x xs e = absurd cc
take_next (suc n) (y ∷ ys) x xs e = ap (λ w. y ∷ w) (take_next n ys x xs e)

apart : (x : ℕ) → eqb x 34 ≡ false → eqb 34 x ≡ true → ⊥
apart x h k = grind (arith, nat_tests)

-- a quote: what follows the bytes of the name closes it or not
name_sound : (bs q : List ℕ) → drop (prefix_len in_name bs) bs ≡ q → Sound 34 bs (closed (prefix_len in_name bs) q)
name_sound bs [] e =
    let n = prefix_len in_name bs in
    open_quote (take n bs) (drop n bs) refl (ap (λ w. 34 ∷ w) (sym (take-append-drop n bs))) (run in_name bs)
    (λ h. subst (Begins (eqb 34)) e h)
name_sound bs (x ∷ xs) e =
    let p = in_name in
    let n = prefix_len p bs in
    cond_both (eqb x 34) (token 3 (n + 2)) (fault OpenQuote) (Sound 34 bs)
    (λ h.
    let fits : n + 1 ≤ length bs = omega (arith, ap length e, length-drop n bs) in
    let is : x ≡ 34 = eqb-true x 34 h in
    let w : take (suc n) bs ≡ take n bs ++ 34 ∷ [] = take_next n bs x xs e ∙ ap (λ k. take n bs ++ k ∷ []) is in
    subst (λ k. Sound 34 bs (token 3 k)) (sym (add-two n))
    (omega arith, omega arith, is_name (take n bs) refl (ap (λ v. 34 ∷ v) w) (run p bs).all))
    (λ h.
    open_quote (take n bs) (drop n bs) refl (ap (λ w. 34 ∷ w) (sym (take-append-drop n bs))) (run p bs)
    (λ k. apart x h (subst (Begins (eqb 34)) e k)))

pub class_sound : (k : Class) (b : ℕ) (bs : List ℕ) → class_of b ≡ k → Sound b bs (by_class k (b ∷ bs))
class_sound Letter b bs e = word_sound b bs e
class_sound Digit b bs e = number_sound b bs e
class_sound Blank b bs e = class_blank b e
class_sound LineEnd b bs e = (omega arith, omega arith, is_line_end refl (ap (λ x. x ∷ []) (line_end_is b e)))
class_sound (Mark m) b bs e = (omega arith, omega arith, is_mark b m refl refl e)
class_sound Quote b bs e = subst (λ x. Sound x bs (by_class Quote (x ∷ bs))) (sym (quote_is b e)) (name_sound bs (drop (prefix_len in_name bs) bs) refl)
class_sound Hash b bs e = subst (λ x. Sound x bs (by_class Hash (x ∷ bs))) (sym (hash_is b e)) (comment_sound bs)
class_sound Other b bs e = no_class b bs refl refl e
