-- The relation names one answer: whatever it names at the front of a text is what `front` finds there, so that each way to read a
-- text is the way of `scan`.
use Rattle.std.proofs.Common.{◌≡◌, ℕ, suc, ◌+◌, ◌<◌, ◌≤◌, true, false, eqb, leb, List, [], ◌∷◌, ◌++◌, length, take, drop, sym, refl, ap, ◌∙◌, subst, append_assoc, one-add, arith, length-append}
use Rattle.std.specs.List.{prefix_len}
use Rattle.std.proofs.lemmas.List.{take_at, drop_at}
use Rattle.std.proofs.lemmas.Bool.{cond-true, cond-false, le-leb, lt-leb}
use Rattle.std.proofs.lemmas.Bool.Decides.{nat_tests}
use Rattle.byte_classes.specs.Classes.{class_of, letter, digit}
use Rattle.byte_classes.specs.Keywords.{keyword_of}
use Rattle.byte_classes.specs.declared.class.Class.TheVariants.{Letter, Digit}
use Rattle.source.specs.Meaning.{Last}
use Rattle.sheet.specs.Faults.{fault_number}
use Rattle.sheet.specs.Kinds.{mark_kind, word_kind}
use Rattle.sheet.specs.Places.{Position, place, moved, along}
use Rattle.sheet.specs.Reads.{Begins, Run, Lexical, Wrong, Reads, is_number, is_word, is_name, is_mark, is_line_end, is_comment, no_class, open_quote, long_number, long_word, at_end, skips, takes, breaks}
use Rattle.sheet.specs.Scan.{Spot, Scanned, token, fault, limited, closed, by_class, front, before, line_after, column_after, go_on, scan_from}
use Rattle.sheet.specs.Runs.{in_name, in_comment}
use Rattle.sheet.specs.declared.fault.ScanFault.{ScanFault}
use Rattle.sheet.specs.declared.fault.ScanFault.TheVariants.{NoClass, OpenQuote, Oversized}
use Rattle.sheet.proofs.Positions.{moved_blank, lexical_moves}
use Rattle.sheet.proofs.Runs.{leading_run}
use Rattle.sheet.proofs.Steps.{blank_class, token_step, fault_step}

letter_class : (b : ℕ) → letter b ≡ true → class_of b ≡ Letter
letter_class b e = grind (arith, nat_tests)

digit_class : (b : ℕ) → digit b ≡ true → class_of b ≡ Digit
digit_class b e = grind (arith, nat_tests)

-- a run that is not empty decides the class of the first byte
letters_front : (w rest : List ℕ) → Run letter w rest → 0 < length w → front (w ++ rest) ≡ limited (word_kind (keyword_of w)) (length w)
letters_front [] rest r some = absurd (omega arith)
letters_front (b ∷ w) rest r some =
    let s = (b ∷ w) ++ rest in
    ap (λ k. by_class k s) (letter_class b r.all.0)
    ∙ ap (λ n. limited (word_kind (keyword_of (take n s))) n) (leading_run letter (b ∷ w) rest r)
    ∙ ap (λ v. limited (word_kind (keyword_of v)) (length (b ∷ w))) (take_at (b ∷ w) rest (length (b ∷ w)) refl)

digits_front : (w rest : List ℕ) → Run digit w rest → 0 < length w → front (w ++ rest) ≡ limited 1 (length w)
digits_front [] rest r some = absurd (omega arith)
digits_front (b ∷ w) rest r some =
    ap (λ k. by_class k ((b ∷ w) ++ rest)) (digit_class b r.all.0) ∙ ap (limited 1) (leading_run digit (b ∷ w) rest r)

within : (kind n : ℕ) → n ≤ 32 → limited kind n ≡ token kind n
within kind n h = cond-true (leb n 32) (token kind n) (fault Oversized) (le-leb n 32 h)

beyond : (kind n : ℕ) → 32 < n → limited kind n ≡ fault Oversized
beyond kind n h = cond-false (leb n 32) (token kind n) (fault Oversized) (lt-leb n 32 h)

-- behind a quote and the bytes of a name
quote_front : (inner rest : List ℕ) → Run in_name inner rest → front (34 ∷ (inner ++ rest)) ≡ closed (length inner) rest
quote_front inner rest r =
    ap (λ n. closed n (drop n (inner ++ rest))) (leading_run in_name inner rest r)
    ∙ ap (closed (length inner)) (drop_at inner rest (length inner) refl)

comment_front_is : (inner rest : List ℕ) → Run in_comment inner rest → front (35 ∷ (inner ++ rest)) ≡ token 16 (suc (length inner))
comment_front_is inner rest r =
    ap (token 16) (one-add (prefix_len in_comment (inner ++ rest)) ∙ ap suc (leading_run in_comment inner rest r))

abbrev Found : ℕ → List ℕ → List ℕ → Type 0
Found kind w rest = (front (w ++ rest) ≡ token kind (length w)) × (0 < length w)

name_found : (inner rest : List ℕ) → Run in_name inner (34 ∷ rest) → Found 3 (34 ∷ (inner ++ 34 ∷ [])) rest
name_found inner rest r =
    let long : length inner + 2 ≡ length (34 ∷ (inner ++ 34 ∷ [])) = omega (arith, length-append inner (34 ∷ [])) in (
      ap (λ v. front (34 ∷ v)) (append_assoc inner (34 ∷ []) rest) ∙ quote_front inner (34 ∷ rest) r ∙ ap (token 3) long,
      omega arith,
    )

lexical_found : (kind : ℕ) (w rest : List ℕ) → Lexical kind w rest → Found kind w rest
lexical_found kind w rest (is_number k r some few) =
    subst (λ k. Found k w rest) (sym k) (digits_front w rest r some ∙ within 1 (length w) few, some)
lexical_found kind w rest (is_word k r some few) =
    subst (λ k. Found k w rest) (sym k) (letters_front w rest r some ∙ within (word_kind (keyword_of w)) (length w) few, some)
lexical_found kind w rest (is_name inner k e all) =
    subst (λ k. Found k w rest) (sym k)
    (subst (λ v. Found 3 v rest) (sym e) (name_found inner rest (record { all = all; longest = λ h. let z : ◌≡◌ {A = ℕ} 0 1 = cc in omega arith })))
lexical_found kind w rest (is_mark b m k e is) =
    subst (λ k. Found k w rest) (sym k) (subst (λ v. Found (mark_kind m) v rest) (sym e) (ap (λ j. by_class j (b ∷ rest)) is, omega arith))
lexical_found kind w rest (is_line_end k e) = subst (λ k. Found k w rest) (sym k) (subst (λ v. Found 15 v rest) (sym e) (refl, omega arith))
lexical_found kind w rest (is_comment inner k e r) =
    subst (λ k. Found k w rest) (sym k) (subst (λ v. Found 16 v rest) (sym e) (comment_front_is inner rest r, omega arith))

-- a fault goes by its number
same_fault : (f g : ScanFault) → fault_number f ≡ fault_number g → g ≡ f
same_fault NoClass NoClass e = refl
same_fault NoClass OpenQuote e = absurd (omega arith)
same_fault NoClass Oversized e = absurd (omega arith)
same_fault OpenQuote NoClass e = absurd (omega arith)
same_fault OpenQuote OpenQuote e = refl
same_fault OpenQuote Oversized e = absurd (omega arith)
same_fault Oversized NoClass e = absurd (omega arith)
same_fault Oversized OpenQuote e = absurd (omega arith)
same_fault Oversized Oversized e = refl

open_front : (n : ℕ) (rest : List ℕ) → (Begins (eqb 34) rest → ⊥) → closed n rest ≡ fault OpenQuote
open_front n [] h = refl
open_front n (b ∷ bs) h = cond-false (eqb b 34) (token 3 (n + 2)) (fault OpenQuote) (other b h)
  where
    other : (b : ℕ) → (eqb 34 b ≡ true → ⊥) → eqb b 34 ≡ false
    other b h = grind (arith, nat_tests)

wrong_found : (f : ScanFault) (s : List ℕ) → Wrong (fault_number f) s → front s ≡ fault f
wrong_found f s (no_class b rest k e is) =
    ap front e ∙ ap (λ j. by_class j (b ∷ rest)) is ∙ ap (λ g. fault g) (same_fault f NoClass k)
wrong_found f s (open_quote inner rest k e r h) =
    ap front e ∙ quote_front inner rest r ∙ open_front (length inner) rest h ∙ ap (λ g. fault g) (same_fault f OpenQuote k)
wrong_found f s (long_number w rest k e r h) =
    ap front e ∙ digits_front w rest r (omega arith) ∙ beyond 1 (length w) h ∙ ap (λ g. fault g) (same_fault f Oversized k)
wrong_found f s (long_word w rest k e r h) =
    ap front e ∙ letters_front w rest r (omega arith) ∙ beyond (word_kind (keyword_of w)) (length w) h ∙ ap (λ g. fault g) (same_fault f Oversized k)

abbrev scan_at : List ℕ → Position → Scanned
scan_at s p = scan_from 0 s p.0 p.1

pub alone : (s : List ℕ) (p : Position) (ts : List Spot) (l : Last ScanFault) → Reads s p ts l → scan_at s p ≡ record { spots = ts; last = l }
alone _ _ _ _ (at_end s p none) = ap (λ r. scan_at r p) none
alone _ _ _ _ (skips s p b rest ts l is white more) =
    ap (λ r. scan_at r p) is
    ∙ ap (λ k. go_on (by_class k (b ∷ rest)) (b ∷ rest) p.0 p.1 (λ k l c. scan_from k rest l c)) (blank_class b white)
    ∙ ap (scan_at rest) (sym (moved_blank p b white))
    ∙ alone rest (moved p b) ts l more
alone _ _ _ _ (takes s p kind w rest us l is lexical more) =
    let found = lexical_found kind w rest lexical in
    let spot : Spot = record { kind = kind; text = w; place = place p } in
    ap (λ r. scan_at r p) is
    ∙ token_step (w ++ rest) p.0 p.1 kind (length w) found.0 found.1
    ∙ ap (λ v. before (record { kind = kind; text = v; place = place p }) (scan_at (drop (length w) (w ++ rest)) (line_after kind p.0, column_after kind (length w) p.1))) (take_at w rest (length w) refl)
    ∙ ap (λ r. before spot (scan_at r (line_after kind p.0, column_after kind (length w) p.1))) (drop_at w rest (length w) refl)
    ∙ ap (λ q. before spot (scan_at rest q)) (sym (lexical_moves kind w rest lexical p))
    ∙ ap (before spot) (alone rest (along p w) us l more)
alone _ _ _ _ (breaks s p f wrong) = fault_step s p.0 p.1 f (wrong_found f s wrong)
