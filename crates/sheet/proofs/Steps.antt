-- The tokens of a text, step by step: what stands at its front is given first, and what is left behind it comes after. Blanks only
-- move the column.
use Rattle.std.proofs.Common.{◌≡◌, ℕ, zero, suc, ◌+◌, ◌-◌, ◌<◌, Bool, true, false, cond, List, [], ◌∷◌, length, take, drop, sym, refl, ap, ◌∙◌, add-zero, one-add, arith, Ok, Err}
use Rattle.std.specs.List.{prefix_len}
use Rattle.std.proofs.lemmas.List.{take_rest}
use Rattle.std.proofs.lemmas.Bool.Decides.{nat_tests}
use Rattle.byte_classes.specs.Classes.{class_of, blank}
use Rattle.byte_classes.specs.declared.class.Class.TheVariants.{Blank}
use Rattle.source.specs.Meaning.{ends, faults}
use Rattle.source.specs.declared.token.Place.{Place}
use Rattle.source.specs.declared.token.Place.TheVariants.{Two}
use Rattle.sheet.specs.Lexemes.{kind_of, text_of}
use Rattle.sheet.specs.Pieces.{Cut}
use Rattle.sheet.specs.Scan.{Scanned, token, fault, by_class, front, before, only, line_after, column_after, go_on, scan_from}
use Rattle.sheet.specs.Scanners.{spot_of}
use Rattle.sheet.specs.declared.fault.ScanFault.{ScanFault}
use Rattle.sheet.specs.declared.lexeme.Lexeme.{Lexeme}

-- what belongs to the token before is passed over
pub inside : (k : ℕ) (bs : List ℕ) (line column : ℕ) → scan_from k bs line column ≡ scan_from 0 (drop k bs) line column
inside zero [] line column = refl
inside (suc k) [] line column = refl
inside zero (b ∷ bs) line column = refl
inside (suc k) (b ∷ bs) line column = inside k bs line column

-- a token first, and then what its bytes leave
pub token_step : (s : List ℕ) (line column kind len : ℕ) → front s ≡ token kind len → 0 < len → scan_from 0 s line column ≡ before (record { kind = kind; text = take len s; place = Two line column }) (scan_from 0 (drop len s) (line_after kind line) (column_after kind len column))
token_step [] line column kind len e some = absurd cc
token_step (b ∷ bs) line column kind zero e some = absurd (omega arith)
token_step (b ∷ bs) line column kind (suc n) e some =
    let back : suc n - 1 ≡ n = omega arith in
    ap (λ f. go_on f (b ∷ bs) line column (λ k l c. scan_from k bs l c)) e
    ∙ ap (before (record { kind = kind; text = take (suc n) (b ∷ bs); place = Two line column })) (ap (λ k. scan_from k bs (line_after kind line) (column_after kind (suc n) column)) back ∙ inside n bs _ _)

pub fault_step : (s : List ℕ) (line column : ℕ) (f : ScanFault) → front s ≡ fault f → scan_from 0 s line column ≡ only (faults (record { fault = f; place = Two line column }))
fault_step [] line column f e = absurd cc
fault_step (b ∷ bs) line column f e = ap (λ g. go_on g (b ∷ bs) line column (λ k l c. scan_from k bs l c)) e

pub blank_class : (b : ℕ) → blank b ≡ true → class_of b ≡ Blank
blank_class b e = grind (arith, nat_tests)

pub class_blank : (b : ℕ) → class_of b ≡ Blank → blank b ≡ true
class_blank b e = grind (arith, nat_tests)

-- blanks only move the column
pub blanks_step : (s : List ℕ) (line column : ℕ) → scan_from 0 s line column ≡ scan_from 0 (drop (prefix_len blank s) s) line (column + prefix_len blank s)
blanks_step [] line column = ap (λ c. only (ends (Two line c))) (sym (add-zero column))
blanks_step (b ∷ bs) line column = by (blank b) refl (blanks_step bs line (column + 1))
  where
    n : ℕ
    n = prefix_len blank bs

    Goal : Bool → Type 0
    Goal t = scan_from 0 (b ∷ bs) line column ≡ scan_from 0 (drop (cond t (1 + n) 0) (b ∷ bs)) line (column + cond t (1 + n) 0)

    by : (t : Bool) → blank b ≡ t → scan_from 0 bs line (column + 1) ≡ scan_from 0 (drop n bs) line (column + 1 + n) → Goal t
    by true e more =
        let far : column + 1 + n ≡ column + (1 + n) = omega arith in
        ap (λ c. go_on (by_class c (b ∷ bs)) (b ∷ bs) line column (λ k l c. scan_from k bs l c)) (blank_class b e)
        ∙ more
        ∙ ap (scan_from 0 (drop n bs) line) far
        ∙ ap (λ k. scan_from 0 (drop k (b ∷ bs)) line (column + (1 + n))) (sym (one-add n))
    by false e more = ap (scan_from 0 (b ∷ bs) line) (sym (add-zero column))

-- the blanks at the front are passed
pub passes : (s : List ℕ) (line column n : ℕ) → n ≡ prefix_len blank s → scan_from 0 (take (length s - n) (drop n s)) line (column + n) ≡ scan_from 0 s line column
passes s line column n all =
    ap (λ r. scan_from 0 r line (column + n)) (take_rest s n)
    ∙ ap (λ k. scan_from 0 (drop k s) line (column + k)) all
    ∙ sym (blanks_step s line column)

-- the first lexeme, and what is left behind its bytes
pub gives_lexeme : (m : Scanned) (s : List ℕ) (line column : ℕ) (x : Lexeme) (p : Place) (len line' column' : ℕ) → scan_from 0 s line column ≡ m → Cut (front s) s (Ok x) → p ≡ Two line column → len ≡ length (text_of x) → line' ≡ line_after (kind_of x) line → column' ≡ column_after (kind_of x) len column → m ≡ before (spot_of (record { lexeme = x; place = p })) (scan_from 0 (take (length s - len) (drop len s)) line' column')
gives_lexeme m s line column x p len line' column' same cut here long below beside =
    let step = token_step s line column (kind_of x) (length (text_of x)) (sym cut.shaped) cut.part.1 in
    let rest = take_rest s len in
    let text = cut.part.0 in
    sym same ∙ cc

pub gives_fault : (s : List ℕ) (line column : ℕ) (f : ScanFault) → Cut (front s) s (Err f) → scan_from 0 s line column ≡ only (faults (record { fault = f; place = Two line column }))
gives_fault s line column f cut = fault_step s line column f (sym cut.shaped)
