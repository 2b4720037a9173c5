-- Counting byte by byte and adding a token's length come to one place: only a line end has the byte that begins a line.
use Rattle.std.proofs.Common.{◌≡◌, ℕ, ◌+◌, Bool, true, false, cond, eqb, List, [], ◌∷◌, ◌++◌, length, Some, None, Option, sym, refl, ap, ◌∙◌, subst, add-zero, arith}
use Rattle.std.specs.List.{AllByRecursion}
use Rattle.std.proofs.ByRecursion.{All-append, All-weaker}
use Rattle.std.proofs.lemmas.Bool.{cond-false}
use Rattle.std.proofs.lemmas.Bool.Decides.{nat_tests}
use Rattle.byte_classes.specs.Classes.{class_of, blank, letter, digit}
use Rattle.byte_classes.specs.declared.class.Class.TheVariants.{Mark}
use Rattle.byte_classes.specs.declared.class.Mark as mark
use Rattle.byte_classes.specs.declared.class.Mark.TheVariants.{Colon, Equals, Comma, Semicolon, Minus}
use Rattle.byte_classes.specs.declared.keyword.Keyword.{Keyword}
use Rattle.byte_classes.specs.declared.keyword.Keyword.TheVariants.{Zone, Curve, Set, From, To, Off}
use Rattle.byte_classes.specs.Keywords.{keyword_of}
use Rattle.sheet.specs.Kinds.{mark_kind, word_kind}
use Rattle.sheet.specs.Places.{Position, moved, along}
use Rattle.sheet.specs.Reads.{Lexical, is_number, is_word, is_name, is_mark, is_line_end, is_comment}
use Rattle.sheet.specs.Scan.{line_after, column_after}
use Rattle.sheet.specs.Runs.{in_name, in_comment}

pub along_append : (p : Position) (xs ys : List ℕ) → along p (xs ++ ys) ≡ along (along p xs) ys
along_append p [] ys = refl
along_append p (x ∷ xs) ys = along_append (moved p x) xs ys

-- a byte that is no line end
abbrev Plain : ℕ → Type 0
Plain b = eqb b 10 ≡ false

moved_plain : (p : Position) (b : ℕ) → Plain b → moved p b ≡ (p.0, p.1 + 1)
moved_plain p b e = cond-false (eqb b 10) (p.0 + 1, 1) (p.0, p.1 + 1) e

along_plain : (p : Position) (w : List ℕ) → AllByRecursion Plain w → along p w ≡ (p.0, p.1 + length w)
along_plain p [] h = λ i. (p.0, sym (add-zero p.1) i)
along_plain p (b ∷ w) h =
    let far : p.1 + 1 + length w ≡ p.1 + length (b ∷ w) = omega arith in
    ap (λ (q : Position). along q w) (moved_plain p b h.0)
    ∙ along_plain (p.0, p.1 + 1) w h.1
    ∙ (λ i. (p.0, far i))

blank_plain : (b : ℕ) → blank b ≡ true → Plain b
blank_plain b e = grind (arith, nat_tests)

pub moved_blank : (p : Position) (b : ℕ) → blank b ≡ true → moved p b ≡ (p.0, p.1 + 1)
moved_blank p b e = moved_plain p b (blank_plain b e)

letter_plain : (b : ℕ) → letter b ≡ true → Plain b
letter_plain b e = grind (arith, nat_tests)

digit_plain : (b : ℕ) → digit b ≡ true → Plain b
digit_plain b e = grind (arith, nat_tests)

name_plain : (b : ℕ) → in_name b ≡ true → Plain b
name_plain b e = grind (arith, nat_tests)

comment_plain : (b : ℕ) → in_comment b ≡ true → Plain b
comment_plain b e = grind (arith, nat_tests)

mark_plain : (b : ℕ) (m : mark.Mark) → class_of b ≡ Mark m → Plain b
mark_plain b m e = grind (arith, nat_tests)

mark_kind_is : (m : mark.Mark) → eqb (mark_kind m) 15 ≡ false
mark_kind_is Colon = refl
mark_kind_is Equals = refl
mark_kind_is Comma = refl
mark_kind_is Semicolon = refl
mark_kind_is Minus = refl

word_kind_is : (o : Option Keyword) → eqb (word_kind o) 15 ≡ false
word_kind_is None = refl
word_kind_is (Some Zone) = refl
word_kind_is (Some Curve) = refl
word_kind_is (Some Set) = refl
word_kind_is (Some From) = refl
word_kind_is (Some To) = refl
word_kind_is (Some Off) = refl

abbrev arrived : Bool → ℕ → Position → Position
arrived t n p = (cond t (p.0 + 1) p.0, cond t 1 (p.1 + n))

-- a token of plain bytes, whose kind is not that of the line end
plain_moves : (kind : ℕ) (w : List ℕ) (p : Position) → eqb kind 15 ≡ false → AllByRecursion Plain w → along p w ≡ arrived (eqb kind 15) (length w) p
plain_moves kind w p e h = along_plain p w h ∙ ap (λ t. arrived t (length w) p) (sym e)

abbrev Moves : ℕ → List ℕ → Position → Type 0
Moves kind w p = along p w ≡ (line_after kind p.0, column_after kind (length w) p.1)

pub lexical_moves : (kind : ℕ) (w rest : List ℕ) → Lexical kind w rest → (p : Position) → Moves kind w p
lexical_moves kind w rest (is_number k r some few) p =
    subst (λ k. Moves k w p) (sym k) (plain_moves 1 w p refl (All-weaker _ Plain digit_plain w r.all))
lexical_moves kind w rest (is_word k r some few) p =
    subst (λ k. Moves k w p) (sym k) (plain_moves (word_kind (keyword_of w)) w p (word_kind_is (keyword_of w)) (All-weaker _ Plain letter_plain w r.all))
lexical_moves kind w rest (is_name inner k e all) p =
    subst (λ k. Moves k w p) (sym k)
    (plain_moves 3 w p refl (subst (AllByRecursion Plain) (sym e) (refl, All-append Plain inner (34 ∷ []) (All-weaker _ Plain name_plain inner all) (refl, tt))))
lexical_moves kind w rest (is_mark b m k e is) p =
    subst (λ k. Moves k w p) (sym k) (plain_moves (mark_kind m) w p (mark_kind_is m) (subst (AllByRecursion Plain) (sym e) (mark_plain b m is, tt)))
lexical_moves kind w rest (is_line_end k e) p = subst (λ k. Moves k w p) (sym k) (subst (λ v. Moves 15 v p) (sym e) refl)
lexical_moves kind w rest (is_comment inner k e r) p =
    subst (λ k. Moves k w p) (sym k)
    (plain_moves 16 w p refl (subst (AllByRecursion Plain) (sym e) (refl, All-weaker _ Plain comment_plain inner r.all)))
