-- The lines of a text, one at a time: a line without line ends and the 0A behind it are the first line of the text; and the first
-- line of a text, if it is closed, stands at its front.
use Rattle.std.proofs.Common.{◌≡◌, ℕ, ◌+◌, ◌<◌, Bool, true, false, cond, eqb, List, [], ◌∷◌, ◌++◌, length, Err, refl, ap, ◌∙◌, arith}
use Rattle.std.proofs.lemmas.Bool.{and_parts, cond-true, cond-false, eqb-true}
use Rattle.std.proofs.lemmas.Bool.Decides.{nat_tests}
use Rattle.load.specs.Digits.{is_digit, all_digits, bytes_of}
use Rattle.load.specs.Fronts.{Unframed}
use Rattle.load.specs.Lines.{Line, closed, unclosed, onto, lines, is_frame, before, frames_of}

digit_inside : (b : ℕ) → is_digit b ≡ true → eqb b 10 ≡ false
digit_inside b e = grind (arith, nat_tests)

digits_line : (ws rest : List ℕ) → all_digits ws ≡ true → lines (ws ++ 10 ∷ rest) ≡ closed ws ∷ lines rest
digits_line [] rest e = refl
digits_line (b ∷ ws) rest e =
    let parts = and_parts (is_digit b) _ e in
    cond-false (eqb b 10) _ _ (digit_inside b parts.0) ∙ ap (onto b) (digits_line ws rest parts.1)

-- a frame with its line end is the first line
pub frame_line : (ws rest : List ℕ) → is_frame ws ≡ true → lines (ws ++ 10 ∷ rest) ≡ closed ws ∷ lines rest
frame_line ws rest e = digits_line ws rest (and_parts _ _ e).1

-- and the first of the frames
pub turn : (n : ℕ) (ws rest : List ℕ) → is_frame ws ≡ true → frames_of n (lines (ws ++ 10 ∷ rest)) ≡ before (bytes_of ws) (frames_of (n + 1) (lines rest))
turn n ws rest e = ap (frames_of n) (frame_line ws rest e) ∙ cond-true (is_frame ws) _ _ e

-- the text begins with this line and its line end, and has those lines behind
pub record Begins (text l : List ℕ) (ls : List Line) : Type 0 where
  pub rest : List ℕ
  pub whole : text ≡ l ++ 10 ∷ rest
  pub next : lines rest ≡ ls

pub begins : (text l : List ℕ) (ls : List Line) → lines text ≡ closed l ∷ ls → Begins text l ls
begins [] l ls e = cc
begins (b ∷ bs) l ls e = by (eqb b 10) refl (lines bs) refl (begins bs) e
  where
    by : (t : Bool) → eqb b 10 ≡ t → (ms : List Line) → lines bs ≡ ms → ((k : List ℕ) (ks : List Line) → lines bs ≡ closed k ∷ ks → Begins bs k ks) → cond t (closed [] ∷ ms) (onto b ms) ≡ closed l ∷ ls → Begins (b ∷ bs) l ls
    by true t ms m below e1 = let is : b ≡ 10 = eqb-true b 10 t in record { rest = bs; whole = cc; next = cc }
    by false t [] m below e1 = cc
    by false t (closed k ∷ ks) m below e1 =
        let more = below k ks m in
        let w : bs ≡ k ++ 10 ∷ more.rest = more.whole in
        let is : b ∷ k ≡ l = cc in
        record { rest = more.rest; whole = ap (λ v. b ∷ v) w ∙ ap (λ v. v ++ 10 ∷ more.rest) is; next = cc more.next }
    by false t (unclosed k ∷ ks) m below e1 = cc

pub some_line : (b : ℕ) (bs : List ℕ) → lines (b ∷ bs) ≡ [] → ⊥
some_line b bs e = by (eqb b 10) (lines bs) e
  where
    by : (t : Bool) (ms : List Line) → cond t (closed [] ∷ ms) (onto b ms) ≡ [] → ⊥
    by true ms e1 = cc
    by false [] e1 = cc
    by false (closed k ∷ ks) e1 = cc
    by false (unclosed k ∷ ks) e1 = cc

-- a text that is not empty and does not begin with a frame is broken in its first line
pub stop : (n : ℕ) (text : List ℕ) → 0 < length text → Unframed text → frames_of n (lines text) ≡ Err n
stop n [] some h = absurd (omega arith)
stop n (b ∷ bs) some h = by (lines (b ∷ bs)) refl
  where
    by : (ls : List Line) → lines (b ∷ bs) ≡ ls → frames_of n ls ≡ Err n
    by [] e = absurd (some_line b bs e)
    by (unclosed l ∷ ls) e = refl
    by (closed l ∷ ls) e = test (is_frame l) refl
      where
        test : (t : Bool) → is_frame l ≡ t → cond t (before (bytes_of l) (frames_of (n + 1) ls)) (Err n) ≡ Err n
        test true t = let found = begins (b ∷ bs) l ls e in absurd (h l found.rest t found.whole)
        test false t = refl
