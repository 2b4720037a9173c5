-- Where n bytes stand before the first line end of a text, only the first n can be a frame that the text begins with: a shorter line
-- would have a line end behind it, a longer one a line end for a digit.
use Rattle.std.proofs.Common.{◌≡◌, ℕ, ◌+◌, ◌<◌, ◌≤◌, true, false, ◌⊎◌, List, ◌∷◌, ◌++◌, length, get_or, take, drop, sym, refl, ap, ◌∙◌, inl, inr, arith, length-append, length-drop}
use Rattle.std.proofs.lemmas.List.{get_or_at, get_or_append_left, take_at, take-append-drop, drop_more}
use Rattle.std.proofs.lemmas.Bool.{and_parts, both_ways, cases_lt}
use Rattle.load.specs.Digits.{is_digit}
use Rattle.load.specs.Fronts.{Unframed}
use Rattle.load.specs.Lines.{is_frame}
use Rattle.load.proofs.Values.{digit_at}

-- n bytes stand before the first line end
pub record Ends (text : List ℕ) (n : ℕ) : Type 0 where
  pub within : n ≤ length text
  pub inside : (k : ℕ) → k < n → get_or text k 0 ≡ 10 → ⊥
  pub closed : n < length text → get_or text n 0 ≡ 10

line_end_none : (b : ℕ) → is_digit b ≡ true → b ≡ 10 → ⊥
line_end_none b e is = let z : is_digit 10 ≡ true = ap is_digit (sym is) ∙ e in both_ways (is_digit 10) refl z

module _ (text : List ℕ) (n : ℕ) (ends : Ends text n) where
  module _ (line rest : List ℕ) (frame : is_frame line ≡ true) (whole : text ≡ line ++ 10 ∷ rest) where
    long : length line < length text
    long = omega (arith, simp length-append at (ap length whole))

    behind : n ≤ length line
    behind = by (cases_lt (length line) n)
      where
        by : (length line < n) ⊎ (n ≤ length line) → n ≤ length line
        by (inl lt) = absurd (ends.inside (length line) lt (ap (λ s. get_or s (length line) 0) whole ∙ get_or_at line 10 rest 0 (length line) refl))
        by (inr le) = le

    before : length line ≤ n
    before = by (cases_lt n (length line))
      where
        by : (n < length line) ⊎ (length line ≤ n) → length line ≤ n
        by (inl lt) =
            let at : get_or line n 0 ≡ 10 = sym (ap (λ s. get_or s n 0) whole ∙ get_or_append_left line (10 ∷ rest) 0 n lt) ∙ ends.closed (omega (arith, long)) in
            absurd (line_end_none (get_or line n 0) (digit_at line n (and_parts _ _ frame).1 lt) at)
        by (inr le) = le

    first : take n text ≡ line
    first = ap (take n) whole ∙ take_at line (10 ∷ rest) n (omega (arith, behind, before))

  pub cut_open : length text ≤ n → Unframed text
  cut_open all line rest frame whole = omega (arith, long line rest frame whole, behind line rest frame whole)

  pub cut_unfit : is_frame (take n text) ≡ false → Unframed text
  cut_unfit unfit line rest frame whole = both_ways (is_frame line) (sym (ap is_frame (first line rest frame whole)) ∙ unfit) frame

  pub cut_whole : n < length text → text ≡ take n text ++ 10 ∷ drop (n + 1) text
  cut_whole lt =
      sym (take-append-drop n text) ∙ ap (λ l. take n text ++ l) (drop_more text n 0 lt ∙ ap (λ b. b ∷ drop (n + 1) text) (ends.closed lt))

-- Cutting n bytes off finds what the text begins with: nothing where no byte is behind them, and else what the test of them says.
module _ (text : List ℕ) (n : ℕ) (ends : Ends text n) where
  pub cut_all : (behind : List ℕ) → behind ≡ drop n text → length behind ≡ 0 → Unframed text
  cut_all behind is none = cut_open text n ends (omega (arith, none, ap length is, length-drop n text))

  pub cut_none : (line : List ℕ) → line ≡ take n text → is_frame line ≡ false → Unframed text
  cut_none line front unfit = cut_unfit text n ends (ap is_frame (sym front) ∙ unfit)
