-- The frames of a text by the definition and by the relation. Lines that are frames are read one after the other, so what the
-- relation says of a text is what the definition gives for it; and what the definition gives, line by line, the relation says.
use Rattle.std.proofs.Common.{◌≡◌, ℕ, suc, ◌+◌, ◌%◌, ◌<◌, Bool, true, false, cond, eqb, leb, List, [], ◌∷◌, ◌++◌, map, length, Ok, Err, Result, sym, refl, ap, ◌∙◌, subst, append_assoc, arith}
use Rattle.std.specs.List.{AllByRecursion}
use Rattle.std.proofs.lemmas.Bool.{and_from, and_parts, both_ways, eq-eqb, eqb-true, le-leb, leb-true}
use Rattle.load.specs.Digits.{is_digit, all_digits, bytes_of}
use Rattle.load.specs.Frames.{Frame, text_of, Framed, Broken, Reads, TextLaw}
use Rattle.load.specs.Fronts.{Unframed}
use Rattle.load.specs.Lines.{Line, closed, unclosed, lines, is_frame, before, frames_of, frames_in}
use Rattle.load.proofs.Turns.{Begins, begins, frame_line, some_line, turn, stop}

-- a frame by the test and in words
all_pass : (ws : List ℕ) → AllByRecursion (λ b. is_digit b ≡ true) ws → all_digits ws ≡ true
all_pass [] h = refl
all_pass (b ∷ ws) h = and_from (is_digit b) (all_digits ws) h.0 (all_pass ws h.1)

each_passes : (ws : List ℕ) → all_digits ws ≡ true → AllByRecursion (λ b. is_digit b ≡ true) ws
each_passes [] e = tt
each_passes (b ∷ ws) e = let parts = and_parts (is_digit b) (all_digits ws) e in (parts.0, each_passes ws parts.1)

module _ (ws : List ℕ) where
  pub frame_test : Frame ws → is_frame ws ≡ true
  frame_test f =
      and_from _ (all_digits ws)
      (and_from _ (eqb (length ws % 2) 0) (and_from (leb 2 (length ws)) (leb (length ws) 8192) (le-leb _ _ f.some) (le-leb _ _ f.few)) (eq-eqb _ _ f.even))
      (all_pass ws f.digits)

  pub test_frame : is_frame ws ≡ true → Frame ws
  test_frame e =
      let parts = and_parts _ (all_digits ws) e in
      let sizes = and_parts _ (eqb (length ws % 2) 0) parts.0 in
      let bounds = and_parts (leb 2 (length ws)) (leb (length ws) 8192) sizes.0 in
      record { some = leb-true _ _ bounds.0; few = leb-true _ _ bounds.1; even = eqb-true _ _ sizes.1; digits = each_passes ws parts.1 }

-- the definition gives what the relation says
framed_is : (n : ℕ) (ls : List (List ℕ)) → AllByRecursion Frame ls → frames_of n (lines (text_of ls)) ≡ Ok (map bytes_of ls)
framed_is n [] each = refl
framed_is n (l ∷ ls) each =
    turn n l (text_of ls) (frame_test l each.0) ∙ ap (before (bytes_of l)) (framed_is (n + 1) ls each.1)

broken_is : (n : ℕ) (ls : List (List ℕ)) (rest : List ℕ) → AllByRecursion Frame ls → 0 < length rest → Unframed rest → frames_of n (lines (text_of ls ++ rest)) ≡ Err (length ls + n)
broken_is n [] rest each some none = stop n rest some none ∙ ap (λ k. Err k) (let e : n ≡ 0 + n = omega arith in e)
broken_is n (l ∷ ls) rest each some none =
    let e : length ls + (n + 1) ≡ suc (length ls) + n = omega arith in
    ap (λ s. frames_of n (lines s)) (append_assoc l (10 ∷ text_of ls) rest)
    ∙ turn n l (text_of ls ++ rest) (frame_test l each.0)
    ∙ ap (before (bytes_of l)) (broken_is (n + 1) ls rest each.1 some none)
    ∙ ap (λ k. Err k) e

alone : (text : List ℕ) (r : Result (List (List ℕ)) ℕ) → Reads text r → frames_in text ≡ r
alone text (Ok frames) f = ap frames_in f.whole ∙ framed_is 1 f.lines f.each ∙ ap (λ fs. Ok fs) (sym f.bytes)
alone text (Err n) f =
    ap frames_in f.whole
    ∙ broken_is 1 f.lines f.rest f.each f.more (λ line behind frame whole. f.none line behind (test_frame line frame) whole)
    ∙ ap (λ k. Err k) (sym f.number)

-- what the relation says of a text whose first line has the number n
abbrev Found : ℕ → List ℕ → Result (List (List ℕ)) ℕ → Type 0
Found n text (Ok frames) = Framed text frames
Found n text (Err k) = (m : ℕ) × (k ≡ m + n) × Broken text (m + 1)

-- a frame before it
found_before : (n : ℕ) (l rest text : List ℕ) → Frame l → text ≡ l ++ 10 ∷ rest → (r : Result (List (List ℕ)) ℕ) → Found (n + 1) rest r → Found n text (before (bytes_of l) r)
found_before n l rest text frame whole (Ok fs) f = record {
  lines = l ∷ f.lines;
  whole = whole ∙ ap (λ s. l ++ 10 ∷ s) f.whole;
  each = (frame, f.each);
  bytes = ap (λ fs. bytes_of l ∷ fs) f.bytes;
}
found_before n l rest text frame whole (Err k) f =
    let b = f.2 in
    let long : f.0 + 1 ≡ length b.lines + 1 = b.number in (
      f.0 + 1,
      omega (arith, f.1),
      record {
        lines = l ∷ b.lines;
        rest = b.rest;
        whole = whole ∙ ap (λ s. l ++ 10 ∷ s) b.whole ∙ sym (append_assoc l (10 ∷ text_of b.lines) b.rest);
        each = (frame, b.each);
        number = omega arith;
        more = b.more;
        none = b.none;
      },
    )

some_text : (text : List ℕ) (l : Line) (ls : List Line) → lines text ≡ l ∷ ls → 0 < length text
some_text [] l ls e = cc
some_text (b ∷ bs) l ls e = omega arith

-- the first line is no frame
found_broken : (n : ℕ) (text : List ℕ) → 0 < length text → ((line behind : List ℕ) → Frame line → text ≡ line ++ 10 ∷ behind → ⊥) → Found n text (Err n)
found_broken n text some none = (
  0,
  (let e : n ≡ 0 + n = omega arith in e),
  record { lines = []; rest = text; whole = refl; each = tt; number = refl; more = some; none = none },
)

found : (n : ℕ) (ms : List Line) (text : List ℕ) → lines text ≡ ms → Found n text (frames_of n ms)
found n [] [] e = record { lines = []; whole = refl; each = tt; bytes = refl }
found n [] (b ∷ bs) e = absurd (some_line b bs e)
found n (unclosed l ∷ ms) text e =
    found_broken n text (some_text text (unclosed l) ms e)
    (λ line behind frame whole.
    let first : lines text ≡ closed line ∷ lines behind = ap lines whole ∙ frame_line line behind (frame_test line frame) in
    cc)
found n (closed l ∷ ms) text e =
    let first = begins text l ms e in
    by (is_frame l) refl first (found (n + 1) ms first.rest first.next)
  where
    by : (t : Bool) → is_frame l ≡ t → (first : Begins text l ms) → Found (n + 1) first.rest (frames_of (n + 1) ms) → Found n text (cond t (before (bytes_of l) (frames_of (n + 1) ms)) (Err n))
    by true t first more = found_before n l first.rest text (test_frame l t) first.whole (frames_of (n + 1) ms) more
    by false t first more =
        found_broken n text (some_text text (closed l) ms e)
        (λ line behind frame whole.
        let other : lines text ≡ closed line ∷ lines behind = ap lines whole ∙ frame_line line behind (frame_test line frame) in
        let same : l ≡ line = cc in
        both_ways (is_frame l) t (ap is_frame same ∙ frame_test line frame))

pub reads : (text : List ℕ) → Reads text (frames_in text)
reads text = by (frames_in text) (found 1 (lines text) text refl)
  where
    by : (r : Result (List (List ℕ)) ℕ) → Found 1 text r → Reads text r
    by (Ok fs) f = f
    by (Err k) f = subst (Broken text) (sym f.1) f.2

pub text_law : (text : List ℕ) → TextLaw text (frames_in text)
text_law text = record { reads = reads text; alone = alone text }
