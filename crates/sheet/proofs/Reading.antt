-- `scan` gives tokens that the relation names: each front that is found is one that the relation has, and what is left is shorter.
use Rattle.std.proofs.Common.{◌≡◌, ℕ, zero, suc, ◌+◌, ◌≤◌, List, [], ◌∷◌, length, take, drop, sym, refl, ap, ◌∙◌, subst, arith}
use Rattle.std.proofs.lemmas.List.{take-append-drop, length-take-le, length-drop}
use Rattle.byte_classes.specs.Classes.{class_of}
use Rattle.sheet.specs.Places.{Position, along}
use Rattle.sheet.specs.Reads.{Reads, at_end, skips, takes, breaks}
use Rattle.sheet.specs.Scan.{Front, Scanned, ending, gap, token, fault, front, line_after, column_after, go_on, scan_from}
use Rattle.sheet.proofs.Positions.{moved_blank, lexical_moves}
use Rattle.sheet.proofs.Sound.{Sound, class_sound}
use Rattle.sheet.proofs.Steps.{token_step}

abbrev ReadAs : List ℕ → Position → Scanned → Type 0
ReadAs s p m = Reads s p m.spots m.last

module _ (b : ℕ) (bs : List ℕ) (l c : ℕ) (rest : (s : List ℕ) (l c : ℕ) → length s ≤ length bs → ReadAs s (l, c) (scan_from 0 s l c)) where
  found : (f : Front) → front (b ∷ bs) ≡ f → scan_from 0 (b ∷ bs) l c ≡ go_on f (b ∷ bs) l c (λ k l c. scan_from k bs l c)
  found f e = ap (λ f. go_on f (b ∷ bs) l c (λ k l c. scan_from k bs l c)) e

  step : (f : Front) → front (b ∷ bs) ≡ f → Sound b bs f → ReadAs (b ∷ bs) (l, c) (scan_from 0 (b ∷ bs) l c)
  step ending e h = absurd h
  step gap e h =
      subst (ReadAs (b ∷ bs) (l, c)) (sym (found gap e))
      (skips (b ∷ bs) (l, c) b bs _ _ refl h
      (subst (λ p. ReadAs bs p (scan_from 0 bs l (c + 1))) (sym (moved_blank (l, c) b h)) (rest bs l (c + 1) (omega arith))))
  step (token kind n) e h =
      let s = b ∷ bs in
      let w = take n s in
      let long : length w ≡ n = length-take-le n s h.1 in
      let after : length (drop n s) ≤ length bs = omega (arith, length-drop n s, h.0) in
      let m = scan_from 0 (drop n s) (line_after kind l) (column_after kind n c) in
      let there : along (l, c) w ≡ (line_after kind l, column_after kind n c) =
      lexical_moves kind w (drop n s) h.2 (l, c) ∙ ap (λ k. (line_after kind l, column_after kind k c)) long in
      subst (ReadAs s (l, c)) (sym (token_step s l c kind n e h.0))
      (takes s (l, c) kind w (drop n s) m.spots m.last (sym (take-append-drop n s)) h.2
      (subst (λ p. ReadAs (drop n s) p m) (sym there) (rest (drop n s) (line_after kind l) (column_after kind n c) after)))
  step (fault f) e h = subst (ReadAs (b ∷ bs) (l, c)) (sym (found (fault f) e)) (breaks (b ∷ bs) (l, c) f h)

-- n bounds the length of the text
pub reads : (n : ℕ) (s : List ℕ) (l c : ℕ) → length s ≤ n → ReadAs s (l, c) (scan_from 0 s l c)
reads zero [] l c h = at_end [] (l, c) refl
reads (suc n) [] l c h = at_end [] (l, c) refl
reads zero (b ∷ bs) l c h = absurd (omega arith)
reads (suc n) (b ∷ bs) l c h =
    step b bs l c (λ s l c k. reads n s l c (omega arith)) (front (b ∷ bs)) refl (class_sound (class_of b) b bs refl)
