-- The rows of the frames, from what the frames' own tests find.
use Rattle.std.proofs.Common.{◌≡◌, ℕ, true, false, ◌⊎◌, Some, None, Option, sym, ◌∙◌, inl, inr}
use Rattle.std.proofs.lemmas.Bool.{true≢false, cases_Bool}
use Rattle.frames.specs.Lowest.{Lowest}
use Rattle.frames.specs.Raw.{Raw}
use Rattle.frames.specs.Form.{start_good, frame_good, BadStart, BadFrame}
use Rattle.table.specs.Rows.{starts, frames, Good, Answers}

good_start : (R : Raw) (i : ℕ) → (BadStart R i → ⊥) → Good R starts i
good_start R i f l = by (cases_Bool (start_good R i))
  where
    by : (start_good R i ≡ true) ⊎ (start_good R i ≡ false) → start_good R i ≡ true
    by (inl e) = e
    by (inr e) = absurd (f (l, e))

good_frame : (R : Raw) (i : ℕ) → (BadFrame R i → ⊥) → Good R frames i
good_frame R i f = by (cases_Bool (frame_good R i))
  where
    by : (frame_good R i ≡ true) ⊎ (frame_good R i ≡ false) → frame_good R i ≡ true
    by (inl e) = e
    by (inr e) = absurd (f e)

pub starts_answer : (R : Raw) (r : Option ℕ) → Lowest (BadStart R) r → Answers R starts r
starts_answer R (Some i) ((l, e), low) = record { applies = λ g. true≢false (sym (g l) ∙ e); lowest = λ j h. good_start R j (low j h) }
starts_answer R None low = λ j. good_start R j (low j)

pub frames_answer : (R : Raw) (r : Option ℕ) → Lowest (BadFrame R) r → Answers R frames r
frames_answer R (Some i) (e, low) = record { applies = λ g. true≢false (sym g ∙ e); lowest = λ j h. good_frame R j (low j h) }
frames_answer R None low = λ j. good_frame R j (low j)
