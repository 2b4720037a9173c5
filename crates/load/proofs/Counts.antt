-- The pass that counts, turn by turn: a frame cut off the rest moves from what is to be counted to what has been.
use Rattle.std.proofs.Common.{◌≡◌, ℕ, suc, ◌+◌, ◌/◌, ◌≤◌, true, eqb, List, [], ◌∷◌, ◌++◌, length, Ok, Err, Result, sym, refl, ap, ◌∙◌, arith, length-append}
use Rattle.std.proofs.lemmas.Bool.{cond-false, ne_eqb}
use Rattle.load.specs.declared.fault.LoadRefusal.TheVariants.{NotAFrame}
use Rattle.load.specs.declared.loading.Loaded.{Loaded}
use Rattle.load.specs.Digits.{bytes_of}
use Rattle.load.specs.Fronts.{Unframed}
use Rattle.load.specs.Lines.{lines, is_frame, before, frames_of, frames_in}
use Rattle.load.specs.Counts.{none, and_frame, counted, concluded}
use Rattle.load.specs.Loading.{joined}
use Rattle.load.proofs.Turns.{turn, stop}
use Rattle.load.proofs.Values.{bytes_length}

counted_before : (n : Loaded) (ws : List ℕ) (r : Result (List (List ℕ)) ℕ) → counted n (before (bytes_of ws) r) ≡ counted (and_frame n ws) r
counted_before n ws (Ok fs) =
    let x : n.frames + suc (length fs) ≡ n.frames + 1 + length fs = omega arith in
    let y : n.bytes + length (bytes_of ws ++ joined fs) ≡ n.bytes + length ws / 2 + length (joined fs) = simp length-append (omega (arith, bytes_length ws)) in
    λ i. Ok (record { frames = x i; bytes = y i })
counted_before n ws (Err line) = refl

counted_none : (n : Loaded) → Ok n ≡ counted n (Ok [])
counted_none n =
    let x : n.frames ≡ n.frames + 0 = omega arith in
    let y : n.bytes ≡ n.bytes + 0 = omega arith in
    λ i. Ok (record { frames = x i; bytes = y i })

-- the answer for the whole text is that for the rest, with what was counted so far
pub record Counting (text rest : List ℕ) (n : Loaded) : Type 0 where
  pub few : n.bytes + n.frames + length rest ≤ length text
  pub same : counted n (frames_of (n.frames + 1) (lines rest)) ≡ counted none (frames_in text)

pub count_none : (text : List ℕ) → Counting text text none
count_none text = record { few = omega arith; same = refl }

module _ (text rest : List ℕ) (n : Loaded) (h : Counting text rest n) where
  pub count_more : (ws behind : List ℕ) → is_frame ws ≡ true → rest ≡ ws ++ 10 ∷ behind → Counting text behind (and_frame n ws)
  count_more ws behind frame cut =
      let later = frames_of (n.frames + 1 + 1) (lines behind) in
      let here : frames_of (n.frames + 1) (lines rest) ≡ before (bytes_of ws) later = ap (λ s. frames_of (n.frames + 1) (lines s)) cut ∙ turn (n.frames + 1) ws behind frame in
      record {
        few = omega (arith, h.few, simp length-append at (ap length cut));
        same = sym (ap (counted n) here ∙ counted_before n ws later) ∙ h.same;
      }

  pub count_all : Unframed rest → concluded n (length rest) ≡ counted none (frames_in text)
  count_all unframed = by rest unframed ∙ h.same
    where
      by : (s : List ℕ) → Unframed s → concluded n (length s) ≡ counted n (frames_of (n.frames + 1) (lines s))
      by [] unframed = counted_none n
      by (b ∷ bs) unframed =
          cond-false (eqb (length (b ∷ bs)) 0) (Ok n) (Err (NotAFrame (n.frames + 1))) (ne_eqb (length (b ∷ bs)) 0 (λ e. omega arith))
          ∙ sym (ap (counted n) (stop (n.frames + 1) (b ∷ bs) (omega arith) unframed))
