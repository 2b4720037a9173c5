-- A table whose frames are good up to the one behind the last that it should have is good throughout.
use Rattle.std.proofs.Common.{◌≡◌, ℕ, ◌+◌, ◌<◌, ◌≤◌, Bool, true, false, leb, ◌⊎◌, sym, ◌∙◌, inl, inr, Some, None, Option, arith}
use Rattle.std.proofs.lemmas.Bool.{true≢false, cases_lt, cond-false, le-ltb, lt-leb, leb-false}
use Rattle.frames.specs.Raw.{Raw}
use Rattle.frames.specs.Form.{needed, frame_good, BadFrame}
use Rattle.std.specs.Option.{MatchOption}
use Rattle.frames.specs.Lowest.{Lowest}

beyond : (R : Raw) (i : ℕ) → needed R ≤ i → frame_good R i ≡ leb R.frames i
beyond R i h = cond-false _ _ _ (le-ltb i (needed R) h)

pub good_throughout : (R : Raw) → ((k : ℕ) → k < needed R + 1 → BadFrame R k → ⊥) → (i : ℕ) → BadFrame R i → ⊥
good_throughout R h i bad = by (cases_lt i (needed R + 1))
  where
    by : (i < needed R + 1) ⊎ (needed R + 1 ≤ i) → ⊥
    by (inl l) = h i l bad
    by (inr l) =
        let past : i < R.frames = leb-false _ _ (sym (beyond R i (omega arith)) ∙ bad) in
        h (needed R) (omega arith) (beyond R (needed R) (omega arith) ∙ lt-leb R.frames (needed R) (omega arith))

-- what a search below n found, where all is well if it is so far
pub lowest_found : (P : ℕ → Type 0) (good : ℕ → Bool) (n : ℕ) (o : Option ℕ) → ((i : ℕ) → i < n → good i ≡ false → P i) → ((i : ℕ) → P i → good i ≡ false)
    → (((k : ℕ) → k < n → P k → ⊥) → (i : ℕ) → P i → ⊥)
    → MatchOption o ((k : ℕ) → 0 ≤ k → k < n → good k ≡ true) (λ i. (0 ≤ i) × (i < n) × (good i ≡ false) × ((k : ℕ) → 0 ≤ k → k < i → good k ≡ true))
    → Lowest P o
lowest_found P good n None holds told beyond h = beyond (λ k l bad. true≢false (sym (h k (omega arith) l) ∙ told k bad))
lowest_found P good n (Some i) holds told beyond (_, l, bad, below) = (holds i l bad, λ j m worse. true≢false (sym (below j (omega arith) m) ∙ told j worse))
