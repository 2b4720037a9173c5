-- A text has no more tokens than bytes. The proof stands here since the trait of sources asks for it.
use Rattle.std.specs.Prelude.{ℕ, zero, suc, ◌+◌, ◌-◌, ◌≤◌, List, [], ◌∷◌, length}
use Rattle.std.proofs.Common.{arith}
use Rattle.std.proofs.lemmas.List.{length-map}
use Rattle.sheet.specs.Scan.{Front, Scanned, ending, gap, token, fault, front, go_on, scan_from, line_after, column_after}
use Rattle.sheet.specs.Scanners.{meaning_of}

step_few : (f : Front) (s : List ℕ) (line column : ℕ) (rest : ℕ → ℕ → ℕ → Scanned) (n : ℕ) → ((k l c : ℕ) → length (rest k l c).spots ≤ n) → length (go_on f s line column rest).spots ≤ suc n
step_few ending s line column rest n h = omega arith
step_few gap s line column rest n h = omega (arith, h 0 line (column + 1))
step_few (token kind len) s line column rest n h = omega (arith, h (len - 1) (line_after kind line) (column_after kind len column))
step_few (fault f) s line column rest n h = omega arith

-- each token takes a byte at least
pub few_tokens : (k : ℕ) (bs : List ℕ) (line column : ℕ) → length (scan_from k bs line column).spots ≤ length bs
few_tokens zero [] line column = omega arith
few_tokens (suc k) [] line column = omega arith
few_tokens (suc k) (b ∷ bs) line column = omega (arith, few_tokens k bs line column)
few_tokens zero (b ∷ bs) line column =
    step_few (front (b ∷ bs)) (b ∷ bs) line column (λ k l c. scan_from k bs l c) (length bs) (λ k l c. few_tokens k bs l c)

-- so a scanner has at most 60,000 to come
pub few_left : (s : List ℕ) (line column : ℕ) → line + length s ≤ 60001 → 1 ≤ line → length (meaning_of (scan_from 0 s line column)).tokens ≤ 60000
few_left s line column h some = simp length-map (omega (arith, few_tokens 0 s line column))
