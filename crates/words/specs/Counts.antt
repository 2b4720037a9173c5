-- Sums over the numbers below n.
use Rattle.std.specs.Prelude.{◌≡◌, ℕ, zero, suc, ◌<◌, ◌≤◌, Bool, true, false, cond, ◌||◌, refl}
use Rattle.std.proofs.Common.{sym, ap, ◌∙◌, ⊎_elim, arith}
use Rattle.std.proofs.lemmas.Bool.{cases_eq}
use Rattle.words.specs.Sets.{total}

-- Where no term falls, the sum does not.
pub total_le : (f g : ℕ → ℕ) (n : ℕ) → ((i : ℕ) → i < n → f i ≤ g i) → total f n ≤ total g n
total_le f g zero h = omega arith
total_le f g (suc n) h =
    let here = h n (omega arith) in
    let rest = total_le f g n (λ i l. h i (omega arith)) in
    omega arith

-- Where no term falls and the sum does not rise, each term stays.
pub total_same : (f g : ℕ → ℕ) (n : ℕ) → ((i : ℕ) → i < n → f i ≤ g i) → total g n ≤ total f n → (i : ℕ) → i < n → f i ≡ g i
total_same f g zero h e i l = absurd (omega arith)
total_same f g (suc n) h e i l =
    let here = h n (omega arith) in
    let low = total_le f g n (λ i l. h i (omega arith)) in
    ⊎_elim
    (λ (p : i ≡ n). let q : f n ≡ g n = omega arith in ap f p ∙ q ∙ sym (ap g p))
    (λ ne. total_same f g n (λ i l. h i (omega arith)) (omega arith) i (omega arith))
    (cases_eq i n)

-- A sum of ones counts them.
pub ones_total : (n : ℕ) → total (λ i. 1) n ≡ n
ones_total zero = refl
ones_total (suc n) = let h = ones_total n in omega arith

-- An or does not make a truth value less.
pub flag_le : (x y : Bool) → cond x 1 0 ≤ cond (x || y) 1 0
flag_le true y = omega arith
flag_le false true = omega arith
flag_le false false = omega arith

-- A truth value counts at most one.
pub flag_one : (x : Bool) → cond x 1 0 ≤ 1
flag_one true = omega arith
flag_one false = omega arith

-- Truth values that count alike are the same.
pub flag_same : (x y : Bool) → ◌≡◌ {A = ℕ} (cond x 1 0) (cond y 1 0) → x ≡ y
flag_same true true e = refl
flag_same true false e = absurd (omega arith)
flag_same false true e = absurd (omega arith)
flag_same false false e = refl
