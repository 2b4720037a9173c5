-- What is met may be written into a cell of a memory: the cell's key is that of no other states and no other word.
use Rattle.std.proofs.Common.{◌≡◌, ℕ, zero, suc, ◌+◌, ◌*◌, ◌<◌, ◌≤◌, ◌==◌, ◌⊎◌, Bool, true, false, cond, List, [], ◌∷◌, ◌++◌, get_or, set, replicate, Option, None, Some, IfSome, MatchOption, refl, sym, ◌∙◌, subst, subst₂, inl, inr, arith}
use Rattle.std.proofs.lemmas.List.{get_or-set_other}
use Rattle.std.specs.Option.{is_some}
use Rattle.std.proofs.lemmas.Bool.{true≢false, cases_eq}
use Rattle.grammar.specs.Grammar.{Every}
use Rattle.grammar.proofs.Lists.{head_is}
use Rattle.frames.specs.Form.{word_of}
use Rattle.frames.specs.Raw.{Raw}
use Rattle.reading.specs.declared.memory.Met.{Met}
use Rattle.table.specs.Contents.{table_of}
use Rattle.table.specs.LookUps.{BeginsWord}
use Rattle.reading.specs.Remembered.{Meets, IsKnown, FrontsKnown, key_of}

pub noted : (R : Raw) (met : Met) (key q p a b : ℕ) → key ≡ key_of q p a b → q < 256 → p < 256 → a < 256 → Meets R q p (word_of a b) met
    → IsKnown R (record { key = key; met = met })
noted R met key q p a b is lq lp la meets q' p' a' b' mq mp ma e h =
    let top : q ≡ q' = omega (arith, is, e) in
    let below : p ≡ p' = omega (arith, is, e) in
    let first : a ≡ a' = omega (arith, is, e) in
    let second : b ≡ b' = omega (arith, is, e) in
    subst₂ (λ (x y : ℕ). Meets R x y (word_of a' b') met) top below (subst₂ (λ (x y : ℕ). Meets R q p (word_of x y) met) first second meets)

-- fronts: none are known, or one more is
pub no_fronts : (R : Raw) (n : ℕ) → FrontsKnown R (replicate n false)
no_fronts R n q a l e = absurd (true≢false (sym e ∙ none n (q * 32 + a)))
  where
    none : (n i : ℕ) → get_or (replicate n false) i false ≡ false
    none zero i = refl
    none (suc n) zero = refl
    none (suc n) (suc i) = none n i

pub one_front : (R : Raw) (fronts : List Bool) (p c : ℕ) → c < 32 → BeginsWord (table_of R) p (c ∷ []) → FrontsKnown R fronts
    → FrontsKnown R (set fronts (p * 32 + c) true)
one_front R fronts p c m begins known q a l e = by (cases_eq (q * 32 + a) (p * 32 + c))
  where
    by : (q * 32 + a ≡ p * 32 + c) ⊎ (q * 32 + a ≡ p * 32 + c → ⊥) → BeginsWord (table_of R) q (a ∷ [])
    by (inl same) =
        let state : p ≡ q = omega (arith, same, l, m) in
        let symbol : c ≡ a = omega (arith, same, l, m) in
        subst₂ (λ (x y : ℕ). BeginsWord (table_of R) x (y ∷ [])) state symbol begins
    by (inr other) = known q a l (sym (get_or-set_other fronts (p * 32 + c) (q * 32 + a) true false other) ∙ e)

-- what holds of what is there
pub is_there : {A : Type 0} (o : Option A) (P : A → Type 0) → is_some o ≡ true → IfSome o P → (x : A) × P x
is_there None P e h = absurd (true≢false (sym e))
is_there (Some x) P e h = (x, h)

-- what holds where nothing is
pub none_there : {A P : Type 0} (Q : A → Type 0) {o : Option A} → o ≡ None → MatchOption o P Q → P
none_there {P = P} Q e m = subst (λ (o : Option _). MatchOption o P Q) e m

-- the first symbol of a word
pub first_some : (a b : ℕ) → Every (λ c. 1 ≤ c) (word_of a b) → 1 ≤ a
first_some a b h = by (b == 0) h
  where
    by : (z : Bool) → Every (λ c. 1 ≤ c) (cond z (a ∷ []) (a ∷ b ∷ [])) → 1 ≤ a
    by true h = h.0
    by false h = h.0

-- a word that is one symbol more than another, and has no second
pub one_symbol : (w : List ℕ) (a f : ℕ) {s : ℕ} → word_of f s ≡ w ++ a ∷ [] → s ≡ 0 → f ≡ a
one_symbol w a f e z = by w (subst (λ (s : ℕ). word_of f s ≡ w ++ a ∷ []) z e)
  where
    by : (w : List ℕ) → f ∷ [] ≡ w ++ a ∷ [] → f ≡ a
    by [] e = head_is e
    by (b ∷ []) e = absurd cc
    by (b ∷ c ∷ w) e = absurd cc
