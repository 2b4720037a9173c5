-- Searches through lists. What a test says of a list holds of its members, and two lists with the same members are told by looking each
-- member of the one up in the other.
use Rattle.std.proofs.Common.{◌≡◌, ℕ, zero, suc, ◌<◌, ◌≤◌, Bool, true, false, cond, ◌&&◌, ◌||◌, eqb, ◌⊎◌, ◌↔◌, List, [], ◌∷◌, ◌++◌, sym, refl, ap, ◌∙◌, subst, inl, inr, ⊎_elim, arith}
use mathlib.Core.List.Memᴰ
use mathlib.Core.List.{Memᴰ}
use Rattle.std.proofs.lemmas.Bool.{true≢false, cases_lt, and_parts, and_from, or_cases, or_left, or_right, cond_both, eqb-true, eq-eqb}
use Rattle.items.specs.Entries.{same_item}
use Rattle.table.specs.Contents.{same_word}
use Rattle.table.proofs.LookedUp.{same_word_refl, same_word_is}
use Rattle.table.proofs.StateSets.{same_item_is, same_item_refl}

-- Every member passes.
abbrev pub every : {A : Type 0} → (A → Bool) → List A → Bool
every p [] = true
every p (x ∷ xs) = p x && every p xs

-- Some member passes.
abbrev pub one_of : {A : Type 0} → (A → Bool) → List A → Bool
one_of p [] = false
one_of p (x ∷ xs) = p x || one_of p xs

pub every_at : {A : Type 0} (p : A → Bool) (xs : List A) → every p xs ≡ true → (x : A) → Memᴰ x xs → p x ≡ true
every_at p [] e x m = absurd (Memᴰ.not-nil m)
every_at p (y ∷ xs) e x m =
    let (a, b) = and_parts (p y) (every p xs) e in
    ⊎_elim (λ s. ap p s ∙ a) (λ m'. every_at p xs b x m') (Memᴰ.cases_cons m)

pub every_from : {A : Type 0} (p : A → Bool) (xs : List A) → ((x : A) → Memᴰ x xs → p x ≡ true) → every p xs ≡ true
every_from p [] h = refl
every_from p (y ∷ xs) h = and_from (p y) (every p xs) (h y (Memᴰ.head refl)) (every_from p xs (λ x m. h x (Memᴰ.tail m)))

pub one_at : {A : Type 0} (p : A → Bool) (xs : List A) (x : A) → Memᴰ x xs → p x ≡ true → one_of p xs ≡ true
one_at p [] x m e = absurd (Memᴰ.not-nil m)
one_at p (y ∷ xs) x m e =
    ⊎_elim (λ s. or_left (p y) (one_of p xs) (sym (ap p s) ∙ e)) (λ m'. or_right (p y) (one_of p xs) (one_at p xs x m' e)) (Memᴰ.cases_cons m)

pub one_found : {A : Type 0} (p : A → Bool) (xs : List A) → one_of p xs ≡ true → (x : A) × (Memᴰ x xs × (p x ≡ true))
one_found p [] e = absurd (true≢false (sym e))
one_found p (y ∷ xs) e =
    ⊎_elim
    (λ h. (y, (Memᴰ.head refl, h)))
    (λ h. let (x, (m, f)) = one_found p xs h in (x, (Memᴰ.tail m, f)))
    (or_cases (p y) (one_of p xs) e)

-- The numbers below n, the highest first.
abbrev pub up_to : ℕ → List ℕ
up_to zero = []
up_to (suc n) = n ∷ up_to n

pub low_in : (n i : ℕ) → i < n → Memᴰ i (up_to n)
low_in zero i l = absurd (omega arith)
low_in (suc n) i l = by (cases_lt i n) (λ h. low_in n i h)
  where
    by : (i < n) ⊎ (n ≤ i) → (i < n → Memᴰ i (up_to n)) → Memᴰ i (n ∷ up_to n)
    by (inl h) so = Memᴰ.tail (so h)
    by (inr h) so = let e : i ≡ n = omega arith in Memᴰ.head e

pub in_low : (n i : ℕ) → Memᴰ i (up_to n) → i < n
in_low zero i m = absurd (Memᴰ.not-nil m)
in_low (suc n) i m = ⊎_elim (λ e. omega (arith, e)) (λ m'. let l = in_low n i m' in omega (arith, l)) (Memᴰ.cases_cons m)

-- A test that tells whether two are the same.
pub record Tells {A : Type 0} (same : A → A → Bool) : Type 0 where
  pub is : (x y : A) → same x y ≡ true → x ≡ y
  pub own : (x : A) → same x x ≡ true

pub items_told : Tells same_item
items_told = record { is = same_item_is; own = same_item_refl }

pub words_told : Tells same_word
words_told = record { is = same_word_is; own = same_word_refl }

pub numbers_told : Tells eqb
numbers_told = record { is = eqb-true; own = λ x. eq-eqb x x refl }

-- x is in the list.
abbrev pub among : {A : Type 0} → (A → A → Bool) → List A → A → Bool
among same C x = one_of (same x) C

-- Every member of the one is in the other.
abbrev pub within : {A : Type 0} → (A → A → Bool) → List A → List A → Bool
within same C D = every (among same D) C

-- The two have the same members.
abbrev pub alike : {A : Type 0} → (A → A → Bool) → List A → List A → Bool
alike same C D = within same C D && within same D C

pub among_is : {A : Type 0} {same : A → A → Bool} (t : Tells same) (C : List A) (x : A) → among same C x ≡ true → Memᴰ x C
among_is {same = same} t C x e =
    let (y, (m, f)) = one_found (same x) C e in
    subst (λ z. Memᴰ z C) (sym (t.is x y f)) m

pub is_among : {A : Type 0} {same : A → A → Bool} (t : Tells same) (C : List A) (x : A) → Memᴰ x C → among same C x ≡ true
is_among {same = same} t C x m = one_at (same x) C x m (t.own x)

pub within_at : {A : Type 0} {same : A → A → Bool} (t : Tells same) (C D : List A) → within same C D ≡ true → (x : A) → Memᴰ x C → Memᴰ x D
within_at {same = same} t C D e x m = among_is t D x (every_at (among same D) C e x m)

pub within_from : {A : Type 0} {same : A → A → Bool} (t : Tells same) (C D : List A) → ((x : A) → Memᴰ x C → Memᴰ x D) → within same C D ≡ true
within_from {same = same} t C D h = every_from (among same D) C (λ x m. is_among t D x (h x m))

pub alike_at : {A : Type 0} {same : A → A → Bool} (t : Tells same) (C D : List A) → alike same C D ≡ true → (x : A) → Memᴰ x C ↔ Memᴰ x D
alike_at {same = same} t C D e x =
    let (a, b) = and_parts (within same C D) (within same D C) e in
    (within_at t C D a x, within_at t D C b x)

pub alike_from : {A : Type 0} {same : A → A → Bool} (t : Tells same) (C D : List A) → ((x : A) → Memᴰ x C ↔ Memᴰ x D) → alike same C D ≡ true
alike_from {same = same} t C D h =
    and_from (within same C D) (within same D C) (within_from t C D (λ x m. (h x).0 m)) (within_from t D C (λ x m. (h x).1 m))

-- x put into a list that does not have it.
abbrev pub put : {A : Type 0} → (A → A → Bool) → A → List A → List A
put same x C = cond (among same C x) C (x ∷ C)

-- All of a list put into another.
abbrev pub put_all : {A : Type 0} → (A → A → Bool) → List A → List A → List A
put_all same [] C = C
put_all same (x ∷ xs) C = put_all same xs (put same x C)

pub put_from : {A : Type 0} (same : A → A → Bool) (y : A) (C : List A) (x : A) → Memᴰ x (put same y C) → (x ≡ y) ⊎ Memᴰ x C
put_from {A} same y C x =
    cond_both (among same C y) C (y ∷ C) (λ (l : List A). Memᴰ x l → (x ≡ y) ⊎ Memᴰ x C) (λ t m. inr m) (λ t m. Memᴰ.cases_cons m)

pub put_all_from : {A : Type 0} (same : A → A → Bool) (xs C : List A) (x : A) → Memᴰ x (put_all same xs C) → Memᴰ x xs ⊎ Memᴰ x C
put_all_from same [] C x m = inr m
put_all_from same (y ∷ xs) C x m =
    ⊎_elim
    (λ a. inl (Memᴰ.tail a))
    (λ b. ⊎_elim (λ e. inl (Memᴰ.head e)) (λ c. inr c) (put_from same y C x b))
    (put_all_from same xs (put same y C) x m)

-- The lists of all members, joined.
abbrev pub bind : {A B : Type 0} → (A → List B) → List A → List B
bind f [] = []
bind f (x ∷ xs) = f x ++ bind f xs

pub bind_in : {A B : Type 0} (f : A → List B) (xs : List A) (x : A) (y : B) → Memᴰ x xs → Memᴰ y (f x) → Memᴰ y (bind f xs)
bind_in f [] x y m n = absurd (Memᴰ.not-nil m)
bind_in {B = B} f (z ∷ xs) x y m n =
    ⊎_elim
    (λ e. Memᴰ.append_left (bind f xs) (subst (λ (l : List B). Memᴰ y l) (ap f e) n))
    (λ m'. Memᴰ.append_right (f z) (bind_in f xs x y m' n))
    (Memᴰ.cases_cons m)

pub bind_from : {A B : Type 0} (f : A → List B) (xs : List A) (y : B) → Memᴰ y (bind f xs) → (x : A) × (Memᴰ x xs × Memᴰ y (f x))
bind_from f [] y m = absurd (Memᴰ.not-nil m)
bind_from f (z ∷ xs) y m =
    ⊎_elim
    (λ n. (z, (Memᴰ.head refl, n)))
    (λ m'. let (x, (p, n)) = bind_from f xs y m' in (x, (Memᴰ.tail p, n)))
    (Memᴰ.append_cases (f z) m)

-- The list where the test passes, and none elsewhere.
abbrev pub where_true : {A : Type 0} → Bool → List A → List A
where_true b xs = cond b xs []

pub where_in : {A : Type 0} (b : Bool) (xs : List A) (x : A) → b ≡ true → Memᴰ x xs → Memᴰ x (where_true b xs)
where_in {A} b xs x e m = subst (λ (c : Bool). Memᴰ x (where_true c xs)) (sym e) m

pub where_from : {A : Type 0} (b : Bool) (xs : List A) (x : A) → Memᴰ x (where_true b xs) → (b ≡ true) × Memᴰ x xs
where_from true xs x m = (refl, m)
where_from false xs x m = absurd (Memᴰ.not-nil m)
