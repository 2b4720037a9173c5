-- Lists cut, split and joined. What is joined and then cut may be cut before; a symbol of a joined list stands in the one part or in the
-- other; and two ways to split a list at the same length are the same.
use Rattle.std.proofs.Common.{◌≡◌, ℕ, zero, suc, ◌≤◌, ◌⊎◌, List, [], ◌∷◌, ◌++◌, length, take, sym, refl, ap, ap₂, inl, inr, arith}
use Rattle.std.proofs.lemmas.List.{take-take}
use Rattle.grammar.specs.Grammar.{Every}

pub head_is : {A : Type 0} {x y : A} {xs ys : List A} → x ∷ xs ≡ y ∷ ys → x ≡ y
head_is e = cc

pub tail_is : {A : Type 0} {x y : A} {xs ys : List A} → x ∷ xs ≡ y ∷ ys → xs ≡ ys
tail_is e = cc

-- a list of one has nothing behind its first
pub one_front : {A : Type 0} {x y : A} (xs ys : List A) → x ∷ [] ≡ xs ++ y ∷ ys → (xs ≡ []) × (x ≡ y) × (ys ≡ [])
one_front [] ys e = (refl, head_is e, sym (tail_is e))
one_front (a ∷ []) ys e = absurd cc
one_front (a ∷ b ∷ xs) ys e = absurd cc

pub take_join : (j m : ℕ) (u v : List ℕ) → j ≤ m → take j (u ++ take m v) ≡ take j (u ++ v)
take_join zero m u v h = refl
take_join (suc j) m [] v h = take-take (suc j) m v h
take_join (suc j) m (a ∷ u) v h = ap (λ (y : List ℕ). a ∷ y) (take_join j m u v (omega arith))

pub take_join_left : (j m : ℕ) (u v : List ℕ) → j ≤ m → take j (take m u ++ v) ≡ take j (u ++ v)
take_join_left zero m u v h = refl
take_join_left (suc j) zero u v h = absurd (omega arith)
take_join_left (suc j) (suc m) [] v h = refl
take_join_left (suc j) (suc m) (a ∷ u) v h = ap (λ (y : List ℕ). a ∷ y) (take_join_left j m u v (omega arith))

pub take_nil : (k : ℕ) → take {A = ℕ} k [] ≡ []
take_nil zero = refl
take_nil (suc k) = refl

pub split_same : (a b c d : List ℕ) → a ++ b ≡ c ++ d → length a ≡ length c → (a ≡ c) × (b ≡ d)
split_same [] b [] d e l = (refl, e)
split_same [] b (z ∷ c) d e l = absurd (omega arith)
split_same (x ∷ a) b [] d e l = absurd (omega arith)
split_same (x ∷ a) b (z ∷ c) d e l = let (f, h) = split_same a b c d (tail_is e) (omega arith) in (ap₂ (λ (y : ℕ) (w : List ℕ). y ∷ w) (head_is e) f, h)

-- where a symbol of a joined list stands
pub record InFirst (x : List ℕ) (A : ℕ) (y α β : List ℕ) : Type 0 where
  pub more : List ℕ
  pub first_is : α ≡ x ++ A ∷ more
  pub after_is : y ≡ more ++ β

pub record InSecond (x : List ℕ) (A : ℕ) (y α β : List ℕ) : Type 0 where
  pub more : List ℕ
  pub before_is : x ≡ α ++ more
  pub second_is : β ≡ more ++ A ∷ y

pub where_is : (x : List ℕ) (A : ℕ) (y α β : List ℕ) → x ++ A ∷ y ≡ α ++ β → InFirst x A y α β ⊎ InSecond x A y α β
where_is x A y [] β e = inr (record { more = x; before_is = refl; second_is = sym e })
where_is [] A y (c ∷ α) β e = inl (record { more = α; first_is = ap (λ (z : ℕ). z ∷ α) (sym (head_is e)); after_is = tail_is e })
where_is (b ∷ x) A y (c ∷ α) β e = below (where_is x A y α β (tail_is e))
  where
    below : InFirst x A y α β ⊎ InSecond x A y α β → InFirst (b ∷ x) A y (c ∷ α) β ⊎ InSecond (b ∷ x) A y (c ∷ α) β
    below (inl h) = inl (record { more = h.more; first_is = ap₂ (λ (z : ℕ) (w : List ℕ). z ∷ w) (sym (head_is e)) h.first_is; after_is = h.after_is })
    below (inr h) = inr (record { more = h.more; before_is = ap₂ (λ (z : ℕ) (w : List ℕ). z ∷ w) (head_is e) h.before_is; second_is = h.second_is })

-- what holds of every symbol
pub every_append : (P : ℕ → Type 0) (x y : List ℕ) → Every P x → Every P y → Every P (x ++ y)
every_append P [] y p q = q
every_append P (a ∷ x) y p q = (p.0, every_append P x y p.1 q)

pub every_front : (P : ℕ → Type 0) (x y : List ℕ) → Every P (x ++ y) → Every P x
every_front P [] y t = tt
every_front P (a ∷ x) y t = (t.0, every_front P x y t.1)

pub every_back : (P : ℕ → Type 0) (x y : List ℕ) → Every P (x ++ y) → Every P y
every_back P [] y t = t
every_back P (a ∷ x) y t = every_back P x y t.1

pub every_map : (P Q : ℕ → Type 0) → ((a : ℕ) → P a → Q a) → (x : List ℕ) → Every P x → Every Q x
every_map P Q f [] t = tt
every_map P Q f (a ∷ x) t = (f a t.0, every_map P Q f x t.1)

pub every_both : (P Q R : ℕ → Type 0) → ((a : ℕ) → P a → Q a → R a) → (x : List ℕ) → Every P x → Every Q x → Every R x
every_both P Q R f [] s t = tt
every_both P Q R f (a ∷ x) s t = (f a s.0 t.0, every_both P Q R f x s.1 t.1)

-- in place of one symbol others that have P
pub every_replace : (P : ℕ → Type 0) (x : List ℕ) (A : ℕ) (ω y : List ℕ) → Every P (x ++ A ∷ y) → Every P ω → Every P (x ++ (ω ++ y))
every_replace P x A ω y t p = every_append P x (ω ++ y) (every_front P x (A ∷ y) t) (every_append P ω y p (every_back P x (A ∷ y) t).1)
