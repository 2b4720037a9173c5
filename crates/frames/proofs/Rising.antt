-- The order of entries is the lexicographic one, and it goes on from entry to entry: what follows an entry precedes all that stand behind.
use Rattle.std.proofs.Common.{◌≡◌, ℕ, ◌<◌, true, ◌&&◌, eqb, ltb, ◌⊎◌, List, [], ◌∷◌, sym, refl, ◌∙◌, inl, inr, arith}
use Rattle.std.specs.List.{AllByRecursion}
use Rattle.std.proofs.lemmas.Bool.{true≢false, and_from, and_parts, or_cases, or_left, or_right, eq-eqb, eqb-true, lt-ltb, ltb-true}
use Rattle.frames.specs.Form.{below}
use Rattle.frames.specs.Formed.{Precedes, Rising}

pub precedes : (x y : List ℕ) → below x y ≡ true → Precedes x y
precedes [] [] e = true≢false (sym e)
precedes (a ∷ x) [] e = true≢false (sym e)
precedes [] (b ∷ y) e = tt
precedes (a ∷ x) (b ∷ y) e = by (precedes x y) (or_cases (ltb a b) (eqb a b && below x y) e)
  where
    by : (below x y ≡ true → Precedes x y) → (ltb a b ≡ true) ⊎ ((eqb a b && below x y) ≡ true) → (a < b) ⊎ ((a ≡ b) × Precedes x y)
    by rest (inl l) = inl (ltb-true a b l)
    by rest (inr l) = let (s, t) = and_parts (eqb a b) (below x y) l in inr (eqb-true a b s, rest t)

pub below_from : (x y : List ℕ) → Precedes x y → below x y ≡ true
below_from [] [] l = absurd l
below_from (a ∷ x) [] l = absurd l
below_from [] (b ∷ y) l = refl
below_from (a ∷ x) (b ∷ y) (inl l) = or_left (ltb a b) (eqb a b && below x y) (lt-ltb a b l)
below_from (a ∷ x) (b ∷ y) (inr l) =
    or_right (ltb a b) (eqb a b && below x y) (and_from (eqb a b) (below x y) (eq-eqb a b l.0) (below_from x y l.1))

in_turn : (x y z : List ℕ) → Precedes x y → Precedes y z → Precedes x z
in_turn x [] z l m = absurd l
in_turn x (b ∷ y) [] l m = absurd m
in_turn [] (b ∷ y) (c ∷ z) l m = tt
in_turn (a ∷ x) (b ∷ y) (c ∷ z) (inl l) (inl m) = inl (omega arith)
in_turn (a ∷ x) (b ∷ y) (c ∷ z) (inl l) (inr m) = inl (omega (arith, m.0))
in_turn (a ∷ x) (b ∷ y) (c ∷ z) (inr l) (inl m) = inl (omega (arith, l.0))
in_turn (a ∷ x) (b ∷ y) (c ∷ z) (inr l) (inr m) = inr (l.0 ∙ m.0, in_turn x y z l.1 m.1)

behind_all : (x y : List ℕ) (es : List (List ℕ)) → Precedes x y → AllByRecursion (Precedes y) es → AllByRecursion (Precedes x) es
behind_all x y [] l m = tt
behind_all x y (e ∷ es) l m = (in_turn x y e l m.0, behind_all x y es l m.1)

-- one entry more in front
pub rising_more : (x y : List ℕ) (es : List (List ℕ)) → Precedes x y → Rising (y ∷ es) → Rising (x ∷ y ∷ es)
rising_more x y es l r = ((l, behind_all x y es l r.0), r)
