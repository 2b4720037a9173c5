-- Sets of places as lists of marks: place 7 r + d is that of rule r and dot d, and beyond the list there is none.
use Rattle.std.proofs.Common.{◌≡◌, ℕ, zero, suc, ◌+◌, ◌*◌, ◌/◌, ◌%◌, ◌<◌, ◌≤◌, Bool, true, false, ◌&&◌, ◌||◌, ltb, List, [], ◌∷◌, ◌++◌, length, get_or, replicate, Decides, sym, refl, ap, ◌∙◌, arith}
use Rattle.std.specs.Cmp.{booleans_Decides}
use Rattle.std.proofs.lemmas.Slice.Eq.{slice_eq-Decides}
use Rattle.std.proofs.lemmas.List.{length-replicate, get_or_past, ext_get_or}
use Rattle.std.proofs.lemmas.Bool.{lt-ltb, and_right}
use Rattle.grammar.specs.Item.{Item}
use Rattle.items.specs.declared.places.Places.{Places}
use Rattle.items.specs.Entries.{mentions}
use Rattle.items.specs.Sets.{has, alike, in_grid, same_item}

-- a rule beyond the bounds has no place in the list
pub none_beyond : (s : Places) (r d : ℕ) → 61 ≤ r → has s (record { rule = r; dot = d }) ≡ false
none_beyond s r d h = and_right _ _ (get_or_past s.marks (7 * r + d) false (let l = s.long in omega arith))

and_nothing : (x : Bool) → (x && false) ≡ false
and_nothing true = refl
and_nothing false = refl

-- sets with the same places are the same list
same_marks : (s t : Places) → ((i : Item) → has s i ≡ has t i) → s.marks ≡ t.marks
same_marks s t h = ext_get_or false s.marks t.marks (s.long ∙ sym t.long) (λ n l. at n)
  where
    at : (n : ℕ) → get_or s.marks n false ≡ get_or t.marks n false
    at n =
        let small : n % 7 < 7 = omega arith in
        let place : 7 * (n / 7) + n % 7 ≡ n = omega arith in
        let e = h (record { rule = n / 7; dot = n % 7 }) in
        ap (λ (m : ℕ). get_or s.marks m false) (sym place)
        ∙ sym (ap (λ (b : Bool). b && get_or s.marks (7 * (n / 7) + n % 7) false) (lt-ltb (n % 7) 7 small))
        ∙ e
        ∙ ap (λ (b : Bool). b && get_or t.marks (7 * (n / 7) + n % 7) false) (lt-ltb (n % 7) 7 small)
        ∙ ap (λ (m : ℕ). get_or t.marks m false) place

-- what `==` of two sets tells
pub same_places : (s t : Places) (r : Bool) → r ≡ alike s t → Decides r ((i : Item) → has s i ≡ has t i)
same_places s t r e =
    let d = slice_eq-Decides booleans_Decides s.marks t.marks r e in
    (λ h i. ap (λ (m : List Bool). ltb i.dot 7 && get_or m (7 * i.rule + i.dot) false) (d.0 h), λ h. d.1 (same_marks s t h))

pub same_as_none : (t : Places) → ((i : Item) → has t i ≡ false) → (s : Places) → Decides (alike s t) ((i : Item) → has s i ≡ false)
same_as_none t none s = let d = same_places s t (alike s t) refl in (λ h i. d.0 h i ∙ none i, λ h. d.1 (λ i. h i ∙ sym (none i)))

all_unmarked : (n i : ℕ) → get_or (replicate n false) i false ≡ false
all_unmarked zero i = refl
all_unmarked (suc n) zero = refl
all_unmarked (suc n) (suc i) = all_unmarked n i

-- the set of no place
abbrev pub unmarked : Places
unmarked = record { marks = replicate 427 false; long = length-replicate 427 false }

pub unmarked_has : (i : Item) → has unmarked i ≡ false
unmarked_has i = ap (λ (b : Bool). ltb i.dot 7 && b) (all_unmarked 427 (7 * i.rule + i.dot)) ∙ and_nothing (ltb i.dot 7)

one_more : (h g s m : Bool) → ((h || (g && s)) || (g && m)) ≡ (h || (g && (s || m)))
one_more true g s m = refl
one_more false true s m = refl
one_more false false s m = refl

-- a pair put in, and the pairs that are left
pub pair_in : (s t : Places) (pair rest all : List ℕ) (i : Item) → all ≡ pair ++ rest → length pair ≡ 2
    → has t i ≡ (has s i || (in_grid i && same_item i (record { rule = get_or pair 0 0; dot = get_or pair 1 0 })))
    → (has t i || (in_grid i && mentions rest i)) ≡ (has s i || (in_grid i && mentions all i))
pair_in s t (r ∷ d ∷ []) rest all i cut long e =
    ap (λ (b : Bool). b || (in_grid i && mentions rest i)) e
    ∙ one_more (has s i) (in_grid i) _ _
    ∙ ap (λ (l : List ℕ). has s i || (in_grid i && mentions l i)) (sym cut)
pair_in s t [] rest all i cut long e = absurd (omega arith)
pair_in s t (r ∷ []) rest all i cut long e = absurd (omega arith)
pair_in s t (r ∷ d ∷ x ∷ xs) rest all i cut long e = absurd (omega arith)
