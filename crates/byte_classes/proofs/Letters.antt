-- The words of four and five letters by their letters; those of two and three need no lemma.
use Rattle.std.proofs.Common.{◌≡◌, ℕ, List, [], ◌∷◌, length, get_or, map, Some, refl, sym, ap}
use Rattle.std.specs.List.{range_with_len}
use Rattle.std.proofs.lemmas.List.FromFn.{fill_by_all}
use Rattle.byte_classes.specs.declared.keyword.Keyword.TheVariants.{Zone, From, Curve}
use Rattle.byte_classes.specs.Keywords.{keyword_of}

by_letters : (w : List ℕ) (n : ℕ) → length w ≡ n → w ≡ map (λ k. get_or w k 0) (range_with_len 0 n)
by_letters w n e = fill_by_all (λ k. get_or w k 0) w n 0 e (λ k h. refl)

pub is_zone : (w : List ℕ) → length w ≡ 4 → get_or w 0 0 ≡ 122 → get_or w 1 0 ≡ 111 → get_or w 2 0 ≡ 110 → get_or w 3 0 ≡ 101 → Some Zone ≡ keyword_of w
is_zone w long a0 a1 a2 a3 =
    let all : w ≡ get_or w 0 0 ∷ get_or w 1 0 ∷ get_or w 2 0 ∷ get_or w 3 0 ∷ [] = by_letters w 4 long in
    let is : w ≡ 122 ∷ 111 ∷ 110 ∷ 101 ∷ [] = cc in
    sym (ap keyword_of is)

pub is_from : (w : List ℕ) → length w ≡ 4 → get_or w 0 0 ≡ 102 → get_or w 1 0 ≡ 114 → get_or w 2 0 ≡ 111 → get_or w 3 0 ≡ 109 → Some From ≡ keyword_of w
is_from w long a0 a1 a2 a3 =
    let all : w ≡ get_or w 0 0 ∷ get_or w 1 0 ∷ get_or w 2 0 ∷ get_or w 3 0 ∷ [] = by_letters w 4 long in
    let is : w ≡ 102 ∷ 114 ∷ 111 ∷ 109 ∷ [] = cc in
    sym (ap keyword_of is)

pub is_curve : (w : List ℕ) → length w ≡ 5 → get_or w 0 0 ≡ 99 → get_or w 1 0 ≡ 117 → get_or w 2 0 ≡ 114 → get_or w 3 0 ≡ 118 → get_or w 4 0 ≡ 101 → Some Curve ≡ keyword_of w
is_curve w long a0 a1 a2 a3 a4 =
    let all : w ≡ get_or w 0 0 ∷ get_or w 1 0 ∷ get_or w 2 0 ∷ get_or w 3 0 ∷ get_or w 4 0 ∷ [] = by_letters w 5 long in
    let is : w ≡ 99 ∷ 117 ∷ 114 ∷ 118 ∷ 101 ∷ [] = cc in
    sym (ap keyword_of is)

pub ruleset long_words = (is_zone, is_from, is_curve)
