-- A keyword is short, so that its length needs no test.
use Rattle.std.proofs.Common.{◌≡◌, ℕ, ◌≤◌, List, length, take, cond, codes, Option, Some, sym, ap, subst, arith}
use Rattle.std.specs.Str.{bytes_eq}
use Rattle.std.proofs.lemmas.Bool.{cond_both}
use Rattle.std.proofs.lemmas.List.{length-take}
use Rattle.std.proofs.lemmas.Slice.Eq.{bytes_eq-Decides}
use Rattle.byte_classes.specs.Keywords.{keyword_of}
use Rattle.byte_classes.specs.declared.keyword.Keyword.{Keyword}
use Rattle.byte_classes.specs.declared.keyword.Keyword.TheVariants.{Zone, Curve, Set, From, To, Off}

-- one of the six, or a later one
spelled : (w t : List ℕ) (x k : Keyword) (later : Option Keyword) → length t ≤ 32 → (later ≡ Some k → length w ≤ 32) → cond (bytes_eq w t) (Some x) later ≡ Some k → length w ≤ 32
spelled w t x k later short more =
    cond_both (bytes_eq w t) (Some x) later (λ r. r ≡ Some k → length w ≤ 32)
    (λ same _. subst (λ n. n ≤ 32) (sym (ap length ((bytes_eq-Decides w t).0 same))) short)
    (λ _. more)

keyword_short : (w : List ℕ) (k : Keyword) → keyword_of w ≡ Some k → length w ≤ 32
keyword_short w k =
    spelled w (codes "zone") Zone k _ (omega arith)
    (spelled w (codes "curve") Curve k _ (omega arith)
    (spelled w (codes "set") Set k _ (omega arith)
    (spelled w (codes "from") From k _ (omega arith)
    (spelled w (codes "to") To k _ (omega arith)
    (spelled w (codes "off") Off k _ (omega arith) (λ none. absurd cc))))))

pub short : (s : List ℕ) (n : ℕ) (k : Keyword) → n ≤ length s → keyword_of (take n s) ≡ Some k → n ≤ 32
short s n k within is = omega (arith, keyword_short (take n s) k is, length-take n s)
