-- Tokens that the relation names stand where their places say: the place of what is left is always the one behind what was read.
use Rattle.std.proofs.Common.{◌≡◌, ℕ, List, [], ◌∷◌, ◌++◌, sym, ap, ◌∙◌, append_assoc, append-nil}
use Rattle.std.specs.List.{AllByRecursion}
use Rattle.source.specs.Meaning.{Last}
use Rattle.sheet.specs.Places.{Position, place, moved, along, Stands, Stops}
use Rattle.sheet.specs.Reads.{Reads, at_end, skips, takes, breaks}
use Rattle.sheet.specs.Scan.{Spot}
use Rattle.sheet.specs.declared.fault.ScanFault.{ScanFault}
use Rattle.sheet.proofs.Positions.{along_append}

module _ (sheet : List ℕ) where
  -- with what was read before
  pub standing : (earlier s : List ℕ) (p : Position) (ts : List Spot) (l : Last ScanFault) → sheet ≡ earlier ++ s → p ≡ along (1, 1) earlier → Reads s p ts l → AllByRecursion (Stands sheet) ts × Stops sheet l
  standing earlier _ _ _ _ e here (at_end s p none) =
      let all : sheet ≡ earlier = e ∙ ap (λ r. earlier ++ r) none ∙ append-nil earlier in
      (tt, ap place (here ∙ ap (along (1, 1)) (sym all)))
  standing earlier _ _ _ _ e here (skips s p b rest ts l is blank more) =
      standing (earlier ++ b ∷ []) rest (moved p b) ts l
      (e ∙ ap (λ r. earlier ++ r) is ∙ sym (append_assoc earlier (b ∷ []) rest))
      (ap (λ (q : Position). moved q b) here ∙ sym (along_append (1, 1) earlier (b ∷ [])))
      more
  standing earlier _ _ _ _ e here (takes s p kind w rest us l is lexical more) =
      let cut : sheet ≡ earlier ++ (w ++ rest) = e ∙ ap (λ r. earlier ++ r) is in
      let later =
      standing (earlier ++ w) rest (along p w) us l
      (cut ∙ sym (append_assoc earlier w rest))
      (ap (λ (q : Position). along q w) here ∙ sym (along_append (1, 1) earlier w))
      more in
      ((record { earlier = earlier; later = rest; parts = cut; placed = ap place here }, later.0), later.1)
  standing earlier _ _ _ _ e here (breaks s p f wrong) = (tt, (earlier, s, e, ap place here))
