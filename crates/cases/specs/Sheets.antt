-- Sheets and their tokens: kind, bytes, line and column. The last entry is the end or a fault by its number, with its place.
use Rattle.std.specs.Prelude.{◌≡◌, ℕ, List, [], ◌∷◌, ◌++◌, replicate, codes}
use Rattle.source.specs.Meaning.{Last, ends, faults}
use Rattle.refusal.specs.Refusal.{Refusal}
use Rattle.source.specs.Refusals.{numbers, fault_refusal}
use Rattle.source.specs.declared.token.Place.TheVariants.{Two}
use Rattle.sheet.specs.Faults.{fault_number}
use Rattle.sheet.specs.Scan.{Spot, scan}
use Rattle.sheet.specs.declared.fault.ScanFault.{ScanFault}

-- a token of this kind, with these bytes, at this line and column
abbrev pub spot : ℕ → List ℕ → ℕ → ℕ → Spot
spot kind text line column = record { kind = kind; text = text; place = Two line column }

-- the end counts as number 0
abbrev pub stop : Last ScanFault → Refusal
stop (ends p) = record { number = 0; returned = numbers p }
stop (faults f) = fault_refusal fault_number f

-- the sheet has these tokens, and then the end or the fault of this number at this line and column
abbrev pub Means : List ℕ → List Spot → ℕ → ℕ → ℕ → Type 0
Means sheet spots number line column =
    ((scan sheet).spots ≡ spots) × (stop (scan sheet).last ≡ record { number = number; returned = line ∷ column ∷ [] })

-- a quote, which stands in no literal
abbrev pub quote : List ℕ
quote = 34 ∷ []

-- a line end
abbrev pub line_end : List ℕ
line_end = 10 ∷ []

-- the empty sheet, words and numbers without blanks between them, lines, a closing line end, names, a range, open quotes, a byte of no
-- class, and numbers of 32 and 33 bytes
abbrev pub Sheets : Type 0
Sheets =
    Means [] [] 0 1 1
    × Means (codes "zone a1:") (spot 9 (codes "zone") 1 1 ∷ spot 2 (codes "a") 1 6 ∷ spot 1 (codes "1") 1 7 ∷ spot 4 (codes ":") 1 8 ∷ []) 0 1 9
    × Means (codes "to" ++ line_end ++ codes " off#" ++ quote) (spot 13 (codes "to") 1 1 ∷ spot 15 line_end 1 3 ∷ spot 14 (codes "off") 2 2 ∷ spot 16 (codes "#" ++ quote) 2 5 ∷ []) 0 2 7
    × Means (codes "a" ++ line_end) (spot 2 (codes "a") 1 1 ∷ spot 15 line_end 1 2 ∷ []) 0 2 1
    × Means (codes "set" ++ quote ++ codes "a b" ++ quote ++ codes "=") (spot 11 (codes "set") 1 1 ∷ spot 3 (quote ++ codes "a b" ++ quote) 1 4 ∷ spot 5 (codes "=") 1 9 ∷ []) 0 1 10
    × Means (codes "20-24") (spot 1 (codes "20") 1 1 ∷ spot 8 (codes "-") 1 3 ∷ spot 1 (codes "24") 1 4 ∷ []) 0 1 6
    × Means (codes "x " ++ quote ++ codes "ab#") (spot 2 (codes "x") 1 1 ∷ []) 20 1 3
    × Means (quote ++ codes "ab" ++ line_end ++ quote) [] 20 1 1
    × Means (codes "-;A") (spot 8 (codes "-") 1 1 ∷ spot 7 (codes ";") 1 2 ∷ []) 19 1 3
    × Means (replicate 32 48) (spot 1 (replicate 32 48) 1 1 ∷ []) 0 1 33
    × Means (replicate 33 48) [] 21 1 1
