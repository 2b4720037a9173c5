-- A sheet and its tokens as a relation: each token is a longest run, a quoted name that is closed, a mark, a line end, or a comment
-- up to the line end.
use Rattle.std.specs.Prelude.{◌≡◌, ℕ, ◌<◌, ◌≤◌, Bool, true, List, [], ◌∷◌, ◌++◌, length, nat_eq}
use Rattle.std.specs.List.{AllByRecursion}
use Rattle.byte_classes.specs.Classes.{class_of, blank, letter, digit}
use Rattle.byte_classes.specs.Keywords.{keyword_of}
use Rattle.byte_classes.specs.declared.class.Class.TheVariants.{Mark, Other}
use Rattle.byte_classes.specs.declared.class.Mark as mark
use Rattle.source.specs.Meaning.{Last, ends, faults}
use Rattle.sheet.specs.Faults.{fault_number}
use Rattle.sheet.specs.Kinds.{mark_kind, word_kind}
use Rattle.sheet.specs.Places.{Position, place, moved, along}
use Rattle.sheet.specs.Scan.{Spot}
use Rattle.sheet.specs.Runs.{in_name, in_comment}
use Rattle.sheet.specs.declared.fault.ScanFault.{ScanFault}

-- the text begins with a byte that passes
abbrev pub Begins : (ℕ → Bool) → List ℕ → Type 0
Begins p [] = ⊥
Begins p (b ∷ bs) = p b ≡ true

-- w has only bytes that pass, and the text behind it begins with none
pub record Run (p : ℕ → Bool) (w rest : List ℕ) : Type 0 where
  pub all : AllByRecursion (λ b. p b ≡ true) w
  pub longest : Begins p rest → ⊥

-- w is a token of this kind where `rest` follows it
pub data Lexical (kind : ℕ) (w rest : List ℕ) : Type 0 where
  is_number : kind ≡ 1 → Run digit w rest → 0 < length w → length w ≤ 32 → Lexical kind w rest
  is_word : kind ≡ word_kind (keyword_of w) → Run letter w rest → 0 < length w → length w ≤ 32 → Lexical kind w rest
  is_name : (inner : List ℕ) → kind ≡ 3 → w ≡ 34 ∷ (inner ++ 34 ∷ []) → AllByRecursion (λ b. in_name b ≡ true) inner → Lexical kind w rest
  is_mark : (b : ℕ) (m : mark.Mark) → kind ≡ mark_kind m → w ≡ b ∷ [] → class_of b ≡ Mark m → Lexical kind w rest
  is_line_end : kind ≡ 15 → w ≡ 10 ∷ [] → Lexical kind w rest
  is_comment : (inner : List ℕ) → kind ≡ 16 → w ≡ 35 ∷ inner → Run in_comment inner rest → Lexical kind w rest

-- the text s begins with the fault of this number
pub data Wrong (number : ℕ) (s : List ℕ) : Type 0 where
  no_class : (b : ℕ) (rest : List ℕ) → number ≡ 19 → s ≡ b ∷ rest → class_of b ≡ Other → Wrong number s
  open_quote : (inner rest : List ℕ) → number ≡ 20 → s ≡ 34 ∷ (inner ++ rest) → Run in_name inner rest → (Begins (nat_eq 34) rest → ⊥) → Wrong number s
  long_number : (w rest : List ℕ) → number ≡ 21 → s ≡ w ++ rest → Run digit w rest → 32 < length w → Wrong number s
  long_word : (w rest : List ℕ) → number ≡ 21 → s ≡ w ++ rest → Run letter w rest → 32 < length w → Wrong number s

-- the text s, whose first byte stands at p, has these tokens and this last entry
pub data Reads : List ℕ → Position → List Spot → Last ScanFault → Type 0 where
  at_end : (s : List ℕ) (p : Position) → s ≡ [] → Reads s p [] (ends (place p))
  skips : (s : List ℕ) (p : Position) (b : ℕ) (rest : List ℕ) (ts : List Spot) (l : Last ScanFault) → s ≡ b ∷ rest → blank b ≡ true → Reads rest (moved p b) ts l → Reads s p ts l
  takes : (s : List ℕ) (p : Position) (kind : ℕ) (w rest : List ℕ) (ts : List Spot) (l : Last ScanFault) → s ≡ w ++ rest → Lexical kind w rest → Reads rest (along p w) ts l → Reads s p (record { kind = kind; text = w; place = place p } ∷ ts) l
  breaks : (s : List ℕ) (p : Position) (f : ScanFault) → Wrong (fault_number f) s → Reads s p [] (faults (record { fault = f; place = place p }))
