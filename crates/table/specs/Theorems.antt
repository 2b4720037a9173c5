-- What is proved of the check's answer. The contracts ask for it.
use Rattle.std.specs.Prelude.{◌≡◌, ℕ, ◌<◌, ◌↔◌, [], ◌∷◌, ◌++◌, Ok, Err, Result}
use mathlib.Core.List.{Memᴰ}
use Rattle.grammar.specs.Sound.{Sound}
use Rattle.grammar.specs.Parser.{Deterministic}
use Rattle.grammar.specs.Canonical.{Canonical, NumberedInOrder}
use Rattle.grammar.specs.LL.{IsLL}
use Rattle.frames.specs.Raw.{Raw, header_of}
use Rattle.table.specs.declared.refused.CheckRefusal.{CheckRefusal}
use Rattle.table.specs.declared.refused.CheckRefusal.TheVariants.{TwoFit}
use Rattle.table.specs.Contents.{grammar_of, table_of}
use Rattle.table.specs.Rows.{Row, defined, distinct, found, one_fits, form_rows, grammar_rows, SuccessorsOnce, ChoicesOnce, Good, Applies, Verdict, AcceptedFile}

-- There is one answer only.
abbrev pub VerdictIsOne : Type 0
VerdictIsOne = (R : Raw) (v w : Result (Unit {0}) CheckRefusal) → Verdict R v → Verdict R w → v ≡ w

-- It is Ok just when nothing is wrong.
abbrev pub OkAccepts : Type 0
OkAccepts = (R : Raw) → Verdict R (Ok tt) ↔ AcceptedFile R

-- The frames are those of a table: they have the form, and each list names a symbol, or a nonterminal with a word, once.
pub record HoldsTable (R : Raw) : Type 0 where
  pub formed : (c : Row) → Memᴰ c form_rows → (i : ℕ) → Good R c i
  pub once : (q : ℕ) → q < (header_of R).s → SuccessorsOnce R q × ChoicesOnce R q

-- They hold a sound grammar and its canonical LL(k) collection, with a deterministic parser, in an order in which the states can be found.
abbrev pub HoldsCanonical : Raw → Type 0
HoldsCanonical R =
    HoldsTable R × (Sound (grammar_of R) × (Canonical (grammar_of R) (table_of R) × (Deterministic (grammar_of R) × NumberedInOrder (table_of R))))

-- That is so of just the files with nothing wrong.
abbrev pub AcceptedIsCanonical : Type 0
AcceptedIsCanonical = (R : Raw) → AcceptedFile R ↔ HoldsCanonical R

-- Where nothing is wrong before it, two rules fit one word at some state just when the grammar is not LL(k).
abbrev pub ConflictIsNotLL : Type 0
ConflictIsNotLL =
    (R : Raw) → ((c : Row) → Memᴰ c (form_rows ++ (grammar_rows ++ (defined ∷ distinct ∷ found ∷ []))) → (i : ℕ) → Good R c i)
    → ((q : ℕ) × Applies R one_fits q) ↔ (IsLL (grammar_of R) → ⊥)

-- It is Ok just when no cause applies.
abbrev pub OkWithoutCause : Type 0
OkWithoutCause =
    (R : Raw) (v : Result (Unit {0}) CheckRefusal) → Verdict R v
    → (v ≡ Ok tt) ↔ ((c : Row) (i : ℕ) → Applies R c i → ⊥)

-- Where no cause before it applies, the answer is that two rules fit one word, at some state, just when the grammar is not LL(k).
abbrev pub AnswersNotLL : Type 0
AnswersNotLL =
    (R : Raw) (v : Result (Unit {0}) CheckRefusal) → Verdict R v
    → ((c : Row) → Memᴰ c (form_rows ++ (grammar_rows ++ (defined ∷ distinct ∷ found ∷ []))) → (i : ℕ) → Applies R c i → ⊥)
    → ((q : ℕ) × (v ≡ Err (TwoFit q))) ↔ (IsLL (grammar_of R) → ⊥)
