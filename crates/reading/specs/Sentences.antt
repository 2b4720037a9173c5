-- Sentences against what sources give.
use Rattle.std.specs.Prelude.{ℕ, List, [], ◌∷◌, Some, None, Ok, Err, Option}
use Rattle.source.specs.declared.token.Entry.{Entry}
use Rattle.source.specs.declared.token.Entry.TheVariants.{Given, End}
use Rattle.source.specs.declared.token.Token.{Token}
use Rattle.table.specs.LookUps.{BeginsWith}
use Rattle.reading.specs.declared.answer.ReadRefusal.{ReadRefusal}
use Rattle.reading.specs.declared.answer.ReadRefusal.TheVariants.{Unfit, StackFull, MovesSpent, Source, Over, ListTooShort}
use Rattle.reading.specs.Given.{Answer}

-- A sentence with its end mark is its tokens, by their kinds, and then the end. Only the end is an end mark, whatever kind a token has.
pub data Sign : Type 0 where
  token : ℕ → Sign
  end : Sign

abbrev pub with_end : List ℕ → List Sign
with_end [] = end ∷ []
with_end (a ∷ v) = token a ∷ with_end v

-- Entries in these terms.
abbrev pub sign_of : Entry Token → Sign
sign_of (Given t) = token t.kind
sign_of (End p) = end

abbrev pub signs : List (Entry Token) → List Sign
signs [] = []
signs (e ∷ es) = sign_of e ∷ signs es

-- v with its end mark begins with these entries.
abbrev pub Continues : List ℕ → List (Entry Token) → Type 0
Continues v es = BeginsWith (with_end v) (signs es)

-- The entries among answers: without the faults.
abbrev pub entries_in : {F : Type 0} → List (Answer F) → List (Entry Token)
entries_in [] = []
entries_in (Ok e ∷ more) = e ∷ entries_in more
entries_in (Err f ∷ more) = entries_in more

-- All but the last.
abbrev pub but_last : {A : Type 0} → List A → List A
but_last [] = []
but_last (a ∷ []) = []
but_last (a ∷ b ∷ more) = a ∷ but_last (b ∷ more)

-- What a call let in: the entries that its source gave, without the one that it refused.
abbrev pub let_in_by : {F : Type 0} → Option (ReadRefusal F) → List (Answer F) → List (Entry Token)
let_in_by None gave = entries_in gave
let_in_by (Some (Unfit p)) gave = but_last (entries_in gave)
let_in_by (Some StackFull) gave = entries_in gave
let_in_by (Some MovesSpent) gave = entries_in gave
let_in_by (Some (Source f)) gave = entries_in gave
let_in_by (Some (Over e)) gave = entries_in gave
let_in_by (Some ListTooShort) gave = entries_in gave
