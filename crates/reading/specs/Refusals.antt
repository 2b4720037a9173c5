-- The refusals of a reading by their numbers, and what is returned with each.
use Rattle.std.specs.Prelude.{ℕ, List, [], ◌∷◌}
use Rattle.refusal.specs.Refusal.{Refusal}
use Rattle.std.specs.List.{flat_map}
use Rattle.source.specs.declared.token.Place.{Place}
use Rattle.source.specs.Refusals.{numbers}
use Rattle.reading.specs.declared.answer.Ending.{Ending}
use Rattle.reading.specs.declared.answer.Ending.TheVariants as ending
use Rattle.reading.specs.declared.answer.ReadRefusal.{ReadRefusal}
use Rattle.reading.specs.declared.answer.ReadRefusal.TheVariants.{Unfit, StackFull, MovesSpent, Source, Over, ListTooShort}

-- The number that ended a reading, or 0 if it finished.
abbrev pub ending_number : Ending → ℕ
ending_number ending.Finished = 0
ending_number ending.Unfit = 12
ending_number ending.StackFull = 13
ending_number ending.MovesSpent = 14
ending_number ending.SourceFault = 15

-- The number of a refusal.
abbrev pub read_number : {F : Type 0} → ReadRefusal F → ℕ
read_number (Unfit p) = 12
read_number StackFull = 13
read_number MovesSpent = 14
read_number (Source f) = 15
read_number (Over e) = 16
read_number ListTooShort = 17

-- A value that is returned: a number, or a place.
pub data Value : Type 0 where
  of_number : ℕ → Value
  of_place : Place → Value

-- What is returned with a refusal, where the sources' faults have these numbers: the place of the token or the end; the number of the source's fault
-- and its place; the number that ended the reading.
abbrev pub values_of : {F : Type 0} → (F → ℕ) → ReadRefusal F → List Value
values_of fault_number (Unfit p) = of_place p ∷ []
values_of fault_number StackFull = of_number 0 ∷ []
values_of fault_number MovesSpent = of_number 0 ∷ []
values_of fault_number (Source f) = of_number (fault_number f.fault) ∷ of_place f.place ∷ []
values_of fault_number (Over e) = of_number (ending_number e) ∷ []
values_of fault_number ListTooShort = of_number 0 ∷ []

-- A value in numbers.
abbrev pub in_numbers : Value → List ℕ
in_numbers (of_number n) = n ∷ []
in_numbers (of_place p) = numbers p

-- A refusal by its number, with what is returned.
abbrev pub read_refusal : {F : Type 0} → (F → ℕ) → ReadRefusal F → Refusal
read_refusal fault_number e = record { number = read_number e; returned = flat_map in_numbers (values_of fault_number e) }
