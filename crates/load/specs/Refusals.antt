-- The refusals of load by their numbers, and what is returned with each.
use Rattle.std.specs.Prelude.{ℕ, List, [], ◌∷◌, codes}
use Rattle.refusal.specs.Refusal.{Refusal}
use Rattle.load.specs.declared.fault.LoadRefusal.{LoadRefusal}
use Rattle.load.specs.declared.fault.LoadRefusal.TheVariants.{TextTooLong, NotAFrame, NoRoom}

-- a refusal that is returned with one number
abbrev pub refused : ℕ → ℕ → Refusal
refused number with = record { number = number; returned = with ∷ [] }

-- 1: the text is too long; 2: a line is no frame, returned with its number; 3: the store or the starts are too short
abbrev pub refusal_of : LoadRefusal → Refusal
refusal_of TextTooLong = refused 1 0
refusal_of (NotAFrame n) = refused 2 n
refusal_of NoRoom = refused 3 0

-- why a text is not loaded, in words
abbrev pub reason_of : LoadRefusal → List ℕ
reason_of TextTooLong = codes "the text has over 1048576 bytes"
reason_of (NotAFrame n) = codes "the line is no frame"
reason_of NoRoom = codes "the store or the list of starts is too short"
