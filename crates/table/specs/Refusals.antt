-- The refusals of the check, by number.
use Rattle.std.specs.Prelude.{ℕ, List, [], ◌∷◌, codes}
use Rattle.refusal.specs.Refusal.{Refusal}
use Rattle.table.specs.declared.refused.CheckRefusal.{CheckRefusal}
use Rattle.table.specs.declared.refused.CheckRefusal.TheVariants.{Frame, Unproductive, Unreachable, Undefined, EqualToLower, NotFound, TwoFit, Mischosen}

-- Each refusal's number, and the frame, nonterminal or state that is returned with it.
abbrev pub refused : CheckRefusal → Refusal
refused (Frame i) = record { number = 4; returned = i ∷ [] }
refused (Unproductive A) = record { number = 5; returned = A ∷ [] }
refused (Unreachable A) = record { number = 6; returned = A ∷ [] }
refused (Undefined q) = record { number = 7; returned = q ∷ [] }
refused (EqualToLower q) = record { number = 8; returned = q ∷ [] }
refused (NotFound q) = record { number = 9; returned = q ∷ [] }
refused (TwoFit q) = record { number = 10; returned = q ∷ [] }
refused (Mischosen q) = record { number = 11; returned = q ∷ [] }

-- Why the check refuses a table, in words.
abbrev pub reason_of : CheckRefusal → List ℕ
reason_of (Frame i) = codes "the frame is not as defined"
reason_of (Unproductive A) = codes "the nonterminal derives no token string"
reason_of (Unreachable A) = codes "the nonterminal is in no string from the start"
reason_of (Undefined q) = codes "the state or its successors are not as defined"
reason_of (EqualToLower q) = codes "the state is equal to a lower one"
reason_of (NotFound q) = codes "the state is no successor of a lower one"
reason_of (TwoFit q) = codes "two rules fit one word"
reason_of (Mischosen q) = codes "the choices are not as defined"
