-- What a source means: the tokens that are still to come, and the last entry.
use Rattle.std.specs.Prelude.{◌≡◌, List, [], ◌∷◌, drop, Ok, Err, Result}
use Rattle.source.specs.declared.fault.Faulted.{Faulted}
use Rattle.source.specs.declared.token.Entry.{Entry}
use Rattle.source.specs.declared.token.Entry.TheVariants.{Given, End}
use Rattle.source.specs.declared.token.Place.{Place}
use Rattle.source.specs.declared.token.Token.{Token}

-- the last entry: the end at a place, or a fault with its place
pub data Last (F : Type 0) : Type 0 where
  ends : Place → Last F
  faults : Faulted F → Last F

-- the tokens in their order, and then the last entry
pub record Meaning (F : Type 0) : Type 0 where
  pub tokens : List Token
  pub last : Last F

-- the first of these tokens, or the last entry where there is none
abbrev pub first : {F : Type 0} → List Token → Last F → Result (Entry Token) (Faulted F)
first [] (ends p) = Ok (End p)
first [] (faults f) = Err f
first (t ∷ ts) l = Ok (Given t)

-- what a source of this meaning answers when it is asked
abbrev pub answer : {F : Type 0} → Meaning F → Result (Entry Token) (Faulted F)
answer m = first m.tokens m.last

-- what it means afterwards: the first token is gone, the last entry stays
abbrev pub rest : {F : Type 0} → Meaning F → Meaning F
rest m = record { tokens = drop 1 m.tokens; last = m.last }

-- a source that meant m was asked, answered r, and means m' now
pub record Asked {F : Type 0} (m : Meaning F) (r : Result (Entry Token) (Faulted F)) (m' : Meaning F) : Type 0 where
  pub answers : r ≡ answer m
  pub leaves : m' ≡ rest m
