-- What draining a source into a list does, by the length of the list and the meaning of the source.
use Rattle.std.specs.Prelude.{ℕ, min, cond, List, ◌++◌, length, take, drop, nat_lt}
use Rattle.source.specs.declared.draining.Drained.{Drained}
use Rattle.source.specs.declared.draining.Stop.{Stop}
use Rattle.source.specs.declared.draining.Stop.TheVariants.{End, Fault, Full}
use Rattle.source.specs.declared.token.Token.{Token}
use Rattle.source.specs.Meaning.{Last, Meaning, ends, faults}

-- how many tokens the list takes over
abbrev pub taken : {F : Type 0} → ℕ → Meaning F → ℕ
taken room m = min room (length m.tokens)

-- the last entry as a reason to stop
abbrev pub stop : {F : Type 0} → Last F → Stop F
stop (ends p) = End p
stop (faults f) = Fault f

-- the last entry comes where the list has room behind the tokens
abbrev pub drained : {F : Type 0} → ℕ → Meaning F → Drained F
drained room m = record { tokens = taken room m; stop = cond (nat_lt (length m.tokens) room) (stop m.last) Full }

-- what the source means then: the tokens that found no room, and the last entry
abbrev pub after_draining : {F : Type 0} → ℕ → Meaning F → Meaning F
after_draining room m = record { tokens = drop (taken room m) m.tokens; last = m.last }

-- the list then: the tokens at its front, the rest as before
abbrev pub filled : {F : Type 0} → List Token → Meaning F → List Token
filled list m = let n = taken (length list) m in take n m.tokens ++ drop n list
