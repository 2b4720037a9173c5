-- Places, refusals and faults as text.
use Rattle.std.specs.Prelude.{ℕ, List, ◌++◌, Some, codes, decimal, Option}
use Rattle.source.specs.declared.fault.LayerFault.{LayerFault}
use Rattle.source.specs.declared.fault.LayerFault.TheVariants.{Under, QuotaUsed}
use Rattle.source.specs.declared.fault.TooLong.{TooLong}
use Rattle.source.specs.declared.token.Place.{Place}
use Rattle.source.specs.declared.token.Place.TheVariants.{One, Two}

-- one number, or the line, a colon and the column
abbrev pub place_text : Place → List ℕ
place_text (One n) = decimal n
place_text (Two line column) = decimal line ++ (codes ":" ++ decimal column)

-- that is all that `{}` writes of a place
abbrev pub shown_place : Place → Option (List ℕ)
shown_place p = Some (place_text p)

-- why too many bytes are refused
abbrev pub reason_too_long : List ℕ
reason_too_long = codes "more than 60,000 bytes"

-- that is all that `{}` writes of the refusal
abbrev pub shown_too_long : TooLong → Option (List ℕ)
shown_too_long e = Some reason_too_long

-- why a quota ends a source's tokens
abbrev pub reason_quota_used : List ℕ
reason_quota_used = codes "the quota is used up"

-- a fault that came up through a layer keeps its text
abbrev pub shown_layer_fault : {F : Type 0} → (F → Option (List ℕ)) → LayerFault F → Option (List ℕ)
shown_layer_fault below (Under f) = below f
shown_layer_fault below QuotaUsed = Some reason_quota_used
