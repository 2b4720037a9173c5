-- The refusals and faults of sources by their numbers, and what is returned with each.
use Rattle.std.specs.Prelude.{ℕ, List, [], ◌∷◌}
use Rattle.refusal.specs.Refusal.{Refusal}
use Rattle.source.specs.declared.fault.Faulted.{Faulted}
use Rattle.source.specs.declared.fault.LayerFault.{LayerFault}
use Rattle.source.specs.declared.fault.LayerFault.TheVariants.{Under, QuotaUsed}
use Rattle.source.specs.declared.fault.TooLong.{TooLong}
use Rattle.source.specs.declared.token.Place.{Place}
use Rattle.source.specs.declared.token.Place.TheVariants.{One, Two}

-- a place as numbers
abbrev pub numbers : Place → List ℕ
numbers (One n) = n ∷ []
numbers (Two line column) = line ∷ column ∷ []

-- 18: a source was to be opened on more than 60,000 bytes; returned with their number
abbrev pub too_long : TooLong → Refusal
too_long e = record { number = 18; returned = e.length ∷ [] }

-- a fault is returned with its place
abbrev pub fault_refusal : {F : Type 0} → (F → ℕ) → Faulted F → Refusal
fault_refusal number f = record { number = number f.fault; returned = numbers f.place }

-- a fault that came up through a layer keeps its number; 22: a quota is used up
abbrev pub layer_number : {F : Type 0} → (F → ℕ) → LayerFault F → ℕ
layer_number below (Under f) = below f
layer_number below QuotaUsed = 22

-- a fault as the layer above has it
abbrev pub lift : {F : Type 0} → Faulted F → Faulted (LayerFault F)
lift f = record { fault = Under f.fault; place = f.place }
