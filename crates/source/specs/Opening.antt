-- What opening a source does.
use Rattle.std.specs.Prelude.{◌≡◌, ℕ, ◌<◌, ◌≤◌, [], ◌∷◌, Ok, Err, Result}
use Rattle.source.specs.declared.fault.TooLong.{TooLong}
use Rattle.source.specs.Refusals.{too_long}

-- n bytes are too many for a source: more than 60,000, which is refused with 18 and their number
abbrev pub Refused : ℕ → TooLong → Type 0
Refused n e = (60000 < n) × (too_long e ≡ record { number = 18; returned = n ∷ [] })

-- a source is opened on n bytes, whose meaning is `whole`: it means that; or there are too many, and no source is opened
abbrev pub Opening : {S M : Type 0} → (S → M) → ℕ → M → Result S TooLong → Type 0
Opening meaning n whole (Ok s) = (n ≤ 60000) × (meaning s ≡ whole)
Opening meaning n whole (Err e) = Refused n e
