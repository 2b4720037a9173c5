-- What the examples come to.
use Rattle.std.specs.Prelude.{ℕ, [], ◌∷◌}
use Rattle.std.specs.declared.convert.Infallible.{Infallible}
use Rattle.source.specs.declared.draining.Stop.TheVariants.{End, Fault}
use Rattle.source.specs.declared.fault.LayerFault.{LayerFault}
use Rattle.source.specs.declared.fault.LayerFault.TheVariants.{QuotaUsed}
use Rattle.source.specs.declared.token.Place.{Place}
use Rattle.source.specs.declared.token.Place.TheVariants.{One, Two}
use Rattle.source.specs.declared.token.Token.{Token}
use Rattle.sheet.specs.declared.fault.ScanFault.{ScanFault}
use Rattle.sheet.specs.declared.fault.ScanFault.TheVariants.{OpenQuote}
use Rattle.cases.specs.declared.sources.Outcome.{Outcome}

-- a token of this kind at this place
abbrev pub token : ℕ → Place → Token
token kind place = record { kind = kind; place = place }

-- what stands where no token was written
abbrev pub none : Token
none = token 0 (One 0)

-- 2 and 1 at places 2 and 4, and the end at 5
abbrev pub skip_outcome : Outcome (LayerFault Infallible)
skip_outcome = record {
  list = token 2 (One 2) ∷ token 1 (One 4) ∷ none ∷ none ∷ [];
  drained = record { tokens = 2; stop = End (One 5) };
}

-- 2 at place 1, and then the quota is used up at place 2
abbrev pub quota_outcome : Outcome (LayerFault Infallible)
quota_outcome = record {
  list = token 2 (One 1) ∷ none ∷ none ∷ none ∷ [];
  drained = record { tokens = 1; stop = Fault (record { fault = QuotaUsed; place = One 2 }) };
}

-- the word set and a number, and then a quote that is not closed at column 7
abbrev pub sheet_outcome : Outcome ScanFault
sheet_outcome = record {
  list = token 11 (Two 1 1) ∷ token 1 (Two 1 5) ∷ none ∷ none ∷ [];
  drained = record { tokens = 2; stop = Fault (record { fault = OpenQuote; place = Two 1 7 }) };
}
