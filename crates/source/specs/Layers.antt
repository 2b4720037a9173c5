-- What the layers mean, by what the source below them means.
use Rattle.std.specs.Prelude.{◌≡◌, ℕ, ◌-◌, ◌<◌, ◌≤◌, cond, not, List, [], ◌∷◌, length, take, Some, None, filter, Option, ◌==◌, ◌≢◌, slice_index_or}
use Rattle.source.specs.declared.fault.LayerFault.{LayerFault}
use Rattle.source.specs.declared.fault.LayerFault.TheVariants.{QuotaUsed}
use Rattle.source.specs.declared.layer.Quota.{Quota}
use Rattle.source.specs.declared.layer.Skip.{Skip}
use Rattle.source.specs.declared.token.Place.{Place}
use Rattle.source.specs.declared.token.Token.{Token}
use Rattle.source.specs.Meaning.{Last, Meaning, ends, faults}
use Rattle.source.specs.Refusals.{lift}

-- the last entry below, as a layer hands it on
abbrev pub lifted : {F : Type 0} → Last F → Last (LayerFault F)
lifted (ends p) = ends p
lifted (faults f) = faults (lift f)

-- skip c: the list below without the tokens of kind c
abbrev pub skipped : {F : Type 0} → ℕ → Meaning F → Meaning (LayerFault F)
skipped c m = record { tokens = filter (λ t. not (t.kind == c)) m.tokens; last = lifted m.last }

-- what a skip means over a source
abbrev pub skip_of : {S F : Type 0} → (S → Meaning F) → Skip S → Meaning (LayerFault F)
skip_of below s = skipped s.kind (below s.source)

-- us is ts without the tokens of kind c: the others stay, in their order
pub data Without (c : ℕ) : List Token → List Token → Type 0 where
  no_tokens : Without c [] []
  drops : (t : Token) (ts us : List Token) → t.kind ≡ c → Without c ts us → Without c (t ∷ ts) us
  keeps : (t : Token) (ts us : List Token) → (t.kind ≢ c) → Without c ts us → Without c (t ∷ ts) (t ∷ us)

-- s is a skip of c over m: the list below without the tokens of kind c, and the last entry below
pub record SkipLaw {F : Type 0} (c : ℕ) (m : Meaning F) (s : Meaning (LayerFault F)) : Type 0 where
  pub tokens : Without c m.tokens s.tokens
  pub last : s.last ≡ lifted m.last

-- a quota is used up at the place of the token that was one too many
abbrev pub used : {F : Type 0} → Place → Last (LayerFault F)
used p = faults (record { fault = QuotaUsed; place = p })

-- the first n tokens
abbrev pub front : ℕ → List Token → List Token
front n [] = []
front n (t ∷ ts) = cond (n == 0) [] (t ∷ front (n - 1) ts)

-- the last entry under a quota of n: the one below, or the fault at the place of the token behind the first n
abbrev pub past : {F : Type 0} → ℕ → List Token → Last F → Last (LayerFault F)
past n [] l = lifted l
past n (t ∷ ts) l = cond (n == 0) (used t.place) (past (n - 1) ts l)

-- a quota of n tokens over a list
abbrev pub allowed : {F : Type 0} → ℕ → Meaning F → Meaning (LayerFault F)
allowed n m = record { tokens = front n m.tokens; last = past n m.tokens m.last }

-- a quota that was used up at a place, or has n tokens left
abbrev pub quota : {F : Type 0} → Option Place → ℕ → Meaning F → Meaning (LayerFault F)
quota (Some p) n m = record { tokens = []; last = used p }
quota None n m = allowed n m

-- what a quota means over a source
abbrev pub quota_of : {S F : Type 0} → (S → Meaning F) → Quota S → Meaning (LayerFault F)
quota_of below s = quota s.over s.left (below s.source)

-- q is a quota of n over m: the list below if it has at most n tokens; otherwise its first n, and then the fault at the place of
-- the next
pub record QuotaLaw {F : Type 0} (n : ℕ) (m : Meaning F) (q : Meaning (LayerFault F)) : Type 0 where
  pub within : length m.tokens ≤ n → q ≡ record { tokens = m.tokens; last = lifted m.last }
  pub beyond : (t : Token) → n < length m.tokens → q ≡ record { tokens = take n m.tokens; last = used (slice_index_or m.tokens n t).place }
