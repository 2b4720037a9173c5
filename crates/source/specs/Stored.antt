-- What a list of bytes in memory means: each byte is a token's kind, at its place from 1; the end comes behind the last.
use Rattle.std.specs.Prelude.{ℕ, ◌+◌, List, [], ◌∷◌, length}
use Rattle.std.specs.declared.convert.Infallible.{Infallible}
use Rattle.source.specs.declared.stored.StoredList.{StoredList}
use Rattle.source.specs.declared.token.Place.TheVariants.{One}
use Rattle.source.specs.declared.token.Token.{Token}
use Rattle.source.specs.Meaning.{Meaning, ends}

-- these kinds as tokens, the first of them at place n
abbrev pub placed : List ℕ → ℕ → List Token
placed [] n = []
placed (kind ∷ kinds) n = record { kind = kind; place = One n } ∷ placed kinds (n + 1)

-- what these kinds mean
abbrev pub stored : List ℕ → Meaning Infallible
stored kinds = record { tokens = placed kinds 1; last = ends (One (length kinds + 1)) }

-- what a stored list means: the kinds that are left, behind those that have been given
abbrev pub listed : StoredList → Meaning Infallible
listed s = record { tokens = placed s.rest.now (s.given + 1); last = ends (One (s.given + length s.rest.now + 1)) }
