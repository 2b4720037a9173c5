-- What sources give to a reading.
use Rattle.std.specs.Prelude.{◌≡◌, ℕ, ◌+◌, List, [], ◌∷◌, Ok, Result}
use Rattle.source.specs.declared.fault.Faulted.{Faulted}
use Rattle.source.specs.declared.token.Entry.{Entry}
use Rattle.source.specs.declared.token.Entry.TheVariants.{Given, End}
use Rattle.source.specs.declared.token.Place.{Place}
use Rattle.source.specs.declared.token.Token.{Token}
use Rattle.source.specs.Meaning.{Last, Meaning, answer, first, rest}
use Rattle.grammar.specs.Grammar.{end_mark}

-- What a source answers when it is asked: a token, the end or a fault.
abbrev pub Answer : Type 0 → Type 0
Answer F = Result (Entry Token) (Faulted F)

-- A source that meant m gave these answers, one after the other, and means m' now.
abbrev pub Gave : {F : Type 0} → Meaning F → List (Answer F) → Meaning F → Type 0
Gave m [] m' = m' ≡ m
Gave m (a ∷ more) m' = (a ≡ answer m) × Gave (rest m) more m'

-- Entries, as answers.
abbrev pub as_answers : {F : Type 0} → List (Entry Token) → List (Answer F)
as_answers [] = []
as_answers (e ∷ es) = Ok e ∷ as_answers es

-- The whole list of a source: its tokens, and the last entry.
abbrev pub listed : {F : Type 0} → List Token → Last F → List (Answer F)
listed [] l = first [] l ∷ []
listed (t ∷ ts) l = Ok (Given t) ∷ listed ts l

-- The symbol that an entry stands for: the end is the end mark.
abbrev pub symbol_of : Entry Token → ℕ
symbol_of (Given t) = t.kind
symbol_of (End p) = end_mark

-- The symbols of a list of entries.
abbrev pub symbols_of : List (Entry Token) → List ℕ
symbols_of [] = []
symbols_of (e ∷ es) = symbol_of e ∷ symbols_of es

-- How many tokens there are among entries.
abbrev pub tokens_in : List (Entry Token) → ℕ
tokens_in [] = 0
tokens_in (Given t ∷ es) = tokens_in es + 1
tokens_in (End p ∷ es) = tokens_in es

-- The place of an entry.
abbrev pub place_of : Entry Token → Place
place_of (Given t) = t.place
place_of (End p) = p

-- The kinds of tokens.
abbrev pub kinds : List Token → List ℕ
kinds [] = []
kinds (t ∷ ts) = t.kind ∷ kinds ts
