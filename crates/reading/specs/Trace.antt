-- What the calls on a reading come to together.
use Rattle.std.specs.Prelude.{◌≡◌, ℕ, ◌+◌, List, [], ◌∷◌, ◌++◌, Some}
use mathlib.Core.List.{Memᴰ}
use Rattle.source.specs.declared.token.Entry.{Entry}
use Rattle.source.specs.declared.token.Place.{Place}
use Rattle.source.specs.declared.token.Token.{Token}
use Rattle.source.specs.Meaning.{Meaning}
use Rattle.reading.specs.declared.answer.ReadRefusal.TheVariants.{Unfit}
use Rattle.reading.specs.Given.{Answer, Gave}
use Rattle.reading.specs.History.{Call}
use Rattle.reading.specs.Sentences.{let_in_by}

-- What the calls let in, what the sources gave to them, the rules that they returned or wrote, and how many moves they made and were asked for.
abbrev pub let_in : {F : Type 0} → List (Call F) → List (Entry Token)
let_in [] = []
let_in (c ∷ cs) = let_in_by c.refusal c.gave ++ let_in cs

abbrev pub given : {F : Type 0} → List (Call F) → List (Answer F)
given [] = []
given (c ∷ cs) = c.gave ++ given cs

abbrev pub announced : {F : Type 0} → List (Call F) → List ℕ
announced [] = []
announced (c ∷ cs) = c.rules ++ announced cs

abbrev pub moves : {F : Type 0} → List (Call F) → ℕ
moves [] = 0
moves (c ∷ cs) = c.made + moves cs

abbrev pub asked : {F : Type 0} → List (Call F) → ℕ
asked [] = 0
asked (c ∷ cs) = c.asked + asked cs

-- Each call had from its source what it says, and left it so.
abbrev pub FromSources : {F : Type 0} → List (Call F) → Type 0
FromSources [] = Unit {0}
FromSources (c ∷ cs) = Gave c.before c.gave c.after × FromSources cs

-- Each call had the source as the call before left it, and it meant m before the first.
abbrev pub FromOne : {F : Type 0} → Meaning F → List (Call F) → Type 0
FromOne m [] = Unit {0}
FromOne m (c ∷ cs) = (c.before ≡ m) × FromOne c.after cs

-- One of them was refused since the entry at this place cannot be let in.
abbrev pub RefusedAt : {F : Type 0} → List (Call F) → Place → Type 0
RefusedAt {F} calls p = (c : Call F) × (Memᴰ c calls × (c.refusal ≡ Some (Unfit p)))
