-- The lines that are printed of a reading.
use Rattle.std.specs.Prelude.{ℕ, Bool, true, false, cond, List, [], ◌∷◌, ◌++◌, length, Some, Option, Ok, Err, Result, codes, decimal, nat_le, option_map}
use Rattle.std.specs.List.{flat_map}
use Rattle.source.specs.Shown.{place_text}
use Rattle.source.specs.declared.token.Token.{Token}
use Rattle.reading.specs.Refusals.{Value, of_number, of_place, read_number, values_of}
use Rattle.reading.specs.declared.answer.Move.{Move}
use Rattle.reading.specs.declared.answer.Move.TheVariants.{Announce, Take, Finish}
use Rattle.reading.specs.declared.answer.ReadRefusal.{ReadRefusal}
use Rattle.reading.specs.declared.answer.ReadRefusal.TheVariants.{Unfit, StackFull, MovesSpent, Source, Over, ListTooShort}
use Rattle.reading.specs.declared.answer.View.{View}

-- rule RULE, closed by a line end
abbrev pub rule_line : ℕ → List ℕ
rule_line r = codes "rule " ++ (decimal r ++ 10 ∷ [])

-- token PLACE KIND, closed by a line end
abbrev pub token_line : Token → List ℕ
token_line t = codes "token " ++ (place_text t.place ++ (codes " " ++ (decimal t.kind ++ 10 ∷ [])))

-- the line of a move; a finish has none
abbrev pub move_line : Move → List ℕ
move_line (Announce r) = rule_line r
move_line (Take t) = token_line t
move_line Finish = []

-- no move follows
abbrev pub last : Move → Bool
last (Announce r) = false
last (Take t) = false
last Finish = true

-- a number and a blank
abbrev pub spaced : ℕ → List ℕ
spaced r = decimal r ++ 32 ∷ []

-- at most 1,000 rules one behind the other; of more only that there are some
abbrev pub rules_text : List ℕ → List ℕ
rules_text rs = cond (nat_le (length rs) 1000) (flat_map spaced rs) (codes "... ")

-- tokens=TOKENS rules=RULES moves=MOVES
abbrev pub counts_text : View → List ℕ
counts_text v = codes "tokens=" ++ (decimal v.tokens ++ (codes " rules=" ++ (decimal v.rules ++ (codes " moves=" ++ decimal v.moves))))

-- a value that is returned
abbrev pub value_text : Value → List ℕ
value_text (of_number n) = decimal n
value_text (of_place p) = place_text p

-- values, with a blank between them
abbrev pub joined : List Value → List ℕ
joined [] = []
joined (v ∷ []) = value_text v
joined (v ∷ w ∷ more) = value_text v ++ (codes " " ++ joined (w ∷ more))

-- what is returned with a refusal, by the number of a fault
abbrev pub values_text : {F : Type 0} → (F → ℕ) → ReadRefusal F → List ℕ
values_text number e = joined (values_of number e)

-- the reason of a refusal, by what is shown of a fault
abbrev pub shown_reason : {F : Type 0} → (F → Option (List ℕ)) → ReadRefusal F → Option (List ℕ)
shown_reason shown (Unfit p) = Some (codes "the token or the end cannot stand here")
shown_reason shown StackFull = Some (codes "the stack would pass 256 states")
shown_reason shown MovesSpent = Some (codes "1,000,000 moves are made")
shown_reason shown (Source f) = shown f.fault
shown_reason shown (Over e) = Some (codes "the reading is over")
shown_reason shown ListTooShort = Some (codes "the list is shorter than the moves asked for")

-- finished COUNTS
abbrev pub finished_text : View → List ℕ
finished_text v = codes "finished " ++ counts_text v

-- refused NUMBER VALUES COUNTS: reason
abbrev pub refused_text : {F : Type 0} → (F → ℕ) → ReadRefusal F → View → List ℕ → List ℕ
refused_text number e v reason =
    codes "refused " ++ (decimal (read_number e) ++ (codes " " ++ (values_text number e ++ (codes " " ++ (counts_text v ++ (codes ": " ++ reason))))))

-- the closing line, by the number of a fault and what is shown of it
abbrev pub shown_closing : {F : Type 0} → (F → ℕ) → (F → Option (List ℕ)) → Result (Unit {0}) (ReadRefusal F) → View → Option (List ℕ)
shown_closing number shown (Ok done) v = Some (finished_text v)
shown_closing number shown (Err e) v = option_map (λ reason. refused_text number e v reason) (shown_reason shown e)
