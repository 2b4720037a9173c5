-- What is known of a reading in the words of its grammar: while it goes on, and once it is over.
use Rattle.std.specs.Prelude.{◌≡◌, ℕ, ◌+◌, ◌<◌, ◌⊎◌, ◌↔◌, List, [], ◌∷◌, ◌++◌, length}
use Rattle.source.specs.declared.token.Entry.{Entry}
use Rattle.source.specs.declared.token.Place.{Place}
use Rattle.source.specs.declared.token.Token.{Token}
use Rattle.source.specs.Meaning.{Meaning, ends}
use Rattle.grammar.specs.Grammar.{Grammar}
use Rattle.grammar.specs.Derivation.{Sentence, LeftParse}
use Rattle.table.specs.LookUps.{BeginsWith}
use Rattle.reading.specs.declared.answer.Ending.{Ending}
use Rattle.reading.specs.declared.answer.Ending.TheVariants.{Finished, Unfit}
use Rattle.reading.specs.declared.answer.Standing.{Standing}
use Rattle.reading.specs.declared.answer.Standing.TheVariants.{Over}
use Rattle.reading.specs.Given.{Answer, as_answers, listed, place_of, kinds}
use Rattle.reading.specs.Sentences.{Continues}

-- Some sentence with its end mark begins with what was let in; the rules announced begin every left parse of every such sentence.
pub record OnTheWay (g : Grammar) (es : List (Entry Token)) (rules : List ℕ) : Type 0 where
  pub sentence : (v : List ℕ) × (Sentence g v × Continues v es)
  pub parses : (v rs : List ℕ) → LeftParse g v rs → Continues v es → BeginsWith rs rules

-- The source meant m, and the whole list was read: it is a sentence with its end, and the rules announced are its only left parse.
pub record ReadAll {F : Type 0} (g : Grammar) (m : Meaning F) (gave : List (Answer F)) (rules : List ℕ) (moves : ℕ) : Type 0 where
  pub all : gave ≡ listed m.tokens m.last
  pub parse : LeftParse g (kinds m.tokens) rules
  pub only : (rs : List ℕ) → LeftParse g (kinds m.tokens) rs → rs ≡ rules
  pub counted : moves ≡ length rules + length m.tokens + 1

-- The entries es were let in and e was refused: e is the first of the list up to and with which no sentence with its end mark goes. Nothing was
-- requested after it, and fewer moves were made than any sentence takes that begins with what stands before it.
pub record RefusedFirst {F : Type 0} (g : Grammar) (m : Meaning F) (gave : List (Answer F)) (es : List (Entry Token)) (moves : ℕ)
    (e : Entry Token) : Type 0 where
  pub requested : gave ≡ as_answers (es ++ e ∷ [])
  pub in_list : BeginsWith (listed m.tokens m.last) gave
  pub before : (v : List ℕ) × (Sentence g v × Continues v es)
  pub none_with : (v : List ℕ) → Sentence g v → Continues v (es ++ e ∷ []) → ⊥
  pub counted : (v rs : List ℕ) → LeftParse g v rs → Continues v es → moves < length rs + length v + 1

-- A reading is over.
abbrev pub IsOver : Standing → Type 0
IsOver s = (e : Ending) × (s ≡ Over e)

-- It is over, and neither by a limit nor by a fault of the source.
abbrev pub Decided : Standing → Type 0
Decided s = (s ≡ Over Finished) ⊎ (s ≡ Over Unfit)

-- What a reading over one source has come to, which meant m at first: what it gave, the entries let in, the rules announced and the moves made. The
-- reading has finished exactly where the list is a sentence and then the end. R says of a place that the refusal named it.
pub record Outcome {F : Type 0} (g : Grammar) (m : Meaning F) (s : Standing) (gave : List (Answer F)) (es : List (Entry Token))
    (rules : List ℕ) (moves : ℕ) (R : Place → Type 0) : Type 0 where
  pub exactly : (s ≡ Over Finished) ↔ (Sentence g (kinds m.tokens) × ((p : Place) × (m.last ≡ ends p)))
  pub when_finished : s ≡ Over Finished → ReadAll g m gave rules moves
  pub when_refused : s ≡ Over Unfit → (e : Entry Token) × (RefusedFirst g m gave es moves e × R (place_of e))
