-- The causes of a refusal, row by row, and what the check answers.
use Rattle.std.specs.Prelude.{◌≡◌, ℕ, ◌<◌, true, ◌⊎◌, List, [], ◌∷◌, ◌++◌, Some, None, Ok, Err, Option, Result}
use mathlib.Core.List.{Memᴰ}
use Rattle.std.proofs.Math.Option.{some}
use Rattle.grammar.specs.Grammar.{IsNonterminal}
use Rattle.grammar.specs.Sound.{Productive, Reachable}
use Rattle.grammar.specs.Table.{StateAsDefined, ChoicesAsDefined}
use Rattle.grammar.specs.Table as table
use Rattle.frames.specs.declared.header.Section.TheVariants.{Successors, Choices}
use Rattle.frames.specs.Raw.{Raw, header_of, section_of}
use Rattle.frames.specs.Form.{numbers_good, start_good, frame_good}
use Rattle.lookahead.specs.Entries.{Choice, choices_in}
use Rattle.table.specs.declared.refused.CheckRefusal.{CheckRefusal}
use Rattle.table.specs.declared.refused.CheckRefusal.TheVariants.{Frame, Unproductive, Unreachable, Undefined, EqualToLower, NotFound, TwoFit, Mischosen}
use Rattle.table.specs.Contents.{grammar_of, table_of, Successor, successors_in, successor_in, choice_in}

-- What is asked of a table, the earliest first: of the two numbers, the starts and the frames; of the grammar; of the states.
pub data Row : Type 0 where
  numbers starts frames productive reachable defined distinct found one_fits chosen : Row

-- The list of successors of state q names each symbol once: every entry is what is found by its symbol.
abbrev pub SuccessorsOnce : Raw → ℕ → Type 0
SuccessorsOnce R q =
    (e : Successor) → Memᴰ e (successors_in (section_of R q Successors)) → successor_in e.symbol (section_of R q Successors) ≡ some e.state

-- The list of choices of state q names each nonterminal and word once.
abbrev pub ChoicesOnce : Raw → ℕ → Type 0
ChoicesOnce R q =
    (c : Choice) → Memᴰ c (choices_in (section_of R q Choices)) → choice_in c.nonterminal c.word (choices_in (section_of R q Choices)) ≡ some c.rule

-- State q is as defined, and so are its successors, each named once.
abbrev pub StateGood : Raw → ℕ → Type 0
StateGood R q = SuccessorsOnce R q × StateAsDefined (grammar_of R) (table_of R) q

-- The choices of state q are as defined, each named once.
abbrev pub ChoicesGood : Raw → ℕ → Type 0
ChoicesGood R q = ChoicesOnce R q × ChoicesAsDefined (grammar_of R) (table_of R) q

-- What a row asks of a frame, a nonterminal or a state.
abbrev pub Good : Raw → Row → ℕ → Type 0
Good R numbers i = i ≡ 0 → numbers_good R ≡ true
Good R starts i = i < R.frames → start_good R i ≡ true
Good R frames i = frame_good R i ≡ true
Good R productive A = IsNonterminal (grammar_of R) A → Productive (grammar_of R) A
Good R reachable A = IsNonterminal (grammar_of R) A → Reachable (grammar_of R) A
Good R defined q = q < (header_of R).s → StateGood R q
Good R distinct q = q < (header_of R).s → table.EqualToLower (table_of R) q → ⊥
Good R found q = q < (header_of R).s → table.NotFound (table_of R) q → ⊥
Good R one_fits q = q < (header_of R).s → table.TwoFit (grammar_of R) (table_of R) q → ⊥
Good R chosen q = q < (header_of R).s → ChoicesGood R q

-- A cause applies where a row's demand is not met.
abbrev pub Applies : Raw → Row → ℕ → Type 0
Applies R c i = Good R c i → ⊥

-- The refusal of a row.
abbrev pub refusal_of : Row → ℕ → CheckRefusal
refusal_of numbers i = Frame i
refusal_of starts i = Frame i
refusal_of frames i = Frame i
refusal_of productive A = Unproductive A
refusal_of reachable A = Unreachable A
refusal_of defined q = Undefined q
refusal_of distinct q = EqualToLower q
refusal_of found q = NotFound q
refusal_of one_fits q = TwoFit q
refusal_of chosen q = Mischosen q

-- The lowest number that a cause applies to.
pub record LowestOf (R : Raw) (c : Row) (i : ℕ) : Type 0 where
  pub applies : Applies R c i
  pub lowest : (j : ℕ) → j < i → Good R c j

-- What is found by a row: the lowest number that its cause applies to, or none where all is good.
abbrev pub Answers : Raw → Row → Option ℕ → Type 0
Answers R c (Some i) = LowestOf R c i
Answers R c None = (i : ℕ) → Good R c i

-- Among some rows, the earliest whose cause applies is answered with its lowest number; where none applies, the answer is Ok.
abbrev pub VerdictBy : Raw → List Row → Result (Unit {0}) CheckRefusal → Type 0
VerdictBy R [] v = v ≡ Ok tt
VerdictBy R (c ∷ cs) v =
    ((i : ℕ) × (LowestOf R c i × (v ≡ Err (refusal_of c i)))) ⊎ (((i : ℕ) → Good R c i) × VerdictBy R cs v)

-- The rows of the frames.
abbrev pub form_rows : List Row
form_rows = numbers ∷ starts ∷ frames ∷ []

-- Those of the grammar.
abbrev pub grammar_rows : List Row
grammar_rows = productive ∷ reachable ∷ []

-- Those of the states.
abbrev pub state_rows : List Row
state_rows = defined ∷ distinct ∷ found ∷ one_fits ∷ chosen ∷ []

-- The answer of the check.
abbrev pub Verdict : Raw → Result (Unit {0}) CheckRefusal → Type 0
Verdict R v = VerdictBy R (form_rows ++ (grammar_rows ++ state_rows)) v

-- Nothing is wrong.
abbrev pub AcceptedFile : Raw → Type 0
AcceptedFile R = (c : Row) (i : ℕ) → Good R c i
