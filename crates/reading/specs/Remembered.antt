-- What a reading remembers of its table is so.
use Rattle.std.specs.Prelude.{◌≡◌, ℕ, ◌+◌, ◌*◌, ◌<◌, ◌≤◌, List, [], ◌∷◌, ◌++◌, Bool, true, false, length, slice_index_or, MatchOption}
use Rattle.std.specs.List.{All}
use Rattle.std.proofs.Math.Option.{some}
use Rattle.grammar.specs.Grammar.{IsToken}
use Rattle.frames.specs.Form.{word_of}
use Rattle.frames.specs.Raw.{Raw}
use Rattle.table.specs.Contents.{rule_in, grammar_of, table_of}
use Rattle.table.specs.LookUps.{AfterDots, BeginsWord}
use Rattle.reading.specs.declared.memory.Course.{Course}
use Rattle.reading.specs.declared.memory.Known.{Known}
use Rattle.reading.specs.declared.memory.Memory.{Memory}
use Rattle.reading.specs.declared.memory.Met.{Met}
use Rattle.reading.specs.Stack.{Pushes, Chosen}

-- At state p the choice for A and the word y is the rule of c, and its right side leads through the last states of c.
pub record Leads (R : Raw) (p A : ℕ) (y : List ℕ) (c : Course) : Type 0 where
  pub choice_is : (table_of R).choice p A y ≡ some c.rule
  pub few : c.steps ≤ 6
  pub states : List ℕ
  pub unused : List ℕ
  pub many : length states ≡ c.steps
  pub states_are : c.states ≡ unused ++ states
  pub pushes : (below : List ℕ) → Pushes (table_of R) (rule_in R c.rule).right (p ∷ below) (states ++ p ∷ below)

-- There is a choice, and some stack that it leads to.
abbrev pub HasChoice : Raw → ℕ → ℕ → List ℕ → Type 0
HasChoice R p A y = (below : List ℕ) × ((r : ℕ) × ((s : List ℕ) × Chosen (grammar_of R) (table_of R) p below A y r s))

-- With q on top, p below it and y in the window: y begins some word of q; the symbol stands after the dots of q; and it is a token, or else the
-- course is that of the rule that is chosen for it.
pub record Meets (R : Raw) (q p : ℕ) (y : List ℕ) (m : Met) : Type 0 where
  pub begins : BeginsWord (table_of R) q y
  pub dots : AfterDots (grammar_of R) (table_of R) q m.symbol
  pub goes_on : MatchOption m.course (IsToken (grammar_of R) m.symbol) (λ c. (IsToken (grammar_of R) m.symbol → ⊥) × Leads R p m.symbol y c)

-- A number for two states and the symbols of a word.
abbrev pub key_of : ℕ → ℕ → ℕ → ℕ → ℕ
key_of q p a b = q + p * 256 + a * 65536 + b * 16777216

-- If the key is that of two states and a word, they meet what the cell says.
abbrev pub IsKnown : Raw → Known → Type 0
IsKnown R k = (q p a b : ℕ) → q < 256 → p < 256 → a < 256 → key_of q p a b ≡ k.key → 1 ≤ a → Meets R q p (word_of a b) k.met

-- What is known of words that begin with one symbol.
abbrev pub FrontsKnown : Raw → List Bool → Type 0
FrontsKnown R fronts = (q a : ℕ) → a < 32 → slice_index_or fronts (q * 32 + a) false ≡ true → BeginsWord (table_of R) q (a ∷ [])

-- All that is remembered is what a look-up in the table would find.
pub record Remembered (R : Raw) (m : Memory) : Type 0 where
  pub cells : All (IsKnown R) m.cells
  pub fronts : FrontsKnown R m.fronts
