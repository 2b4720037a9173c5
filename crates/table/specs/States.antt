-- The states of a table, as the check works with them.
use Rattle.std.specs.Prelude.{◌≡◌, ℕ, ◌<◌, Bool, true, ◌&&◌, ◌↔◌, List, [], ◌∷◌, Some, None, Decides, Option}
use mathlib.Core.List.{Memᴰ}
use Rattle.std.proofs.Math.Option as math
use Rattle.grammar.specs.Grammar.{IsSymbol}
use Rattle.grammar.specs.First.{First, FirstWith}
use Rattle.grammar.specs.Item.{Item, HasNext, NextKernel}
use Rattle.grammar.specs.Equations.{value}
use Rattle.grammar.specs.Table.{Table, Kernel, Word, HasSuccessor}
use Rattle.solver.specs.Solution.{valuation}
use Rattle.words.specs.Codes.{cut}
use Rattle.words.specs.Sets.{member, word_kind}
use Rattle.words.specs.declared.set.Words.{Words}
use Rattle.items.specs.Sets.{has}
use Rattle.items.specs.Nexts.{found}
use Rattle.frames.specs.Raw.{Raw, header_of, section_of}
use Rattle.frames.specs.Views.{raw}
use Rattle.frames.specs.declared.header.Section as section
use Rattle.lookahead.specs.Stored.{StandsFor}
use Rattle.table.specs.declared.draft.Draft.{Draft}
use Rattle.table.specs.declared.state.State.{State}
use Rattle.table.specs.Contents.{grammar_of, table_of, successors_in, successor_in}

-- The sets are FIRST of the grammar's symbols.
abbrev pub Firsts : (K : ℕ) → Raw → List (Words K) → Type 0
Firsts K R vs =
    (X : ℕ) → IsSymbol (grammar_of R) X → (w : List ℕ)
    → Decides (member (value (word_kind K) (valuation (word_kind K) vs) X) w) (First (grammar_of R) (X ∷ []) w)

-- The file of a draft.
abbrev pub file : Draft → Raw
file d = raw d.frames

-- q is a state of a draft whose words are cut to K.
abbrev pub IsAt : ℕ → Draft → ℕ → Type 0
IsAt K d q = ((header_of (file d)).k ≡ cut K) × (q < (header_of (file d)).s)

-- What is read is state q: its kernel and its words.
pub record IsState {K : ℕ} (R : Raw) (q : ℕ) (s : State K) : Type 0 where
  pub places : (i : Item) → (has s.places i ≡ true) ↔ Kernel (table_of R) q i
  pub words : StandsFor (header_of R) s.words (section_of R q section.TheVariants.Words)

-- State q has a successor by X just when X has a next, and the successor is that next.
pub record SuccessorDefined (R : Raw) (q X : ℕ) : Type 0 where
  pub symbols : HasSuccessor (table_of R) q X ↔ HasNext (grammar_of R) (Kernel (table_of R) q) X
  pub within : (q' : ℕ) → (table_of R).next q X ≡ math.some q' → q' < (header_of R).s
  pub kernel : (q' : ℕ) → (table_of R).next q X ≡ math.some q' → (i : Item) → Kernel (table_of R) q' i ↔ NextKernel (grammar_of R) (Kernel (table_of R) q) X i
  pub words : (q' : ℕ) → (table_of R).next q X ≡ math.some q' → (y : List ℕ)
      → Word (table_of R) q' y ↔ FirstWith (grammar_of R) (X ∷ []) (Word (table_of R) q) y

-- A look-up's answer, as the code gives it.
abbrev pub answered : math.Option ℕ → Option ℕ
answered math.none = None
answered (math.some q) = Some q

-- The successor by X of a state, if there is one.
abbrev pub onwards : Table → ℕ → Option ℕ → Option ℕ
onwards T X None = None
onwards T X (Some q) = answered (T.next q X)

-- after(q, ω), by look-ups: the successors by the symbols of ω, the last first.
abbrev pub after_in : Table → ℕ → List ℕ → Option ℕ
after_in T q [] = Some q
after_in T q (X ∷ ω) = onwards T X (after_in T q ω)

-- Every pair of the second list is what is found for its symbol in the first.
abbrev pub once_in : List ℕ → List ℕ → Bool
once_in es [] = true
once_in es (a ∷ []) = true
once_in es (a ∷ b ∷ rest) = found b (answered (successor_in a es)) && once_in es rest

-- Some pair names state q.
abbrev pub LeadsTo : List ℕ → ℕ → Type 0
LeadsTo es q = (X : ℕ) × Memᴰ (record { symbol = X; state = q }) (successors_in es)
