-- The canonical LL(k) collection, numbered.
use Rattle.std.specs.Prelude.{◌≡◌, ℕ, ◌<◌, ◌↔◌, List, [], ◌∷◌}
use Rattle.std.proofs.Math.Option.{some}
use Rattle.grammar.specs.Grammar.{Grammar, IsToken, end_mark}
use Rattle.grammar.specs.Item.{Item, Closure}
use Rattle.grammar.specs.Table.{Table, Kernel, Word, Found}
use Rattle.grammar.specs.Viable.{Viable, SuffixWord, InV, Equivalent, ValidKernel, Suffix}
use Rattle.grammar.specs.Parser.{Shifts, Produces}

-- A map from the viable suffixes onto the states of a table. A state has the valid kernel items and the words of its suffixes, and its
-- successors are the states of these suffixes with one more symbol.
pub record StateMap (g : Grammar) (T : Table) : Type 0 where
  pub state : List ℕ → ℕ
  pub within : (σ : List ℕ) → Suffix g σ → state σ < T.size
  pub onto : (q : ℕ) → q < T.size → (σ : List ℕ) × (Suffix g σ × (state σ ≡ q))
  pub first : state (end_mark ∷ []) ≡ 0
  pub kernels : (σ : List ℕ) → Suffix g σ → (i : Item) → Kernel T (state σ) i ↔ ValidKernel g σ i
  pub words : (σ : List ℕ) → Suffix g σ → (y : List ℕ) → Word T (state σ) y ↔ SuffixWord g σ y
  pub successors : (σ : List ℕ) → Suffix g σ → (X q : ℕ) → (T.next (state σ) X ≡ some q) ↔ (Viable g (X ∷ σ) × (q ≡ state (X ∷ σ)))

-- The table's states are the canonical LL(k) collection: they stand for the classes of equivalent suffixes, and a state's closure with its
-- words is V of these suffixes.
pub record Collection (g : Grammar) (T : Table) : Type 0 where
  pub map : StateMap g T
  pub classes : (σ τ : List ℕ) → Suffix g σ → Suffix g τ → (map.state σ ≡ map.state τ) ↔ Equivalent g σ τ
  pub items : (σ : List ℕ) → Suffix g σ → (i : Item) (y : List ℕ)
      → (Closure g (Kernel T (map.state σ)) i × Word T (map.state σ) y) ↔ InV g σ i y

-- The table is that collection with its parser: its words and choices are the actions of the parser.
pub record Canonical (g : Grammar) (T : Table) : Type 0 where
  pub collection : Collection g T
  pub shifts : (a : ℕ) (σ : List ℕ) → Suffix g (a ∷ σ) → (y : List ℕ)
      → (IsToken g a × Word T (collection.map.state (a ∷ σ)) (a ∷ y)) ↔ Shifts g σ a y
  pub produces : (σ : List ℕ) → Suffix g σ → (A : ℕ) (y : List ℕ) (r : ℕ) → (T.choice (collection.map.state σ) A y ≡ some r) ↔ Produces g σ A y r

-- The states are numbered so that each after 0 is a successor of a lower one.
abbrev pub NumberedInOrder : Table → Type 0
NumberedInOrder T = (q : ℕ) → 0 < q → q < T.size → Found T q
