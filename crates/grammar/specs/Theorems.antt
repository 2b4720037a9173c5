-- The theorems. Each is asked for by a contract of src/lib.rt.
use Rattle.std.specs.Prelude.{◌≡◌, ℕ, ◌<◌, ◌↔◌, List, [], ◌∷◌, ◌++◌, take}
use mathlib.Core.List.{Memᴰ}
use Rattle.grammar.specs.Grammar.{Rule, Grammar, IsToken, IsNonterminal, IsTerminal, IsRule, Every, WellFormed, end_mark}
use Rattle.grammar.specs.Derivation.{Leftmost, DerivesTokens, Sentence, LeftParse}
use Rattle.grammar.specs.First.{First, FirstWith}
use Rattle.grammar.specs.Sound.{Productive, Reachable, Occurs, Sound}
use Rattle.grammar.specs.Item.{Item, Closure, NextKernel}
use Rattle.grammar.specs.Table.{Table, TwoFit, IsCollection, Accepted}
use Rattle.grammar.specs.Viable.{LeftForm, Valid, Viable, SuffixWord, InV, Equivalent, ValidKernel, VKernel, Nonempty, Suffix}
use Rattle.grammar.specs.Parser.{Shifts, Produces, Deterministic}
use Rattle.grammar.specs.Canonical.{Collection, Canonical, NumberedInOrder}
use Rattle.grammar.specs.LL.{IsLL}
use Rattle.grammar.specs.Equations.{Kind, Holds, CutTo, Least}

-- Derivations at any places and leftmost ones give the same sentences.
abbrev pub SentencesParse : Type 0
SentencesParse = (g : Grammar) (v : List ℕ) → Sentence g v ↔ ((rs : List ℕ) × LeftParse g v rs)

-- So it is for the token strings derived from any string of symbols.
abbrev pub DerivationsParse : Type 0
DerivationsParse =
    (g : Grammar) (α u : List ℕ)
    → DerivesTokens g α u ↔ ((rs : List ℕ) × (Every (IsToken g) u × Leftmost g (IsToken g) α rs u))

-- FIRST(α β) is the product of FIRST(α) and FIRST(β), cut.
abbrev pub FirstOfProducts : Type 0
FirstOfProducts =
    (g : Grammar) (α β y : List ℕ)
    → First g (α ++ β) y ↔ ((u v : List ℕ) × (First g α u × First g β v × (y ≡ take g.k (u ++ v))))

-- It is FIRST(α FIRST(β)).
abbrev pub FirstInTurn : Type 0
FirstInTurn = (g : Grammar) (α β y : List ℕ) → First g (α ++ β) y ↔ FirstWith g α (First g β) y

-- FIRST(α W) is the product of FIRST(α) and W, cut; W is a list of words.
abbrev pub FirstWithWords : Type 0
FirstWithWords =
    (g : Grammar) (α : List ℕ) (W : List (List ℕ)) (y : List ℕ)
    → FirstWith g α (λ (w : List ℕ). Memᴰ w W) y ↔ ((u w : List ℕ) × (First g α u × Memᴰ w W × (y ≡ take g.k (u ++ w))))

-- In values cut to nothing the least solution of a grammar's equations tells which nonterminals derive a token string.
abbrev pub LeastIsProductive : Type 0 → Type 0
LeastIsProductive V =
    (o : Kind V) (g : Grammar) → WellFormed g → CutTo o 0 g → (S : ℕ → V) → Least o g S
    → (A : ℕ) → IsNonterminal g A → Holds o (S A) [] ↔ Productive g A

-- In values cut to k it is FIRST of each nonterminal.
abbrev pub LeastIsFirst : Type 0 → Type 0
LeastIsFirst V =
    (o : Kind V) (g : Grammar) → WellFormed g → CutTo o g.k g → (S : ℕ → V) → Least o g S
    → (A : ℕ) → IsNonterminal g A → (w : List ℕ) → Holds o (S A) w ↔ First g (A ∷ []) w

-- What is reachable is found from the start symbol by going through the right sides of rules.
abbrev pub ReachableIsFound : Type 0
ReachableIsFound = (g : Grammar) (A : ℕ) → Reachable g A ↔ Occurs g A

-- Every viable suffix but the empty one ends in the end mark.
abbrev pub SuffixesEnd : Type 0
SuffixesEnd = (g : Grammar) → Sound g → (σ : List ℕ) → Suffix g σ → (δ : List ℕ) × (σ ≡ δ ++ end_mark ∷ [])

-- What stands below the top of a viable suffix is viable.
abbrev pub SuffixesShrink : Type 0
SuffixesShrink = (g : Grammar) → Sound g → (X : ℕ) (σ : List ℕ) → Viable g (X ∷ σ) → Viable g σ

-- So is a suffix with a rule's right side in place of its left side.
abbrev pub SuffixesReplace : Type 0
SuffixesReplace =
    (g : Grammar) → Sound g → (A : ℕ) (σ : List ℕ) → Viable g (A ∷ σ)
    → (r : ℕ) (ρ : Rule) → IsRule g r ρ → ρ.left ≡ A → Viable g (ρ.right ++ σ)

-- A nonterminal stands on top of a viable suffix just where it is the leftmost one of a left sentential form.
abbrev pub TopsAreLeftmost : Type 0
TopsAreLeftmost =
    (g : Grammar) → Sound g → (A : ℕ) (σ : List ℕ) → IsNonterminal g A
    → Viable g (A ∷ σ) ↔ ((x : List ℕ) × (Every (IsTerminal g) x × LeftForm g (x ++ A ∷ σ)))

-- Equivalent suffixes have the same top.
abbrev pub EquivalentsAgree : Type 0
EquivalentsAgree =
    (g : Grammar) → Sound g → (X Y : ℕ) (σ τ : List ℕ) → Viable g (X ∷ σ) → Viable g (Y ∷ τ) → Equivalent g (X ∷ σ) (Y ∷ τ) → X ≡ Y

-- They go on with the same symbols, to equivalent suffixes.
abbrev pub EquivalentsFollow : Type 0
EquivalentsFollow =
    (g : Grammar) → Sound g → (σ τ : List ℕ) → Suffix g σ → Suffix g τ → Equivalent g σ τ
    → (X : ℕ) → Viable g (X ∷ σ) → Viable g (X ∷ τ) × Equivalent g (X ∷ σ) (X ∷ τ)

-- No class of suffixes both shifts and produces.
abbrev pub ActionsExclude : Type 0
ActionsExclude =
    (g : Grammar) → Sound g → (σ τ : List ℕ) (a A : ℕ) (y z : List ℕ) (r : ℕ)
    → Shifts g σ a y → Produces g τ A z r → Equivalent g (a ∷ σ) (A ∷ τ) → ⊥

-- No lookahead word begins another, so a parser reads one of them.
abbrev pub WordsAreWhole : Type 0
WordsAreWhole =
    (g : Grammar) → Sound g → (σ τ y z : List ℕ) → Suffix g σ → Suffix g τ → SuffixWord g σ y → SuffixWord g τ (y ++ z) → z ≡ []

-- The items valid for a suffix are the closure of its valid kernel items.
abbrev pub ValidItemsClose : Type 0
ValidItemsClose =
    (g : Grammar) → Sound g → (σ : List ℕ) → Nonempty σ
    → (i : Item) → Valid g i σ ↔ Closure g (ValidKernel g σ) i

-- So it is with their lookahead words: V(σ) is the closure of its kernel.
abbrev pub VCloses : Type 0
VCloses =
    (g : Grammar) → Sound g → (σ : List ℕ) → Nonempty σ
    → (i : Item) (y : List ℕ) → InV g σ i y ↔ Closure g (VKernel g σ y) i

-- The kernel items valid for X σ are the kernel of the next by X of those valid for σ.
abbrev pub KernelsFollow : Type 0
KernelsFollow =
    (g : Grammar) → Sound g → (X : ℕ) (σ : List ℕ) → Nonempty σ
    → (i : Item) → ValidKernel g (X ∷ σ) i ↔ NextKernel g (ValidKernel g σ) X i

-- The words of X σ are FIRST(X words of σ).
abbrev pub WordsFollow : Type 0
WordsFollow =
    (g : Grammar) → Sound g → (X : ℕ) (σ : List ℕ) → Viable g (X ∷ σ)
    → (y : List ℕ) → SuffixWord g (X ∷ σ) y ↔ FirstWith g (X ∷ []) (SuffixWord g σ) y

-- The tables whose states are as defined, different and found are the canonical collections, in an order in which they can be found; of any
-- sound grammar, LL(k) or not.
abbrev pub CollectionsAreCanonical : Type 0
CollectionsAreCanonical =
    (g : Grammar) (T : Table) → Sound g
    → IsCollection g T ↔ (Collection g T × NumberedInOrder T)

-- The tables with nothing wrong are the canonical collections whose parser is deterministic, in an order in which they can be found.
abbrev pub AcceptedAreCanonical : Type 0
AcceptedAreCanonical =
    (g : Grammar) (T : Table) → Sound g
    → Accepted g T ↔ (Canonical g T × Deterministic g × NumberedInOrder T)

-- A grammar is LL(k) just when its canonical parser is deterministic.
abbrev pub LLIsDeterministic : Type 0
LLIsDeterministic = (g : Grammar) → Sound g → IsLL g ↔ Deterministic g

-- It is LL(k) just when at no state of its collection two rules fit one word.
abbrev pub LLWithoutConflict : Type 0
LLWithoutConflict =
    (g : Grammar) (T : Table) → Sound g → IsCollection g T
    → IsLL g ↔ ((q : ℕ) → q < T.size → TwoFit g T q → ⊥)

-- At some state two do just when it is not LL(k).
abbrev pub ConflictsDecide : Type 0
ConflictsDecide =
    (g : Grammar) (T : Table) → Sound g → IsCollection g T
    → ((q : ℕ) × ((q < T.size) × TwoFit g T q)) ↔ (IsLL g → ⊥)

-- A grammar with an accepted table is LL(k).
abbrev pub AcceptedAreLL : Type 0
AcceptedAreLL = (g : Grammar) (T : Table) → Sound g → Accepted g T → IsLL g
