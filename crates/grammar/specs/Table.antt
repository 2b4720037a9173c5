-- Numbered tables, and what is right or wrong at one of their states.
use Rattle.std.specs.Prelude.{◌≡◌, ℕ, ◌<◌, ◌↔◌, List, [], ◌∷◌}
use mathlib.Core.List.{Memᴰ}
use Rattle.std.proofs.Math.Option.{Option, some}
use Rattle.grammar.specs.Grammar.{Rule, Grammar, IsNonterminal, IsRule, end_mark}
use Rattle.grammar.specs.First.{FirstWith}
use Rattle.grammar.specs.Item.{Item, start_item, OfList, HasNext, NextKernel}

-- States 0 to size − 1, each with the items of its kernel, its lookahead words, its successor by a symbol, and its choice of a rule for a
-- nonterminal and a word.
pub record Table : Type 0 where
  pub size : ℕ
  pub kernel : ℕ → List Item
  pub words : ℕ → List (List ℕ)
  pub next : ℕ → ℕ → Option ℕ
  pub choice : ℕ → ℕ → List ℕ → Option ℕ

-- i is in the kernel of q.
abbrev pub Kernel : Table → ℕ → Item → Type 0
Kernel T q i = OfList (T.kernel q) i

-- y is a word of q.
abbrev pub Word : Table → ℕ → List ℕ → Type 0
Word T q y = Memᴰ y (T.words q)

-- q has a successor by X.
abbrev pub HasSuccessor : Table → ℕ → ℕ → Type 0
HasSuccessor T q X = (q' : ℕ) × (T.next q X ≡ some q')

-- State 0 has the one item of the start rule, and the end mark as its one word.
pub record StartAsDefined (g : Grammar) (T : Table) : Type 0 where
  pub kernel : (i : Item) → Kernel T 0 i ↔ (i ≡ start_item g)
  pub words : (y : List ℕ) → Word T 0 y ↔ (y ≡ end_mark ∷ [])

-- q has a successor by just the symbols that have a next, and the successor is that next.
pub record SuccessorsAsDefined (g : Grammar) (T : Table) (q : ℕ) : Type 0 where
  pub symbols : (X : ℕ) → HasSuccessor T q X ↔ HasNext g (Kernel T q) X
  pub within : (X q' : ℕ) → T.next q X ≡ some q' → q' < T.size
  pub kernel : (X q' : ℕ) → T.next q X ≡ some q' → (i : Item) → Kernel T q' i ↔ NextKernel g (Kernel T q) X i
  pub words : (X q' : ℕ) → T.next q X ≡ some q' → (y : List ℕ) → Word T q' y ↔ FirstWith g (X ∷ []) (Word T q) y

-- q is as defined when its successors are, and state 0 when it is what it should be as well.
abbrev pub StateAsDefined : Grammar → Table → ℕ → Type 0
StateAsDefined g T q = (q ≡ 0 → StartAsDefined g T) × SuccessorsAsDefined g T q

-- Two states are equal when they have the same items and the same words.
abbrev pub EqualStates : Table → ℕ → ℕ → Type 0
EqualStates T q q' = ((i : Item) → Kernel T q i ↔ Kernel T q' i) × ((y : List ℕ) → Word T q y ↔ Word T q' y)

-- q is equal to a lower state.
abbrev pub EqualToLower : Table → ℕ → Type 0
EqualToLower T q = (m : ℕ) × ((m < q) × EqualStates T m q)

-- q is a successor of a lower state.
abbrev pub Found : Table → ℕ → Type 0
Found T q = (m X : ℕ) × ((m < q) × (T.next m X ≡ some q))

-- q is not 0, and no lower state has it as a successor.
abbrev pub NotFound : Table → ℕ → Type 0
NotFound T q = (0 < q) × (Found T q → ⊥)

-- after(q, ω): next for the symbols of ω, the last symbol first.
abbrev pub After : Table → ℕ → List ℕ → ℕ → Type 0
After T q [] q' = q ≡ q'
After T q (X ∷ ω) q' = (p : ℕ) × After T q ω p × (T.next p X ≡ some q')

-- At q, for a nonterminal A that has a next, the rule r of A fits the word y: y is a word of after(q, right side of r).
pub record Fits (g : Grammar) (T : Table) (q A : ℕ) (y : List ℕ) (r : ℕ) : Type 0 where
  pub nonterminal : IsNonterminal g A
  pub has_next : HasSuccessor T q A
  pub rule : Rule
  pub is_rule : IsRule g r rule
  pub left_is : rule.left ≡ A
  pub state : ℕ
  pub after_is : After T q rule.right state
  pub word : Word T state y

-- For some nonterminal and some word two different rules fit.
pub record TwoFit (g : Grammar) (T : Table) (q : ℕ) : Type 0 where
  pub nonterminal : ℕ
  pub word : List ℕ
  pub one : ℕ
  pub other : ℕ
  pub one_fits : Fits g T q nonterminal word one
  pub other_fits : Fits g T q nonterminal word other
  pub differ : one ≡ other → ⊥

-- The choice is the rule that fits, and none is named where no rule fits.
abbrev pub ChoicesAsDefined : Grammar → Table → ℕ → Type 0
ChoicesAsDefined g T q = (A : ℕ) (y : List ℕ) (r : ℕ) → (T.choice q A y ≡ some r) ↔ Fits g T q A y r

-- All states are as defined, no two are equal, and each is found from a lower one.
pub record IsCollection (g : Grammar) (T : Table) : Type 0 where
  pub some_state : 0 < T.size
  pub defined : (q : ℕ) → q < T.size → StateAsDefined g T q
  pub distinct : (q : ℕ) → q < T.size → EqualToLower T q → ⊥
  pub found : (q : ℕ) → q < T.size → NotFound T q → ⊥

-- Nothing is wrong with the table: besides, no two rules fit one word, and the choices are as defined.
pub record Accepted (g : Grammar) (T : Table) : Type 0 where
  pub collection : IsCollection g T
  pub one_fits : (q : ℕ) → q < T.size → TwoFit g T q → ⊥
  pub choices : (q : ℕ) → q < T.size → ChoicesAsDefined g T q
