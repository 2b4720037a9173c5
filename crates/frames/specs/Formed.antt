-- What it is for the frames of a file to be those of a table: the numbers, the rules, and for each state the four sections, each a list of
-- entries in rising order.
use Rattle.std.specs.Prelude.{◌≡◌, ℕ, ◌+◌, ◌*◌, ◌<◌, ◌≤◌, ◌⊎◌, ◌↔◌, true, List, [], ◌∷◌, ◌++◌, length}
use Rattle.std.specs.List.{AllByRecursion, concat}
use Rattle.frames.specs.declared.header.Header.{Header}
use Rattle.frames.specs.declared.header.Section.{Section}
use Rattle.frames.specs.declared.header.Section.TheVariants.{Kernel, Words, Successors, Choices}
use Rattle.frames.specs.Raw.{Raw, frame, header_of, right_of, place}
use Rattle.frames.specs.Form.{word_of, tag, frame_good}

-- A number from low to high.
abbrev pub Within : ℕ → ℕ → ℕ → Type 0
Within low high x = (low ≤ x) × (x ≤ high)

-- A token kind.
abbrev pub IsToken : Header → ℕ → Type 0
IsToken h x = Within 1 h.t x

-- A nonterminal.
abbrev pub IsNonterminal : Header → ℕ → Type 0
IsNonterminal h x = Within 32 (31 + h.n) x

-- What may stand on the right of a rule; the end mark, 31, is none of these.
abbrev pub IsSymbol : Header → ℕ → Type 0
IsSymbol h x = IsToken h x ⊎ IsNonterminal h x

-- A lookahead word: k tokens, or fewer and behind them the end mark.
pub data IsWord (k : ℕ) (h : Header) (y : List ℕ) : Type 0 where
  whole : length y ≡ k → AllByRecursion (IsToken h) y → IsWord k h y
  ended : (x : List ℕ) → y ≡ x ++ 31 ∷ [] → length x < k → AllByRecursion (IsToken h) x → IsWord k h y

-- The first frame: the tag and the five numbers, each in its range.
pub record HeaderFrame (h : Header) (f : List ℕ) : Type 0 where
  pub bytes : f ≡ 1 ∷ h.k ∷ h.t ∷ h.n ∷ h.p ∷ h.s ∷ []
  pub lookahead : Within 1 2 h.k
  pub tokens : Within 1 20 h.t
  pub nonterminals : Within 1 24 h.n
  pub rules : Within 1 60 h.p
  pub states : Within 1 200 h.s

-- The frame of a rule: the tag, the left side, and the right side of at most six symbols.
pub record RuleFrame (h : Header) (f : List ℕ) : Type 0 where
  pub left : ℕ
  pub right : List ℕ
  pub bytes : f ≡ 2 ∷ left ∷ right
  pub nonterminal : IsNonterminal h left
  pub symbols : AllByRecursion (IsSymbol h) right
  pub few : length right ≤ 6

-- A kernel place: a rule, the start rule too, and a dot before some symbol of its right side.
pub record PlaceEntry (R : Raw) (e : List ℕ) : Type 0 where
  pub rule : ℕ
  pub dot : ℕ
  pub bytes : e ≡ rule ∷ dot ∷ []
  pub known : rule ≤ (header_of R).p
  pub inside : dot < length (right_of R rule)

-- A lookahead word in two bytes, the second 0 where the word has one symbol.
pub record WordEntry (h : Header) (e : List ℕ) : Type 0 where
  pub first : ℕ
  pub second : ℕ
  pub bytes : e ≡ first ∷ second ∷ []
  pub word : IsWord h.k h (word_of first second)

-- A successor: a symbol, and the state that it leads to.
pub record SuccessorEntry (h : Header) (e : List ℕ) : Type 0 where
  pub symbol : ℕ
  pub state : ℕ
  pub bytes : e ≡ symbol ∷ state ∷ []
  pub known : IsSymbol h symbol
  pub among : state < h.s

-- A choice: a nonterminal, a lookahead word, and the rule to take; the start rule is never chosen.
pub record ChoiceEntry (h : Header) (e : List ℕ) : Type 0 where
  pub left : ℕ
  pub first : ℕ
  pub second : ℕ
  pub rule : ℕ
  pub bytes : e ≡ left ∷ first ∷ second ∷ rule ∷ []
  pub nonterminal : IsNonterminal h left
  pub word : IsWord h.k h (word_of first second)
  pub known : rule < h.p

-- An entry of a section.
abbrev pub Entry : Raw → Section → List ℕ → Type 0
Entry R Kernel e = PlaceEntry R e
Entry R Words e = WordEntry (header_of R) e
Entry R Successors e = SuccessorEntry (header_of R) e
Entry R Choices e = ChoiceEntry (header_of R) e

-- The lexicographic order: x ends where y goes on, or is lower at the first byte in which they differ.
abbrev pub Precedes : List ℕ → List ℕ → Type 0
Precedes x [] = ⊥
Precedes [] (b ∷ y) = Unit {0}
Precedes (a ∷ x) (b ∷ y) = (a < b) ⊎ ((a ≡ b) × Precedes x y)

-- Each precedes all that stand behind it, so none is there twice.
abbrev pub Rising : List (List ℕ) → Type 0
Rising [] = Unit {0}
Rising (e ∷ es) = AllByRecursion (Precedes e) es × Rising es

-- A state has some kernel place and some word; it may have no successor and no choice.
abbrev pub Filled : Section → List (List ℕ) → Type 0
Filled Kernel es = 0 < length es
Filled Words es = 0 < length es
Filled Successors es = Unit {0}
Filled Choices es = Unit {0}

-- The frame of a section: the tag, and behind it the entries one after the other.
pub record SectionFrame (R : Raw) (c : Section) (f : List ℕ) : Type 0 where
  pub entries : List (List ℕ)
  pub bytes : f ≡ tag c ∷ concat entries
  pub short : length f ≤ 4096
  pub each : AllByRecursion (Entry R c) entries
  pub rising : Rising entries
  pub filled : Filled c entries

-- The frames are those of a table: the numbers, the rules, the sections of each state, and no more.
pub record FormedFile (R : Raw) : Type 0 where
  pub header : HeaderFrame (header_of R) (frame R 0)
  pub rules : (r : ℕ) → r < (header_of R).p → RuleFrame (header_of R) (frame R (1 + r))
  pub sections : (q : ℕ) → q < (header_of R).s → (c : Section) → SectionFrame R c (frame R (1 + (header_of R).p + 4 * q + place c))
  pub count : R.frames ≡ 1 + (header_of R).p + 4 * (header_of R).s

-- Frame i is there and is what its number stands for, or it is none of a table's and is not there.
pub data FrameAt (R : Raw) (i : ℕ) : Type 0 where
  numbers : i ≡ 0 → i < R.frames → HeaderFrame (header_of R) (frame R i) → FrameAt R i
  rule : (r : ℕ) → r < (header_of R).p → i ≡ 1 + r → i < R.frames → RuleFrame (header_of R) (frame R i) → FrameAt R i
  section : (q : ℕ) → q < (header_of R).s → (c : Section) → i ≡ 1 + (header_of R).p + 4 * q + place c
      → i < R.frames → SectionFrame R c (frame R i) → FrameAt R i
  none : 1 + (header_of R).p + 4 * (header_of R).s ≤ i → R.frames ≤ i → FrameAt R i

-- The check finds every frame good exactly where the frames are those of a table.
abbrev pub FormLaw : Type 0
FormLaw = (R : Raw) → FormedFile R ↔ ((i : ℕ) → frame_good R i ≡ true)

-- It finds the first frame good exactly where that is there and has the numbers.
abbrev pub FirstLaw : Type 0
FirstLaw = (R : Raw) → ((0 < R.frames) × HeaderFrame (header_of R) (frame R 0)) ↔ (frame_good R 0 ≡ true)

-- Where the first frame has the numbers, it finds any frame good exactly where that is what its number stands for.
abbrev pub FrameLaw : Type 0
FrameLaw = (R : Raw) → HeaderFrame (header_of R) (frame R 0) → (i : ℕ) → FrameAt R i ↔ (frame_good R i ≡ true)
