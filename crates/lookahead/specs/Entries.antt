-- The words and the choices that the entries of a state's frames stand for.
use Rattle.std.specs.Prelude.{◌≡◌, ℕ, true, cond, List, [], ◌∷◌, ◌==◌}
use mathlib.Core.List.{Memᴰ}
use Rattle.frames.specs.declared.header.Header.{Header}
use Rattle.frames.specs.Form.{is_word, word_of}

-- The words of entries of two bytes. An odd last byte gives none.
abbrev pub words_in : List ℕ → List (List ℕ)
words_in [] = []
words_in (a ∷ []) = []
words_in (a ∷ b ∷ es) = word_of a b ∷ words_in es

-- A choice: for a nonterminal and a lookahead word, the rule to produce by.
pub record Choice : Type 0 where
  pub nonterminal : ℕ
  pub word : List ℕ
  pub rule : ℕ

-- The choices of entries of four bytes. Fewer last bytes give none.
abbrev pub choices_in : List ℕ → List Choice
choices_in [] = []
choices_in (A ∷ []) = []
choices_in (A ∷ a ∷ []) = []
choices_in (A ∷ a ∷ b ∷ []) = []
choices_in (A ∷ a ∷ b ∷ r ∷ es) = record { nonterminal = A; word = word_of a b; rule = r } ∷ choices_in es

-- y is one of the words.
abbrev pub WordIn : List ℕ → List ℕ → Type 0
WordIn es y = Memᴰ y (words_in es)

-- Rule r is chosen for the word y, by some nonterminal.
abbrev pub ChosenIn : List ℕ → ℕ → List ℕ → Type 0
ChosenIn es r y = (A : ℕ) × Memᴰ (record { nonterminal = A; word = y; rule = r }) (choices_in es)

-- All are lookahead words of a table with these numbers.
abbrev pub AllWords : Header → List ℕ → Type 0
AllWords h es = (y : List ℕ) → WordIn es y → is_word h.k h y ≡ true

-- All choices are for such words.
abbrev pub AllChoices : Header → List ℕ → Type 0
AllChoices h es = (c : Choice) → Memᴰ c (choices_in es) → is_word h.k h c.word ≡ true

-- The tokens before the end mark.
abbrev pub strip : List ℕ → List ℕ
strip [] = []
strip (a ∷ y) = cond (a == 31) [] (a ∷ strip y)
