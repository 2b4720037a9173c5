-- Lookahead words as sets of token strings. The end mark is dropped: a string of fewer tokens than words are cut to had one, a string of as
-- many had none, so no two words are stored alike.
use Rattle.std.specs.Prelude.{◌≡◌, ℕ, true, cond, List, [], ◌∷◌, Decides, ◌==◌}
use Rattle.frames.specs.declared.header.Header.{Header}
use Rattle.frames.specs.Form.{is_word}
use Rattle.words.specs.Sets.{member, with_word}
use Rattle.words.specs.declared.set.Words.{Words}
use Rattle.lookahead.specs.Entries.{WordIn, ChosenIn, strip}

-- The set has the lookahead words with the property P, each without its end mark, and no other string.
pub record Stores {k : ℕ} (h : Header) (W : Words k) (P : List ℕ → Type 0) : Type 0 where
  pub words : (y : List ℕ) → is_word h.k h y ≡ true → Decides (member W (strip y)) (P y)
  pub only : (w : List ℕ) → member W w ≡ true → (y : List ℕ) × (P y × (w ≡ strip y))

-- The set has the words of entries of two bytes.
abbrev pub StandsFor : {k : ℕ} → Header → Words k → List ℕ → Type 0
StandsFor h W es = Stores h W (WordIn es)

-- The set has the words for which entries of four bytes choose rule r.
abbrev pub StandsForChoices : {k : ℕ} → Header → Words k → List ℕ → ℕ → Type 0
StandsForChoices h W es r = Stores h W (ChosenIn es r)

-- The first number of a stored word: that of its token, or 0 for the end mark.
abbrev pub first_number : ℕ → ℕ
first_number a = cond (a == 31) 0 a

-- The second number: 0 from the end mark on.
abbrev pub second_number : ℕ → ℕ → ℕ
second_number a b = cond (a == 31) 0 (cond (b == 31) 0 b)

-- The set with the word of an entry put in.
abbrev pub with_entry : {k : ℕ} → Words k → ℕ → ℕ → Words k
with_entry s a b = with_word s (first_number a) (second_number a b)

-- The set with the word of an entry put in, if the entry chooses rule r.
abbrev pub with_choice : {k : ℕ} → ℕ → Words k → ℕ → ℕ → ℕ → Words k
with_choice r s a b q = cond (q == r) (with_entry s a b) s

-- The set with the words of entries of two bytes put in.
abbrev pub with_entries : {k : ℕ} → Words k → List ℕ → Words k
with_entries s [] = s
with_entries s (a ∷ []) = s
with_entries s (a ∷ b ∷ es) = with_entries (with_entry s a b) es

-- The set with the words put in for which entries of four bytes choose rule r.
abbrev pub with_choices : {k : ℕ} → ℕ → Words k → List ℕ → Words k
with_choices r s [] = s
with_choices r s (A ∷ []) = s
with_choices r s (A ∷ a ∷ []) = s
with_choices r s (A ∷ a ∷ b ∷ []) = s
with_choices r s (A ∷ a ∷ b ∷ q ∷ es) = with_choices r (with_choice r s a b q) es
