-- The form that the frames of a table should have.
use Rattle.std.specs.Prelude.{◌≡◌, ℕ, ◌+◌, ◌-◌, ◌*◌, ◌%◌, ◌<◌, Bool, true, false, cond, ◌&&◌, ◌||◌, List, [], ◌∷◌, length, drop, ◌==◌, nat_le, nat_lt, slice_index}
use Rattle.frames.specs.declared.header.Header.{Header}
use Rattle.frames.specs.declared.header.Section.{Section}
use Rattle.frames.specs.declared.header.Section.TheVariants.{Kernel, Words, Successors, Choices}
use Rattle.frames.specs.Raw.{Raw, start_of, frame, header_of, right_of}

-- A number from low to high.
abbrev pub between : ℕ → ℕ → ℕ → Bool
between low high x = nat_le low x && nat_le x high

-- A token kind.
abbrev pub is_token : Header → ℕ → Bool
is_token h x = between 1 h.t x

-- A nonterminal.
abbrev pub is_nonterminal : Header → ℕ → Bool
is_nonterminal h x = between 32 (31 + h.n) x

-- What may stand on the right of a rule.
abbrev pub is_symbol : Header → ℕ → Bool
is_symbol h x = is_token h x || is_nonterminal h x

-- A list of such symbols.
abbrev pub are_symbols : Header → List ℕ → Bool
are_symbols h [] = true
are_symbols h (x ∷ xs) = is_symbol h x && are_symbols h xs

-- A lookahead word: k tokens of which only the last may be the end mark, or fewer, the last of them the end mark.
abbrev pub is_word : ℕ → Header → List ℕ → Bool
is_word k h [] = false
is_word k h (a ∷ []) = a == 31 || (k == 1 && is_token h a)
is_word k h (a ∷ b ∷ y) = nat_lt 1 k && (is_token h a && is_word (k - 1) h (b ∷ y))

-- The word that two numbers stand for, the second 0 where there is none.
abbrev pub word_of : ℕ → ℕ → List ℕ
word_of a b = cond (b == 0) (a ∷ []) (a ∷ b ∷ [])

-- An entry before another, compared byte by byte from the left.
abbrev pub below : List ℕ → List ℕ → Bool
below [] [] = false
below [] (b ∷ y) = true
below (a ∷ x) [] = false
below (a ∷ x) (b ∷ y) = nat_lt a b || (a == b && below x y)

-- The first frame: the tag, then each number in its range.
abbrev pub header_good : Header → List ℕ → Bool
header_good h f =
    (length f == 6) && (slice_index f 0 == 1 && (between 1 2 h.k && (between 1 20 h.t && (between 1 24 h.n && (between 1 60 h.p && between 1 200 h.s)))))

-- The frame of a rule: the tag, a nonterminal, and at most six symbols.
abbrev pub rule_good : Header → List ℕ → Bool
rule_good h f =
    between 2 8 (length f) && (slice_index f 0 == 2 && (is_nonterminal h (slice_index f 1) && are_symbols h (drop 2 f)))

-- A kernel place: a rule, the start rule too, with the dot before some symbol of its right side.
abbrev pub is_kernel_place : Raw → ℕ → ℕ → Bool
is_kernel_place R r d = nat_le r (header_of R).p && nat_lt d (length (right_of R r))

-- An entry of two bytes; choices have none such.
abbrev pub pair_good : Raw → Section → ℕ → ℕ → Bool
pair_good R Kernel a b = is_kernel_place R a b
pair_good R Words a b = is_word (header_of R).k (header_of R) (word_of a b)
pair_good R Successors a b = is_symbol (header_of R) a && nat_lt b (header_of R).s
pair_good R Choices a b = false

-- An entry of four bytes: a nonterminal, a word and a rule.
abbrev pub choice_good : Header → ℕ → ℕ → ℕ → ℕ → Bool
choice_good h A a b r = is_nonterminal h A && (is_word h.k h (word_of a b) && nat_lt r h.p)

-- An entry of a section, by its bytes.
abbrev pub entry_good : Raw → Section → List ℕ → Bool
entry_good R Choices (A ∷ a ∷ b ∷ r ∷ []) = choice_good (header_of R) A a b r
entry_good R Kernel (a ∷ b ∷ []) = pair_good R Kernel a b
entry_good R Words (a ∷ b ∷ []) = pair_good R Words a b
entry_good R Successors (a ∷ b ∷ []) = pair_good R Successors a b
entry_good R c es = false

-- Entries of two bytes that are good and rise, behind an entry.
abbrev pub pairs_good : Raw → Section → List ℕ → List ℕ → Bool
pairs_good R c prev [] = true
pairs_good R c prev (a ∷ []) = false
pairs_good R c prev (a ∷ b ∷ rest) = (below prev (a ∷ b ∷ []) && pair_good R c a b) && pairs_good R c (a ∷ b ∷ []) rest

-- Entries of four bytes that are good and rise, behind an entry.
abbrev pub choices_good : Header → List ℕ → List ℕ → Bool
choices_good h prev [] = true
choices_good h prev (A ∷ []) = false
choices_good h prev (A ∷ a ∷ []) = false
choices_good h prev (A ∷ a ∷ b ∷ []) = false
choices_good h prev (A ∷ a ∷ b ∷ r ∷ rest) =
    (below prev (A ∷ a ∷ b ∷ r ∷ []) && choice_good h A a b r) && choices_good h (A ∷ a ∷ b ∷ r ∷ []) rest

-- How many bytes an entry of a section has.
abbrev pub width : Section → ℕ
width Kernel = 2
width Words = 2
width Successors = 2
width Choices = 4

-- Entries of a section that are good and rise, behind an entry.
abbrev pub entries_rise : Raw → Section → List ℕ → List ℕ → Bool
entries_rise R Kernel prev es = pairs_good R Kernel prev es
entries_rise R Words prev es = pairs_good R Words prev es
entries_rise R Successors prev es = pairs_good R Successors prev es
entries_rise R Choices prev es = choices_good (header_of R) prev es

-- The entries of a section; there is some place and some word, while successors and choices may have no entry.
abbrev pub entries_good : Raw → Section → List ℕ → Bool
entries_good R Kernel es = nat_le 1 (length es) && pairs_good R Kernel [] es
entries_good R Words es = nat_le 1 (length es) && pairs_good R Words [] es
entries_good R Successors es = pairs_good R Successors [] es
entries_good R Choices es = choices_good (header_of R) [] es

-- The tag that the frame of a section begins with.
abbrev pub tag : Section → ℕ
tag Kernel = 3
tag Words = 4
tag Successors = 5
tag Choices = 6

-- The frame of a section.
abbrev pub section_good : Raw → Section → List ℕ → Bool
section_good R c f = between 1 4096 (length f) && (slice_index f 0 == tag c && entries_good R c (drop 1 f))

-- The section at a place, counted from the first state's first one.
abbrev pub section_at : ℕ → Section
section_at i = cond (i % 4 == 0) Kernel (cond (i % 4 == 1) Words (cond (i % 4 == 2) Successors Choices))

-- How many frames a table has.
abbrev pub needed : Raw → ℕ
needed R = 1 + (header_of R).p + 4 * (header_of R).s

-- Frame i is what stands at its place.
abbrev pub good_at : Raw → ℕ → Bool
good_at R i =
    cond (i == 0) (header_good (header_of R) (frame R i))
    (cond (nat_le i (header_of R).p) (rule_good (header_of R) (frame R i)) (section_good R (section_at (i - (1 + (header_of R).p))) (frame R i)))

-- The two numbers do not go beyond the memories.
abbrev pub numbers_good : Raw → Bool
numbers_good R = nat_le R.frames (length R.starts) && nat_le R.bytes (length R.store)

-- Frame i begins below the number of bytes and behind the start of the one before; the first begins at 0.
abbrev pub start_good : Raw → ℕ → Bool
start_good R i = nat_lt (start_of R i) R.bytes && cond (i == 0) (start_of R i == 0) (nat_lt (start_of R (i - 1)) (start_of R i))

-- Frame i is there and good, or it is none that a table has and is not there.
abbrev pub frame_good : Raw → ℕ → Bool
frame_good R i = cond (nat_lt i (needed R)) (nat_lt i R.frames && good_at R i) (nat_le R.frames i)

-- A frame of the file does not begin where it may.
abbrev pub BadStart : Raw → ℕ → Type 0
BadStart R i = (i < R.frames) × (start_good R i ≡ false)

-- A frame is not as it should be, missing or one too many.
abbrev pub BadFrame : Raw → ℕ → Type 0
BadFrame R i = frame_good R i ≡ false
