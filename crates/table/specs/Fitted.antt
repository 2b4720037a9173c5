-- The words that rules fit at a state, as the check works with them.
use Rattle.std.specs.Prelude.{◌≡◌, ℕ, ◌<◌, Bool, true, ◌&&◌, List, [], ◌∷◌, None, Some, Option, ◌==◌, slice_index_or}
use Rattle.std.proofs.Math.Option as math
use Rattle.words.specs.Sets.{member, no_words, Meet}
use Rattle.words.specs.declared.set.Words.{Words}
use Rattle.frames.specs.declared.header.Section as section
use Rattle.frames.specs.Raw.{Raw, header_of, left_of, right_of, section_of}
use Rattle.lookahead.specs.Stored.{with_entries, with_choices}
use Rattle.table.specs.Contents.{table_of}
use Rattle.table.specs.States.{after_in}

-- A state that counts only where there is a successor.
abbrev pub if_successor : math.Option ℕ → Option ℕ → Option ℕ
if_successor math.none p = None
if_successor (math.some s) p = p

-- The state whose words rule r fits at q: after(q, right side), where q has a successor by the left side.
abbrev pub fitting_state : Raw → ℕ → ℕ → Option ℕ
fitting_state R q r = if_successor ((table_of R).next q (left_of R r)) (after_in (table_of R) q (right_of R r))

-- The set of the words of a state, if there is one.
abbrev pub words_at : (K : ℕ) → Raw → Option ℕ → Words K
words_at K R None = no_words K
words_at K R (Some p) = with_entries (no_words K) (section_of R p section.TheVariants.Words)

-- The set of the words that rule r fits at q.
abbrev pub fitting_words : (K : ℕ) → Raw → ℕ → ℕ → Words K
fitting_words K R q r = words_at K R (fitting_state R q r)

-- The set of rule r among those of all rules.
abbrev pub set_of : {K : ℕ} → List (Words K) → ℕ → Words K
set_of {K} Ws r = slice_index_or Ws r (no_words K)

-- Each rule has its set of the words that it fits at q.
abbrev pub FitWords : {K : ℕ} → Raw → ℕ → List (Words K) → Type 0
FitWords {K} R q Ws = (r : ℕ) → r < (header_of R).p → (w : List ℕ) → member (set_of Ws r) w ≡ member (fitting_words K R q r) w

-- Two rules of one nonterminal have a word in common.
abbrev pub Share : {K : ℕ} → Raw → List (Words K) → ℕ → ℕ → Type 0
Share R Ws r r' = (left_of R r ≡ left_of R r') × Meet (set_of Ws r) (set_of Ws r')

-- Rule r has a word in common with a lower rule of its nonterminal.
abbrev pub MeetsLower : {K : ℕ} → Raw → List (Words K) → ℕ → Type 0
MeetsLower R Ws r = (m : ℕ) × (m < r) × Share R Ws m r

-- Every entry of four bytes names a rule of its nonterminal.
abbrev pub own_rules : Raw → List ℕ → Bool
own_rules R [] = true
own_rules R (A ∷ []) = true
own_rules R (A ∷ a ∷ []) = true
own_rules R (A ∷ a ∷ b ∷ []) = true
own_rules R (A ∷ a ∷ b ∷ r ∷ es) = A == left_of R r && own_rules R es

-- The first p rules are chosen by entries of four bytes for just the words of their sets.
abbrev pub ChosenAs : {K : ℕ} → ℕ → List ℕ → List (Words K) → Type 0
ChosenAs {K} p es Ws = (r : ℕ) → r < p → with_choices r (no_words K) es ≡ set_of Ws r
