-- What the entries of a state's sections are, in a table of the right form, and what is found among them.
use Rattle.std.proofs.Common.{◌≡◌, ℕ, ◌<◌, Bool, true, false, ◌&&◌, eqb, ltb, leb, ◌⊎◌, List, [], ◌∷◌, length, sym, refl, ap, ◌∙◌, subst, ap₂, inl, inr}
use mathlib.Core.List.Memᴰ
use mathlib.Core.List.{Memᴰ}
use mathlib.Core.Option.{some}
use Rattle.std.proofs.lemmas.Bool.{and_parts, eqb-true, ltb-true, cond-true, cond-false}
use Rattle.grammar.specs.Item.{Item}
use Rattle.frames.specs.declared.header.Section.{Section}
use Rattle.frames.specs.declared.header.Section.TheVariants.{Kernel, Words, Successors, Choices}
use Rattle.frames.specs.Raw.{Raw, header_of, section_of}
use Rattle.frames.specs.Form.{is_nonterminal, is_symbol, is_word, word_of, below, is_kernel_place, pair_good, choice_good, pairs_good, choices_good}
use Rattle.items.specs.Entries.{items}
use Rattle.lookahead.specs.Entries.{words_in, Choice, choices_in, AllWords, AllChoices}
use Rattle.table.specs.Contents.{Successor, successors_in, successor_in, same_word, choice_in}
use Rattle.table.specs.Drafts.{Formed}
use Rattle.table.proofs.Formed.{entries_are_good}
use Rattle.table.proofs.LookedUp.{same_word_is}

-- every pair is good
pair_parts : (R : Raw) (c : Section) (prev : List ℕ) (a b : ℕ) (es : List ℕ) → pairs_good R c prev (a ∷ b ∷ es) ≡ true
    → (pair_good R c a b ≡ true) × (pairs_good R c (a ∷ b ∷ []) es ≡ true)
pair_parts R c prev a b es e =
    let (x, y) = and_parts (below prev (a ∷ b ∷ []) && pair_good R c a b) (pairs_good R c (a ∷ b ∷ []) es) e in
    ((and_parts (below prev (a ∷ b ∷ [])) (pair_good R c a b) x).1, y)

items_good : (R : Raw) (prev es : List ℕ) → pairs_good R Kernel prev es ≡ true → (i : Item) → Memᴰ i (items es) → is_kernel_place R i.rule i.dot ≡ true
items_good R prev [] e i m = absurd (Memᴰ.not-nil m)
items_good R prev (a ∷ []) e i m = absurd (Memᴰ.not-nil m)
items_good R prev (a ∷ b ∷ es) e i m = by (items_good R (a ∷ b ∷ []) es (pair_parts R Kernel prev a b es e).1 i) (Memᴰ.cases_cons m)
  where
    by : (Memᴰ i (items es) → is_kernel_place R i.rule i.dot ≡ true) → (i ≡ record { rule = a; dot = b }) ⊎ Memᴰ i (items es)
        → is_kernel_place R i.rule i.dot ≡ true
    by so (inl p) = ap (λ (j : Item). is_kernel_place R j.rule j.dot) p ∙ (pair_parts R Kernel prev a b es e).0
    by so (inr p) = so p

words_good : (R : Raw) (prev es : List ℕ) → pairs_good R Words prev es ≡ true → AllWords (header_of R) es
words_good R prev [] e y m = absurd (Memᴰ.not-nil m)
words_good R prev (a ∷ []) e y m = absurd (Memᴰ.not-nil m)
words_good R prev (a ∷ b ∷ es) e y m = by (words_good R (a ∷ b ∷ []) es (pair_parts R Words prev a b es e).1 y) (Memᴰ.cases_cons m)
  where
    by : (Memᴰ y (words_in es) → is_word (header_of R).k (header_of R) y ≡ true) → (y ≡ word_of a b) ⊎ Memᴰ y (words_in es)
        → is_word (header_of R).k (header_of R) y ≡ true
    by so (inl p) = ap (is_word (header_of R).k (header_of R)) p ∙ (pair_parts R Words prev a b es e).0
    by so (inr p) = so p

-- A successor by a symbol of the grammar, among the states.
pub record GoodSuccessor (R : Raw) (e : Successor) : Type 0 where
  pub symbol : is_symbol (header_of R) e.symbol ≡ true
  pub state : e.state < (header_of R).s

successors_good : (R : Raw) (prev es : List ℕ) → pairs_good R Successors prev es ≡ true → (s : Successor) → Memᴰ s (successors_in es) → GoodSuccessor R s
successors_good R prev [] e s m = absurd (Memᴰ.not-nil m)
successors_good R prev (a ∷ []) e s m = absurd (Memᴰ.not-nil m)
successors_good R prev (a ∷ b ∷ es) e s m = by (successors_good R (a ∷ b ∷ []) es (pair_parts R Successors prev a b es e).1 s) (Memᴰ.cases_cons m)
  where
    by : (Memᴰ s (successors_in es) → GoodSuccessor R s) → (s ≡ record { symbol = a; state = b }) ⊎ Memᴰ s (successors_in es) → GoodSuccessor R s
    by so (inl p) =
        let (x, y) = and_parts (is_symbol (header_of R) a) (ltb b (header_of R).s) (pair_parts R Successors prev a b es e).0 in
        subst (GoodSuccessor R) (sym p) (record { symbol = x; state = ltb-true b _ y })
    by so (inr p) = so p

-- A choice for a nonterminal and a word, of a rule of the table.
pub record GoodChoice (R : Raw) (c : Choice) : Type 0 where
  pub nonterminal : is_nonterminal (header_of R) c.nonterminal ≡ true
  pub word : is_word (header_of R).k (header_of R) c.word ≡ true
  pub rule : c.rule < (header_of R).p

choices_are_good : (R : Raw) (prev es : List ℕ) → choices_good (header_of R) prev es ≡ true → (c : Choice) → Memᴰ c (choices_in es) → GoodChoice R c
choices_are_good R prev [] e c m = absurd (Memᴰ.not-nil m)
choices_are_good R prev (A ∷ []) e c m = absurd (Memᴰ.not-nil m)
choices_are_good R prev (A ∷ a ∷ []) e c m = absurd (Memᴰ.not-nil m)
choices_are_good R prev (A ∷ a ∷ b ∷ []) e c m = absurd (Memᴰ.not-nil m)
choices_are_good R prev (A ∷ a ∷ b ∷ r ∷ es) e c m =
    by (choices_are_good R (A ∷ a ∷ b ∷ r ∷ []) es parts.1 c) (Memᴰ.cases_cons m)
  where
    parts : ((below prev (A ∷ a ∷ b ∷ r ∷ []) && choice_good (header_of R) A a b r) ≡ true) × (choices_good (header_of R) (A ∷ a ∷ b ∷ r ∷ []) es ≡ true)
    parts = and_parts (below prev (A ∷ a ∷ b ∷ r ∷ []) && choice_good (header_of R) A a b r) (choices_good (header_of R) (A ∷ a ∷ b ∷ r ∷ []) es) e

    by : (Memᴰ c (choices_in es) → GoodChoice R c) → (c ≡ record { nonterminal = A; word = word_of a b; rule = r }) ⊎ Memᴰ c (choices_in es) → GoodChoice R c
    by so (inl p) =
        let x = (and_parts (below prev (A ∷ a ∷ b ∷ r ∷ [])) (choice_good (header_of R) A a b r) parts.0).1 in
        let (n, y) = and_parts (is_nonterminal (header_of R) A) _ x in
        let (w, l) = and_parts (is_word (header_of R).k (header_of R) (word_of a b)) (ltb r (header_of R).p) y in
        subst (GoodChoice R) (sym p) (record { nonterminal = n; word = w; rule = ltb-true r _ l })
    by so (inr p) = so p

-- what a look-up finds is an entry
pub successor_entry : (X q : ℕ) (es : List ℕ) → successor_in X es ≡ some q → Memᴰ (record { symbol = X; state = q }) (successors_in es)
successor_entry X q [] e = absurd cc
successor_entry X q (a ∷ []) e = absurd cc
successor_entry X q (a ∷ b ∷ es) e = by (eqb a X) refl (successor_entry X q es)
  where
    by : (t : Bool) → eqb a X ≡ t → (successor_in X es ≡ some q → Memᴰ (record { symbol = X; state = q }) (successors_in es))
        → Memᴰ (record { symbol = X; state = q }) (successors_in (a ∷ b ∷ es))
    by true t so =
        let found : some b ≡ some q = sym (cond-true _ _ _ t) ∙ e in
        let same : q ≡ b = cc in
        Memᴰ.head (ap₂ (λ (x y : ℕ). record { symbol = x; state = y }) (sym (eqb-true a X t)) same)
    by false t so = Memᴰ.tail (so (sym (cond-false _ _ _ t) ∙ e))

pub choice_entry : (A : ℕ) (y : List ℕ) (r : ℕ) (cs : List Choice) → choice_in A y cs ≡ some r → Memᴰ (record { nonterminal = A; word = y; rule = r }) cs
choice_entry A y r [] e = absurd cc
choice_entry A y r (c ∷ cs) e = by (eqb c.nonterminal A && same_word c.word y) refl (choice_entry A y r cs)
  where
    by : (t : Bool) → (eqb c.nonterminal A && same_word c.word y) ≡ t → (choice_in A y cs ≡ some r → Memᴰ (record { nonterminal = A; word = y; rule = r }) cs)
        → Memᴰ (record { nonterminal = A; word = y; rule = r }) (c ∷ cs)
    by true t so =
        let found : some c.rule ≡ some r = sym (cond-true _ _ _ t) ∙ e in
        let same : r ≡ c.rule = cc in
        let (n, w) = and_parts (eqb c.nonterminal A) (same_word c.word y) t in
        Memᴰ.head (λ i. record { nonterminal = sym (eqb-true _ _ n) i; word = sym (same_word_is c.word y w) i; rule = same i })
    by false t so = Memᴰ.tail (so (sym (cond-false _ _ _ t) ∙ e))

module _ (R : Raw) (formed : Formed R) (q : ℕ) (l : q < (header_of R).s) where
  pub kernel_places : (i : Item) → Memᴰ i (items (section_of R q Kernel)) → is_kernel_place R i.rule i.dot ≡ true
  kernel_places = items_good R [] (section_of R q Kernel) (and_parts (leb 1 (length (section_of R q Kernel))) _ (entries_are_good R formed q l Kernel)).1

  pub state_words : AllWords (header_of R) (section_of R q Words)
  state_words = words_good R [] (section_of R q Words) (and_parts (leb 1 (length (section_of R q Words))) _ (entries_are_good R formed q l Words)).1

  pub state_successors : (s : Successor) → Memᴰ s (successors_in (section_of R q Successors)) → GoodSuccessor R s
  state_successors = successors_good R [] (section_of R q Successors) (entries_are_good R formed q l Successors)

  pub state_choices : (c : Choice) → Memᴰ c (choices_in (section_of R q Choices)) → GoodChoice R c
  state_choices = choices_are_good R [] (section_of R q Choices) (entries_are_good R formed q l Choices)

  pub choices_words : AllChoices (header_of R) (section_of R q Choices)
  choices_words c m = (state_choices c m).word

  -- a successor that is found is one of the states, by a symbol of the grammar
  pub found_successor : (X p : ℕ) → successor_in X (section_of R q Successors) ≡ some p → GoodSuccessor R (record { symbol = X; state = p })
  found_successor X p e = state_successors (record { symbol = X; state = p }) (successor_entry X p (section_of R q Successors) e)
