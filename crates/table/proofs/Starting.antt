-- State 0 is as defined just when it is the state of the one start item and the one word that is the end mark.
use Rattle.std.proofs.Common.{◌≡◌, ℕ, ◌<◌, Bool, true, false, ◌&&◌, ◌↔◌, List, [], ◌∷◌, length, Decides, sym, refl, ap, ◌∙◌, arith}
use mathlib.Core.List.Memᴰ
use mathlib.Core.List.{Memᴰ}
use Rattle.std.proofs.lemmas.Bool.{true≢false, and_parts, and_from, lt-ltb}
use Rattle.grammar.specs.Item.{Item, start_item}
use Rattle.grammar.specs.Table.{Word, StartAsDefined}
use Rattle.items.specs.Entries.{mentions}
use Rattle.items.specs.Sets.{has, in_grid}
use Rattle.frames.specs.declared.header.Header.{Header}
use Rattle.frames.specs.declared.header.Section as section
use Rattle.frames.specs.Raw.{Raw, header_of, section_of}
use Rattle.lookahead.specs.Entries.{WordIn, AllWords}
use Rattle.lookahead.specs.Stored.{StandsFor}
use Rattle.lookahead.proofs.Comparing.{equal_words}
use Rattle.frames.specs.Form.{is_word}
use Rattle.table.specs.declared.state.State.{State}
use Rattle.table.specs.Contents.{grammar_of, table_of}
use Rattle.table.specs.Drafts.{Formed}
use Rattle.table.specs.States.{IsState}
use Rattle.table.proofs.Numbering.{many_rules}
use Rattle.table.proofs.Formed.{ranges}
use Rattle.table.proofs.Sections.{state_words}
use Rattle.table.proofs.StateSets.{SameStates, mentioned, mention}
use Rattle.table.proofs.Defining.{bool_same}

pub decides_no : {P : Type 0} → (P → ⊥) → Decides false P
decides_no f = (λ e. absurd (true≢false (sym e)), λ p. absurd (f p))

pub decides_yes : {P : Type 0} → P → Decides true P
decides_yes p = (λ _. p, λ _. refl)

-- the words of the one entry
mark_word : (y : List ℕ) → WordIn (31 ∷ 0 ∷ []) y ↔ (y ≡ 31 ∷ [])
mark_word y = (λ m. Memᴰ.eq_of_singleton m, λ e. Memᴰ.head e)

pub mark_words : (h : Header) → AllWords h (31 ∷ 0 ∷ [])
mark_words h y m = ap (is_word h.k h) ((mark_word y).0 m)

module _ {K : ℕ} (R : Raw) (formed : Formed R) (start there : State K) (p : ℕ) (p_is : p ≡ (header_of R).p)
    (places : (i : Item) → has start.places i ≡ (in_grid i && mentions (p ∷ 1 ∷ []) i)) (words : StandsFor (header_of R) start.words (31 ∷ 0 ∷ []))
    (is : IsState R 0 there) where
  number : p ≡ length (grammar_of R).rules
  number = p_is ∙ sym (many_rules R)

  start_is : (i : Item) → has start.places i ≡ true → i ≡ start_item (grammar_of R)
  start_is i e =
      let m = mentioned (p ∷ 1 ∷ []) i (and_parts (in_grid i) _ (sym (places i) ∙ e)).1 in
      Memᴰ.eq_of_singleton m ∙ ap (λ (r : ℕ). record { rule = r; dot = 1 }) number

  start_in : (i : Item) → i ≡ start_item (grammar_of R) → has start.places i ≡ true
  start_in i e =
      let f : i ≡ record { rule = p; dot = 1 } = e ∙ ap (λ (r : ℕ). record { rule = r; dot = 1 }) (sym number) in
      let high = (ranges R formed).p_high in
      places i
      ∙ and_from (in_grid i) _
      (ap in_grid f ∙ and_from _ _ (lt-ltb p 61 (omega (arith, p_is, high))) refl)
      (mention (p ∷ 1 ∷ []) i (Memᴰ.head f))

  some_state : 0 < (header_of R).s
  some_state = omega (arith, (ranges R formed).s_low)

  words_same : (start.words ≡ there.words) ↔ ((y : List ℕ) → WordIn (31 ∷ 0 ∷ []) y ↔ Word (table_of R) 0 y)
  words_same =
      equal_words K (header_of R) (31 ∷ 0 ∷ []) (section_of R 0 section.TheVariants.Words) (mark_words (header_of R)) (state_words R formed 0 some_state) start.words there.words words
      is.words

  pub start_decides : (r : Bool) → Decides r (SameStates start there) → Decides r (StartAsDefined (grammar_of R) (table_of R))
  start_decides r t = (
    λ e. let (same, w) = t.0 e in record {
      kernel = λ i. (λ m. start_is i (same i ∙ (is.places i).1 m), λ f. (is.places i).0 (sym (same i) ∙ start_in i f));
      words = λ y. (λ m. (mark_word y).0 ((words_same.0 w y).1 m), λ f. (words_same.0 w y).0 ((mark_word y).1 f));
    },
    λ s. t.1 (
      λ i. bool_same _ _ (λ e. (is.places i).1 ((s.kernel i).1 (start_is i e))) (λ e. start_in i ((s.kernel i).0 ((is.places i).0 e))),
      words_same.1 (λ y. (λ m. (s.words y).1 ((mark_word y).0 m), λ m. (mark_word y).1 ((s.words y).0 m))),
    ),
  )
