-- Where every entry names a rule of its nonterminal, and each rule is chosen for just the words that it fits, the entries are just the rules that
-- fit. No two fit one word, so a look-up, which finds some entry for its nonterminal and word, finds the one that there is.
use Rattle.std.proofs.Common.{◌≡◌, ℕ, ◌<◌, ◌≤◌, Bool, true, false, ◌&&◌, eqb, ◌⊎◌, ◌↔◌, List, [], ◌∷◌, sym, refl, ap, ◌∙◌, subst, inl, inr}
use mathlib.Core.List.Memᴰ
use mathlib.Core.List.{Memᴰ}
use mathlib.Core.Option.{some}
use Rattle.std.proofs.lemmas.Bool.{true≢false, cases_eq, and_from, and_parts, eq-eqb, eqb-true, cond-true, cond-false}
use Rattle.grammar.specs.Table.{Fits, TwoFit}
use Rattle.words.specs.Codes.{cut}
use Rattle.words.specs.Sets.{no_words}
use Rattle.words.specs.declared.set.Words.{Words}
use Rattle.frames.specs.declared.header.Section.TheVariants.{Choices}
use Rattle.frames.specs.Form.{word_of}
use Rattle.frames.specs.Raw.{Raw, header_of, left_of, section_of}
use Rattle.lookahead.specs.Entries.{Choice, choices_in, ChosenIn}
use Rattle.lookahead.specs.Stored.{with_choices}
use Rattle.lookahead.proofs.Comparing.{stored_equal}
use Rattle.lookahead.proofs.Entering.{choices_stored}
use Rattle.table.specs.Contents.{grammar_of, table_of, same_word, choice_in}
use Rattle.table.specs.Drafts.{Formed}
use Rattle.table.specs.Fitted.{set_of, own_rules, ChosenAs}
use Rattle.table.specs.Rows.{ChoicesOnce, ChoicesGood}
use Rattle.table.proofs.LookedUp.{same_word_refl}
use Rattle.table.proofs.Sections.{choice_entry, state_choices, choices_words}
use Rattle.table.proofs.Fitting.{Fitted, placed, fits_word}

-- the test tells it of every entry
own_each : (R : Raw) (es : List ℕ) → own_rules R es ≡ true → (c : Choice) → Memᴰ c (choices_in es) → c.nonterminal ≡ left_of R c.rule
own_each R [] t c m = absurd (Memᴰ.not-nil m)
own_each R (A ∷ []) t c m = absurd (Memᴰ.not-nil m)
own_each R (A ∷ a ∷ []) t c m = absurd (Memᴰ.not-nil m)
own_each R (A ∷ a ∷ b ∷ []) t c m = absurd (Memᴰ.not-nil m)
own_each R (A ∷ a ∷ b ∷ r ∷ es) t c m = by (own_each R es parts.1 c) (Memᴰ.cases_cons m)
  where
    parts : (eqb A (left_of R r) ≡ true) × (own_rules R es ≡ true)
    parts = and_parts (eqb A (left_of R r)) (own_rules R es) t

    by : (Memᴰ c (choices_in es) → c.nonterminal ≡ left_of R c.rule) → (c ≡ record { nonterminal = A; word = word_of a b; rule = r }) ⊎ Memᴰ c (choices_in es)
        → c.nonterminal ≡ left_of R c.rule
    by so (inl p) = ap (λ (x : Choice). x.nonterminal) p ∙ eqb-true _ _ parts.0 ∙ sym (ap (λ (x : Choice). left_of R x.rule) p)
    by so (inr p) = so p

own_all : (R : Raw) (es : List ℕ) → ((c : Choice) → Memᴰ c (choices_in es) → c.nonterminal ≡ left_of R c.rule) → own_rules R es ≡ true
own_all R [] f = refl
own_all R (A ∷ []) f = refl
own_all R (A ∷ a ∷ []) f = refl
own_all R (A ∷ a ∷ b ∷ []) f = refl
own_all R (A ∷ a ∷ b ∷ r ∷ es) f =
    and_from (eqb A (left_of R r)) (own_rules R es) (eq-eqb _ _ (f (record { nonterminal = A; word = word_of a b; rule = r }) (Memᴰ.head refl)))
    (own_all R es (λ c m. f c (Memᴰ.tail m)))

-- a look-up finds some entry where there is one
entry_found : (c : Choice) (cs : List Choice) → Memᴰ c cs → (r : ℕ) × (choice_in c.nonterminal c.word cs ≡ some r)
entry_found c [] m = absurd (Memᴰ.not-nil m)
entry_found c (b ∷ cs) m = by (eqb b.nonterminal c.nonterminal && same_word b.word c.word) refl (entry_found c cs) (Memᴰ.cases_cons m)
  where
    by : (t : Bool) → (eqb b.nonterminal c.nonterminal && same_word b.word c.word) ≡ t
        → (Memᴰ c cs → (r : ℕ) × (choice_in c.nonterminal c.word cs ≡ some r)) → (c ≡ b) ⊎ Memᴰ c cs
        → (r : ℕ) × (choice_in c.nonterminal c.word (b ∷ cs) ≡ some r)
    by true t so _ = (b.rule, cond-true _ _ _ t)
    by false t so (inl p) =
        let same : (eqb b.nonterminal c.nonterminal && same_word b.word c.word) ≡ true =
        and_from _ _ (eq-eqb _ _ (sym (ap (λ (x : Choice). x.nonterminal) p))) (ap (λ (x : Choice). same_word x.word c.word) (sym p) ∙ same_word_refl c.word) in
        absurd (true≢false (sym same ∙ t))
    by false t so (inr p) = let (r, e) = so p in (r, cond-false _ _ _ t ∙ e)

module _ {K : ℕ} (R : Raw) (formed : Formed R) (q : ℕ) (l : q < (header_of R).s) (size : (header_of R).k ≡ cut K) (few : (header_of R).t ≤ 20)
    (Ws : List (Words K)) (fitted : Fitted R q Ws) where
  abbrev es : List ℕ
  es = section_of R q Choices

  abbrev Fit : ℕ → List ℕ → ℕ → Type 0
  Fit A y r = Fits (grammar_of R) (table_of R) q A y r

  abbrev Entry : ℕ → List ℕ → ℕ → Type 0
  Entry A y r = Memᴰ (record { nonterminal = A; word = y; rule = r }) (choices_in es)

  -- rule r is chosen for just the words that it fits
  equal_sets : (r : ℕ) → r < (header_of R).p → (with_choices r (no_words K) es ≡ set_of Ws r) ↔ ((y : List ℕ) → ChosenIn es r y ↔ Fit (left_of R r) y r)
  equal_sets r lr =
      stored_equal (header_of R) (with_choices r (no_words K) es) (set_of Ws r) (ChosenIn es r) (λ y. Fit (left_of R r) y r)
      (λ y (A, m). choices_words R formed q l (record { nonterminal = A; word = y; rule = r }) m)
      (λ y. fits_word R formed q l (left_of R r) y r)
      (choices_stored K (header_of R) size few r es (choices_words R formed q l))
      (fitted.each r lr)

  module _ (own : own_rules R es ≡ true) (chosen : ChosenAs (header_of R).p es Ws) where
    entry_fits : (A : ℕ) (y : List ℕ) (r : ℕ) → Entry A y r → Fit A y r
    entry_fits A y r m =
        let c : Choice = record { nonterminal = A; word = y; rule = r } in
        let lr = (state_choices R formed q l c m).rule in
        subst (λ (B : ℕ). Fit B y r) (sym (own_each R es own c m)) (((equal_sets r lr).0 (chosen r lr) y).0 (A, m))

    fits_entry : (A : ℕ) (y : List ℕ) (r : ℕ) → Fit A y r → Entry A y r
    fits_entry A y r f =
        let x = placed R formed q A y r f in
        let (B, m) = ((equal_sets r x.within).0 (chosen r x.within) y).1 (subst (λ (C : ℕ). Fit C y r) (sym x.left_is) f) in
        subst (λ (C : ℕ). Entry C y r) (own_each R es own (record { nonterminal = B; word = y; rule = r }) m ∙ x.left_is) m

    module _ (one : TwoFit (grammar_of R) (table_of R) q → ⊥) where
      one_rule : (A : ℕ) (y : List ℕ) (r r' : ℕ) → Fit A y r → Fit A y r' → r ≡ r'
      one_rule A y r r' f f' = by (cases_eq r r')
        where
          by : (r ≡ r') ⊎ (r ≡ r' → ⊥) → r ≡ r'
          by (inl e) = e
          by (inr e) = absurd (one (record { nonterminal = A; word = y; one = r; other = r'; one_fits = f; other_fits = f'; differ = e }))

      once : ChoicesOnce R q
      once c m =
          let (r, e) = entry_found c (choices_in es) m in
          let f = entry_fits c.nonterminal c.word r (choice_entry c.nonterminal c.word r (choices_in es) e) in
          e ∙ ap (λ (x : ℕ). some x) (one_rule c.nonterminal c.word r c.rule f (entry_fits c.nonterminal c.word c.rule m))

      pub passed_good : ChoicesGood R q
      passed_good = (
        once,
        λ A y r. (
          λ e. entry_fits A y r (choice_entry A y r (choices_in es) e),
          λ f. once (record { nonterminal = A; word = y; rule = r }) (fits_entry A y r f),
        ),
      )

  module _ (good : ChoicesGood R q) where
    chosen_fits : (A : ℕ) (y : List ℕ) (r : ℕ) → Entry A y r → Fit A y r
    chosen_fits A y r m = (good.1 A y r).0 (good.0 (record { nonterminal = A; word = y; rule = r }) m)

    pub good_own : own_rules R es ≡ true
    good_own = own_all R es (λ c m. sym (placed R formed q c.nonterminal c.word c.rule (chosen_fits c.nonterminal c.word c.rule m)).left_is)

    pub good_chosen : ChosenAs (header_of R).p es Ws
    good_chosen r lr = (equal_sets r lr).1 (λ y. (
      λ (A, m). let f = chosen_fits A y r m in subst (λ (B : ℕ). Fit B y r) (sym (placed R formed q A y r f).left_is) f,
      λ f. (left_of R r, choice_entry (left_of R r) y r (choices_in es) ((good.1 (left_of R r) y r).1 f)),
    ))
