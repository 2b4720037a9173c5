-- What a step asks of its window and its top, by tests that compute: each tells whether it holds, or that it does not.
use Rattle.std.proofs.Common.{◌≡◌, ℕ, ◌+◌, Bool, true, false, not, ◌&&◌, eqb, ltb, List, [], ◌∷◌, ◌++◌, length, Some, None, Option, sym, refl, ap, ◌∙◌, subst, ap₂, inl, inr, ⊎_elim, arith}
use mathlib.Core.List.{Memᴰ}
use mathlib.Core.Option as math
use Rattle.std.proofs.lemmas.Bool.{true≢false, cases_Bool, and_parts, and_from, and_cases, not_from_true, not_from_false, eqb-true, eq-eqb, ltb-true, ltb-false, lt-ltb}
use Rattle.source.specs.declared.token.Entry.{Entry}
use Rattle.source.specs.declared.token.Entry.TheVariants.{Given, End}
use Rattle.source.specs.declared.token.Token.{Token}
use Rattle.grammar.specs.Grammar.{Grammar, IsToken, end_mark}
use Rattle.grammar.specs.Item.{Item, raised}
use Rattle.grammar.specs.Table.{Table}
use Rattle.table.specs.LookUps.{AfterDots, BeginsWith, BeginsWord}
use Rattle.reading.specs.Window.{EndsInMark, Wants, Full, CanEnter}
use Rattle.cases.proofs.Searches.{one_of, one_at, one_found}
use Rattle.cases.proofs.Closing.{before_dot, told_before}

-- A list begins with these symbols.
abbrev pub begins : List ℕ → List ℕ → Bool
begins y [] = true
begins [] (b ∷ w) = false
begins (a ∷ y) (b ∷ w) = eqb a b && begins y w

begins_is : (y w : List ℕ) → begins y w ≡ true → BeginsWith y w
begins_is y [] e = record { rest = y; splits = refl }
begins_is [] (b ∷ w) e = absurd (true≢false (sym e))
begins_is (a ∷ y) (b ∷ w) e =
    let (h, t) = and_parts (eqb a b) (begins y w) e in
    let x = begins_is y w t in
    record { rest = x.rest; splits = ap₂ (λ (c : ℕ) (z : List ℕ). c ∷ z) (eqb-true a b h) x.splits }

begins_own : (w r : List ℕ) → begins (w ++ r) w ≡ true
begins_own [] r = refl
begins_own (a ∷ w) r = and_from (eqb a a) (begins (w ++ r) w) (eq-eqb a a refl) (begins_own w r)

is_begun : (y w : List ℕ) → BeginsWith y w → begins y w ≡ true
is_begun y w x = ap (λ (z : List ℕ). begins z w) x.splits ∙ begins_own w x.rest

-- A list ends in the end mark.
abbrev pub ends_in_mark : List ℕ → Bool
ends_in_mark [] = false
ends_in_mark (x ∷ []) = eqb x end_mark
ends_in_mark (x ∷ y ∷ w) = ends_in_mark (y ∷ w)

ends_is : (w : List ℕ) → ends_in_mark w ≡ true → EndsInMark w
ends_is [] e = absurd (true≢false (sym e))
ends_is (x ∷ []) e = ([], ap (λ (z : ℕ). z ∷ []) (eqb-true x end_mark e))
ends_is (x ∷ y ∷ w) e = let (z, h) = ends_is (y ∷ w) e in (x ∷ z, ap (λ (t : List ℕ). x ∷ t) h)

is_ending : (x : List ℕ) → ends_in_mark (x ++ end_mark ∷ []) ≡ true
is_ending [] = refl
is_ending (a ∷ []) = refl
is_ending (a ∷ b ∷ x) = is_ending (b ∷ x)

-- What is looked up, in the terms of tables.
abbrev pub looked_up : Option ℕ → math.Option ℕ
looked_up None = math.none
looked_up (Some X) = math.some X

look_up_is : (o : Option ℕ) (X : ℕ) → looked_up o ≡ math.some X → o ≡ Some X
look_up_is None X e = absurd cc
look_up_is (Some Y) X e = cc

module _ (g : Grammar) where
  -- The window wants an entry.
  abbrev pub wants : List ℕ → Bool
  wants w = ltb (length w) g.k && not (ends_in_mark w)

  pub wants_is : (w : List ℕ) → wants w ≡ true → Wants g w
  wants_is w e =
      let (a, b) = and_parts (ltb (length w) g.k) (not (ends_in_mark w)) e in (
        ltb-true (length w) g.k a,
        λ (x, h). true≢false (sym b ∙ not_from_true (ends_in_mark w) (ap ends_in_mark h ∙ is_ending x)),
      )

  pub is_full : (w : List ℕ) → wants w ≡ false → Full g w
  is_full w e =
      ⊎_elim
      (λ a. inl (ltb-false (length w) g.k a))
      (λ b. inr (ends_is w (⊎_elim (λ t. t) (λ f. absurd (true≢false (sym (not_from_false (ends_in_mark w) f) ∙ b))) (cases_Bool (ends_in_mark w)))))
      (and_cases (ltb (length w) g.k) (not (ends_in_mark w)) e)

  abbrev pub is_token : ℕ → Bool
  is_token a = ltb 0 a && ltb a (g.t + 1)

  pub token_is : (a : ℕ) → is_token a ≡ true → IsToken g a
  token_is a e =
      let (l, h) = and_parts (ltb 0 a) (ltb a (g.t + 1)) e in
      let l' = ltb-true 0 a l in
      let h' = ltb-true a (g.t + 1) h in
      (omega (arith, l'), omega (arith, h'))

  is_one : (a : ℕ) → IsToken g a → is_token a ≡ true
  is_one a x = and_from (ltb 0 a) (ltb a (g.t + 1)) (lt-ltb 0 a (omega (arith, x.0))) (lt-ltb a (g.t + 1) (omega (arith, x.1)))

  pub no_token : (a : ℕ) → is_token a ≡ false → IsToken g a → ⊥
  no_token a e x = true≢false (sym (is_one a x) ∙ e)

  -- The symbol after the dots of a kernel: after that of its first item.
  abbrev pub after_first : List Item → math.Option ℕ
  after_first [] = math.none
  after_first (i ∷ is) = looked_up (before_dot g (raised i))

  module _ (T : Table) where
    -- Some word of a state begins with these symbols.
    abbrev pub begins_word : ℕ → List ℕ → Bool
    begins_word q w = one_of (λ y. begins y w) (T.words q)

    word_is : (q : ℕ) (w : List ℕ) → begins_word q w ≡ true → BeginsWord T q w
    word_is q w e = let (y, (m, h)) = one_found (λ y. begins y w) (T.words q) e in (y, (m, begins_is y w h))

    is_word : (q : ℕ) (w : List ℕ) → BeginsWord T q w → begins_word q w ≡ true
    is_word q w (y, (m, h)) = one_at (λ y. begins y w) (T.words q) y m (is_begun y w h)

    -- An entry can be let in.
    abbrev pub enters : ℕ → List ℕ → Entry Token → Bool
    enters q w (Given t) = is_token t.kind && begins_word q (w ++ t.kind ∷ [])
    enters q w (End p) = begins_word q (w ++ end_mark ∷ [])

    pub enters_is : (q : ℕ) (w : List ℕ) (e : Entry Token) → enters q w e ≡ true → CanEnter g T q w e
    enters_is q w (Given t) h =
        let (a, b) = and_parts (is_token t.kind) (begins_word q (w ++ t.kind ∷ [])) h in
        (token_is t.kind a, word_is q (w ++ t.kind ∷ []) b)
    enters_is q w (End p) h = word_is q (w ++ end_mark ∷ []) h

    is_entering : (q : ℕ) (w : List ℕ) (e : Entry Token) → CanEnter g T q w e → enters q w e ≡ true
    is_entering q w (Given t) h =
        and_from (is_token t.kind) (begins_word q (w ++ t.kind ∷ [])) (is_one t.kind h.0) (is_word q (w ++ t.kind ∷ []) h.1)
    is_entering q w (End p) h = is_word q (w ++ end_mark ∷ []) h

    pub no_entry : (q : ℕ) (w : List ℕ) (e : Entry Token) → enters q w e ≡ false → CanEnter g T q w e → ⊥
    no_entry q w e f h = true≢false (sym (is_entering q w e h) ∙ f)

    pub after_first_is : (q X : ℕ) → after_first (T.kernel q) ≡ math.some X → AfterDots g T q X
    after_first_is q X e = by (T.kernel q) refl e
      where
        by : (is : List Item) → T.kernel q ≡ is → after_first is ≡ math.some X → AfterDots g T q X
        by [] s e = absurd cc
        by (i ∷ is) s e =
            (i, (subst (λ (C : List Item). Memᴰ i C) (sym s) (Memᴰ.head refl), told_before g (raised i) X (look_up_is (before_dot g (raised i)) X e)))
