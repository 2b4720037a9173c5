-- The tables with nothing wrong are the canonical collections. Over a map from suffixes onto states, equal states are equivalent suffixes,
-- the states along a right side are those of the suffixes along it, and so a rule fits just where the parser produces by it; what is asked
-- of a table state by state is then what is asked of the parser class by class.
use Rattle.std.proofs.Common.{◌≡◌, ℕ, ◌<◌, ◌↔◌, List, [], ◌∷◌, ◌++◌, sym, refl, ap, ◌∙◌, subst, subst₂, arith}
use mathlib.Core.Option.{some}
use mathlib.Core.Logic.Iff
use native.Mathlib.Decide.{ℕ_discrete}
use Rattle.grammar.specs.Grammar.{Grammar, IsToken, IsNonterminal, end_mark}
use Rattle.grammar.specs.Sound.{Sound}
use Rattle.grammar.specs.Item.{Item, Closure}
use Rattle.grammar.specs.Table.{Table, Kernel, Word, EqualStates, After, Fits, TwoFit, IsCollection, Accepted}
use Rattle.grammar.specs.Viable.{Viable, InV, Equivalent, ValidKernel, Nonempty, Suffix}
use Rattle.grammar.specs.Parser.{Shifts, Produces, Deterministic}
use Rattle.grammar.specs.Canonical.{StateMap, Collection, Canonical, NumberedInOrder}
use Rattle.grammar.proofs.Items.{valid→spot, spot→valid}
use Rattle.grammar.proofs.Suffixes.{cons_nonempty, turned, closure_over, shrink, replaced, mark_suffix, equivalent_words, equivalent_spots}
use Rattle.grammar.proofs.Actions.{class_word}
use Rattle.grammar.proofs.States.{closure_valid, states→map, map→states}
use Rattle.grammar.proofs.Search.{found_state}

-- numbers of which none is below the other are the same
neither : (a b : ℕ) → (a < b → ⊥) → (b < a → ⊥) → a ≡ b
neither a b f h = omega (arith, f, h)

pub longer : (ω σ : List ℕ) → Nonempty σ → Nonempty (ω ++ σ)
longer [] σ ne = ne
longer (X ∷ ω) σ ne = cons_nonempty X (ω ++ σ)

module _ (g : Grammar) (s : Sound g) where
  module _ (T : Table) (m : StateMap g T) where
    items : (σ : List ℕ) → Suffix g σ → (i : Item) (y : List ℕ) → (Closure g (Kernel T (m.state σ)) i × Word T (m.state σ) y) ↔ InV g σ i y
    items σ f i y = Iff.and (closure_valid g s (Kernel T (m.state σ)) σ f.1 (m.kernels σ f) i) (m.words σ f y)

    -- equal states are equivalent suffixes
    equal_in : (σ τ : List ℕ) → Suffix g σ → Suffix g τ → EqualStates T (m.state σ) (m.state τ) → (i : Item) (y : List ℕ) → InV g σ i y → InV g τ i y
    equal_in σ τ f h (k, w) i y v = let (c, x) = (items σ f i y).1 v in (items τ h i y).0 (closure_over g s (λ j. (k j).0) c, (w y).0 x)

    equal→equivalent : (σ τ : List ℕ) → Suffix g σ → Suffix g τ → EqualStates T (m.state σ) (m.state τ) → Equivalent g σ τ
    equal→equivalent σ τ f h (k, w) i y = (equal_in σ τ f h (k, w) i y, equal_in τ σ h f (λ j. Iff.symm (k j), λ z. Iff.symm (w z)) i y)

    kernel_over : (σ τ : List ℕ) → Suffix g σ → Equivalent g σ τ → (i : Item) → ValidKernel g σ i → ValidKernel g τ i
    kernel_over σ τ f e i (v, k) = (spot→valid g s i τ (equivalent_spots g s σ τ f e i (valid→spot g s i σ v)), k)

    equivalent→equal : (σ τ : List ℕ) → Suffix g σ → Suffix g τ → Equivalent g σ τ → EqualStates T (m.state σ) (m.state τ)
    equivalent→equal σ τ f h e = (
      λ i. Iff.trans (m.kernels σ f i) (Iff.trans (kernel_over σ τ f e i, kernel_over τ σ h (turned e) i) (Iff.symm (m.kernels τ h i))),
      λ y. Iff.trans (m.words σ f y) (Iff.trans (equivalent_words g s σ τ f.0 e y, equivalent_words g s τ σ h.0 (turned e) y) (Iff.symm (m.words τ h y))),
    )

    -- the states along a right side
    after→state : (ω σ : List ℕ) → Suffix g σ → (q : ℕ) → After T (m.state σ) ω q → Suffix g (ω ++ σ) × (q ≡ m.state (ω ++ σ))
    after→state [] σ f q e = (f, sym e)
    after→state (X ∷ ω) σ f q (p, a, n) =
        let (h, e) = after→state ω σ f p a in
        let (v, i) = (m.successors (ω ++ σ) h X q).0 (ap (λ (z : ℕ). T.next z X) (sym e) ∙ n) in
        ((v, cons_nonempty X (ω ++ σ)), i)

    pub state→after : (ω σ : List ℕ) → Suffix g σ → Viable g (ω ++ σ) → After T (m.state σ) ω (m.state (ω ++ σ))
    state→after [] σ f v = refl
    state→after (X ∷ ω) σ f v =
        let v' = shrink g s X (ω ++ σ) v in
        (m.state (ω ++ σ), state→after ω σ f v', (m.successors (ω ++ σ) (v', longer ω σ f.1) X (m.state (X ∷ (ω ++ σ)))).1 (v, refl))

    pub fits_produces : (σ : List ℕ) → Suffix g σ → (A : ℕ) (y : List ℕ) (r : ℕ) → Fits g T (m.state σ) A y r ↔ Produces g σ A y r
    fits_produces σ f A y r = (
      λ h.
          let ω = h.rule.right in
          let (sf, i) = after→state ω σ f h.state h.after_is in
          record {
            viable = ((m.successors σ f A h.has_next.0).0 h.has_next.1).0;
            rule = h.rule;
            is_rule = h.is_rule;
            left_is = h.left_is;
            word = (class_word g s (ω ++ σ) y sf.0).1 ((m.words (ω ++ σ) sf y).0 (subst (λ (z : ℕ). Word T z y) i h.word));
          },
      λ p.
          let ω = p.rule.right in
          let v : Viable g (ω ++ σ) = replaced g s A σ p.viable r p.rule p.is_rule p.left_is in
          record {
            nonterminal = subst (IsNonterminal g) p.left_is (s.well_formed.left_side r p.rule p.is_rule);
            has_next = (m.state (A ∷ σ), (m.successors σ f A (m.state (A ∷ σ))).1 (p.viable, refl));
            rule = p.rule;
            is_rule = p.is_rule;
            left_is = p.left_is;
            state = m.state (ω ++ σ);
            after_is = state→after ω σ f v;
            word = (m.words (ω ++ σ) (v, longer ω σ f.1) y).1 ((class_word g s (ω ++ σ) y v).0 p.word);
          },
    )

    word_shifts : (a : ℕ) (σ : List ℕ) → Suffix g (a ∷ σ) → (y : List ℕ) → (IsToken g a × Word T (m.state (a ∷ σ)) (a ∷ y)) ↔ Shifts g σ a y
    word_shifts a σ f y =
        let w = Iff.trans (m.words (a ∷ σ) f (a ∷ y)) (Iff.symm (class_word g s (a ∷ σ) (a ∷ y) f.0)) in
        (λ (t, x). record { viable = f.0; token = t; word = w.0 x }, λ h. (h.token, w.1 h.word))

    -- the parser is deterministic where no two rules fit one word
    pub one_fits : ((q : ℕ) → q < T.size → TwoFit g T q → ⊥) ↔ Deterministic g
    one_fits = (
      λ none σ A y r r' f p p'. by (ℕ_discrete r r') none σ A y f p p',
      λ det q h t.
          let A = t.nonterminal in
          let y = t.word in
          let (σ, (f, e)) = m.onto q h in
          let act : (r : ℕ) → Fits g T q A y r → Produces g σ A y r = λ r x. (fits_produces σ f A y r).0 (subst (λ (z : ℕ). Fits g T z A y r) (sym e) x) in
          t.differ (det σ A y t.one t.other f (act t.one t.one_fits) (act t.other t.other_fits)),
    )
      where
        by : {r r' : ℕ} → Dec (r ≡ r') → ((q : ℕ) → q < T.size → TwoFit g T q → ⊥)
            → (σ : List ℕ) (A : ℕ) (y : List ℕ) → Suffix g σ → Produces g σ A y r → Produces g σ A y r' → r ≡ r'
        by (yes e) none σ A y f p p' = e
        by {r} {r'} (no n) none σ A y f p p' =
            let one = (fits_produces σ f A y r).1 p in
            let other = (fits_produces σ f A y r').1 p' in
            absurd (none (m.state σ) (m.within σ f) (record { nonterminal = A; word = y; one = r; other = r'; one_fits = one; other_fits = other; differ = n }))

  module _ (T : Table) where
    pub in_order : IsCollection g T → NumberedInOrder T
    in_order c q p h = found_state g s T c.defined q h p (c.found q h)

    pub collection→map : IsCollection g T → StateMap g T
    collection→map c = states→map g s T c.some_state c.defined (in_order c)

    collected : IsCollection g T → Collection g T
    collected c =
        let m : StateMap g T = collection→map c in
        record {
          map = m;
          classes = λ σ τ f h. (
            λ e. equal→equivalent T m σ τ f h (subst (EqualStates T (m.state σ)) e (λ i. Iff.rfl, λ y. Iff.rfl)),
            λ e.
                let (k, w) = equivalent→equal T m σ τ f h e in
                neither (m.state σ) (m.state τ)
                (λ l. c.distinct (m.state τ) (m.within τ h) (m.state σ, (l, (k, w))))
                (λ l. c.distinct (m.state σ) (m.within σ f) (m.state τ, (l, (λ i. Iff.symm (k i), λ y. Iff.symm (w y))))),
          );
          items = items T m;
        }

    uncollected : Collection g T → NumberedInOrder T → IsCollection g T
    uncollected c order =
        let m : StateMap g T = c.map in
        record {
          some_state = subst (λ (z : ℕ). z < T.size) m.first (m.within (end_mark ∷ []) (mark_suffix g s));
          defined = map→states g s T m;
          distinct = λ q h (p, (l, same)).
              let (σ, (f, e)) = m.onto p (omega (arith, l, h)) in
              let (τ, (f', e')) = m.onto q h in
              let alike : Equivalent g σ τ = equal→equivalent T m σ τ f f' (subst₂ (λ (x y : ℕ). EqualStates T x y) (sym e) (sym e') same) in
              let equal : p ≡ q = sym e ∙ (c.classes σ τ f f').1 alike ∙ e' in
              omega (arith, l, equal);
          found = λ q h (p, n). n (order q p h);
        }

    pub collections_are_canonical : IsCollection g T ↔ (Collection g T × NumberedInOrder T)
    collections_are_canonical = (λ c. (collected c, in_order c), λ (c, order). uncollected c order)

    canonical : Accepted g T → Canonical g T
    canonical a =
        let c = collected a.collection in
        let m : StateMap g T = c.map in
        record {
          collection = c;
          shifts = word_shifts T m;
          produces = λ σ f A y r. Iff.trans (a.choices (m.state σ) (m.within σ f) A y r) (fits_produces T m σ f A y r);
        }

    accepted : Canonical g T → Deterministic g → NumberedInOrder T → Accepted g T
    accepted c det order =
        let m : StateMap g T = c.collection.map in
        record {
          collection = uncollected c.collection order;
          one_fits = (one_fits T m).1 det;
          choices = λ q h A y r.
              let (σ, (f, e)) = m.onto q h in
              subst (λ (z : ℕ). (T.choice z A y ≡ some r) ↔ Fits g T z A y r) e (Iff.trans (c.produces σ f A y r) (Iff.symm (fits_produces T m σ f A y r)));
        }

    pub accepted_are_canonical : Accepted g T ↔ (Canonical g T × Deterministic g × NumberedInOrder T)
    accepted_are_canonical = (
      λ a. (canonical a, (one_fits T (collection→map a.collection)).0 a.one_fits, in_order a.collection),
      λ (c, det, order). accepted c det order,
    )
