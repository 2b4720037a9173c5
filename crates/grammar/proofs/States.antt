-- From a table whose states are as defined to a map from the viable suffixes onto its states, and back. The state of a suffix is found
-- from state 0 by the successors for its symbols, the end mark's neighbour first; by induction it has the kernel and the words of the
-- suffix, since both follow the same closure and the same FIRST. Onto holds as each state is a successor of a lower one.
use Rattle.std.proofs.Common.{◌≡◌, ℕ, zero, suc, ◌<◌, ◌↔◌, List, [], ◌∷◌, ◌++◌, length, sym, refl, ap, ◌∙◌, subst, ap₂, inl, inr, arith}
use mathlib.Core.Option.{Option, none, some}
use mathlib.Core.Logic.Iff
use Rattle.grammar.specs.Grammar.{Grammar, WellFormed, end_mark}
use Rattle.grammar.specs.First.{FirstWith}
use Rattle.grammar.specs.Sound.{Sound}
use Rattle.grammar.specs.Item.{Item, start_item, raised, Before, Closure, HasNext, NextKernel}
use Rattle.grammar.specs.Table.{Table, Kernel, Word, HasSuccessor, StartAsDefined, SuccessorsAsDefined, StateAsDefined}
use Rattle.grammar.specs.Viable.{Valid, Viable, SuffixWord, ValidKernel, Nonempty, Suffix}
use Rattle.grammar.specs.Canonical.{StateMap, NumberedInOrder}
use Rattle.grammar.proofs.Lists.{one_front}
use Rattle.grammar.proofs.First.{symbol_no_mark}
use Rattle.grammar.proofs.Items.{Spot, spot_down, spot_up, valid→spot, spot→valid, WhichSymbol, which_symbol}
use Rattle.grammar.proofs.Suffixes.{cons_nonempty, closure_over, body, spot→viable, kernel_of, below_top, shrink, valid_items_close, kernels_follow, words_follow, mark_suffix, mark_words}

-- FIRST(α W) depends on the words of W only
pub first_over : (g : Grammar) (α : List ℕ) {W W' : List ℕ → Type 0} → ((y : List ℕ) → W y ↔ W' y) → (y : List ℕ) → FirstWith g α W y ↔ FirstWith g α W' y
first_over g α f y = (λ (u, w, (d, x, e)). (u, w, (d, (f w).0 x, e)), λ (u, w, (d, x, e)). (u, w, (d, (f w).1 x, e)))

module _ (g : Grammar) (s : Sound g) where
  wf : WellFormed g
  wf = s.well_formed

  -- a set of items that is the valid kernel of a suffix
  module _ (K : Item → Type 0) (σ : List ℕ) (ne : Nonempty σ) (k : (i : Item) → K i ↔ ValidKernel g σ i) where
    pub closure_valid : (i : Item) → Closure g K i ↔ Valid g i σ
    closure_valid i = Iff.trans (closure_over g s (λ j. (k j).0), closure_over g s (λ j. (k j).1)) (Iff.symm (valid_items_close g s σ ne i))

    pub next_viable : (X : ℕ) → HasNext g K X ↔ Viable g (X ∷ σ)
    next_viable X = (
      λ (i, (c, b)).
          let lower : Item = record { rule = i.rule; dot = length b.front } in
          let e : i ≡ raised lower = ap (λ (d : ℕ). record { rule = i.rule; dot = d }) b.dot_is in
          let p : Spot g (raised lower) σ = subst (λ (j : Item). Spot g j σ) e (valid→spot g s i σ ((closure_valid i).0 c)) in
          spot→viable g s (spot_up g X σ lower p (subst (λ (j : Item). Before g j X) e b)).0,
      λ v. let (i, (p, b)) = below_top g s X σ v in (raised i, ((closure_valid (raised i)).1 (spot→valid g s (raised i) σ p), b)),
    )

    pub next_kernel : (X : ℕ) (i : Item) → NextKernel g K X i ↔ ValidKernel g (X ∷ σ) i
    next_kernel X i =
        Iff.trans (Iff.and (Iff.trans (closure_valid (raised i)) (valid_items_close g s σ ne (raised i))) Iff.rfl) (Iff.symm (kernels_follow g s X σ ne i))

  -- the kernel of the end mark
  mark_before : (i : Item) → Before g (raised i) end_mark → i ≡ start_item g
  mark_before i b = by (which_symbol g s b)
    where
      by : WhichSymbol g s b → i ≡ start_item g
      by (inl p) = absurd (symbol_no_mark g wf end_mark p refl)
      by (inr (n, inl (a, x, c))) = absurd (omega (arith, x))
      by (inr (n, inr (a, x, c))) = ap₂ (λ (r d : ℕ). record { rule = r; dot = d }) n (omega (arith, ap length a, b.dot_is))

  mark_kernel : (i : Item) → ValidKernel g (end_mark ∷ []) i ↔ (i ≡ start_item g)
  mark_kernel i = (
    λ (v, k). mark_before i (spot_down g end_mark [] i (valid→spot g s i (end_mark ∷ []) v) k).1,
    λ e.
        let (j, (p, k)) = kernel_of g s (end_mark ∷ []) (mark_suffix g s) in
        subst (ValidKernel g (end_mark ∷ [])) (mark_before j (spot_down g end_mark [] j p k).1 ∙ sym e) (spot→valid g s j (end_mark ∷ []) p, k),
  )

  module _ (T : Table) where
    -- 1. from the states
    abbrev from_option : Option ℕ → ℕ
    from_option none = 0
    from_option (some q) = q

    abbrev state_of : List ℕ → ℕ
    state_of [] = 0
    state_of (X ∷ []) = 0
    state_of (X ∷ Y ∷ σ) = from_option (T.next (state_of (Y ∷ σ)) X)

    state_next : (X : ℕ) (σ : List ℕ) → Nonempty σ → state_of (X ∷ σ) ≡ from_option (T.next (state_of σ) X)
    state_next X [] ne = absurd (ne refl)
    state_next X (Y ∷ σ) ne = refl

    -- the state q stands for σ
    record Stands (σ : List ℕ) (q : ℕ) : Type 0 where
      within : q < T.size
      kernel : (i : Item) → Kernel T q i ↔ ValidKernel g σ i
      words : (y : List ℕ) → Word T q y ↔ SuffixWord g σ y

    module _ (size : 0 < T.size) (defined : (q : ℕ) → q < T.size → StateAsDefined g T q) where
      next_at : (X : ℕ) (σ : List ℕ) → Nonempty σ → Stands σ (state_of σ) → Viable g (X ∷ σ) → (q : ℕ) × ((T.next (state_of σ) X ≡ some q) × (state_of (X ∷ σ) ≡ q))
      next_at X σ ne f v =
          let (q, e) = ((defined (state_of σ) f.within).1.symbols X).1 ((next_viable (Kernel T (state_of σ)) σ ne f.kernel X).1 v) in
          (q, (e, state_next X σ ne ∙ ap from_option e))

      stands : (σ : List ℕ) → Suffix g σ → Stands σ (state_of σ)
      stands [] (v, ne) = absurd (ne refl)
      stands (X ∷ []) f = subst (λ (z : ℕ). Stands (z ∷ []) 0) (sym (by (body g s (X ∷ []) f).0 (body g s (X ∷ []) f).1.0)) at_mark
        where
          at_mark : Stands (end_mark ∷ []) 0
          at_mark =
              let z : StartAsDefined g T = (defined 0 size).0 refl in
              record {
                within = size;
                kernel = λ i. Iff.trans (z.kernel i) (Iff.symm (mark_kernel i));
                words = λ y. Iff.trans (z.words y) (Iff.symm (mark_words g s y));
              }

          by : (δ : List ℕ) → X ∷ [] ≡ δ ++ end_mark ∷ [] → X ≡ end_mark
          by δ e = (one_front δ [] e).1
      stands (X ∷ Y ∷ σ) (v, ne) =
          let τ : List ℕ = Y ∷ σ in
          let nt : Nonempty τ = cons_nonempty Y σ in
          let f : Stands τ (state_of τ) = stands (Y ∷ σ) (shrink g s X τ v, nt) in
          let (q, (e, h)) = next_at X τ nt f v in
          let d : SuccessorsAsDefined g T (state_of τ) = (defined (state_of τ) f.within).1 in
          subst (Stands (X ∷ τ)) (sym h)
          (record {
            within = d.within X q e;
            kernel = λ i. Iff.trans (d.kernel X q e i) (next_kernel (Kernel T (state_of τ)) τ nt f.kernel X i);
            words = λ y. Iff.trans (d.words X q e y) (Iff.trans (first_over g (X ∷ []) f.words y) (Iff.symm (words_follow g s X τ v y)));
          })

      follows : (σ : List ℕ) → Suffix g σ → (X q : ℕ) → (T.next (state_of σ) X ≡ some q) ↔ (Viable g (X ∷ σ) × (q ≡ state_of (X ∷ σ)))
      follows σ (v, ne) X q =
          let f = stands σ (v, ne) in (
            λ e.
                let n : HasNext g (Kernel T (state_of σ)) X = ((defined (state_of σ) f.within).1.symbols X).0 (q, e) in
                ((next_viable (Kernel T (state_of σ)) σ ne f.kernel X).0 n, sym (state_next X σ ne ∙ ap from_option e)),
            λ (v', h). let (q', (e, h')) = next_at X σ ne f v' in e ∙ ap (λ (z : ℕ). some z) (sym (h ∙ h')),
          )

      module _ (found : NumberedInOrder T) where
        onto_below : (n q : ℕ) → q < n → q < T.size → (σ : List ℕ) × (Suffix g σ × (state_of σ ≡ q))
        onto_below zero q l h = absurd (omega arith)
        onto_below (suc n) zero l h = (end_mark ∷ [], (mark_suffix g s, refl))
        onto_below (suc n) (suc q) l h =
            let (m, X, (lt, e)) = found (suc q) (omega arith) h in
            let (σ, (f, i)) = onto_below n m (omega arith) (omega arith) in
            let (v, j) = (follows σ f X (suc q)).0 (ap (λ (z : ℕ). T.next z X) i ∙ e) in
            (X ∷ σ, ((v, cons_nonempty X σ), sym j))

        pub states→map : StateMap g T
        states→map =
            record {
              state = state_of;
              within = λ σ f. (stands σ f).within;
              onto = λ q h. onto_below (suc q) q (omega arith) h;
              first = refl;
              kernels = λ σ f. (stands σ f).kernel;
              words = λ σ f. (stands σ f).words;
              successors = follows;
            }

    -- 2. and back
    module _ (m : StateMap g T) where
      start_defined : StartAsDefined g T
      start_defined =
          let σ : List ℕ = end_mark ∷ [] in
          let kernel : (i : Item) → Kernel T (m.state σ) i ↔ (i ≡ start_item g) = λ i. Iff.trans (m.kernels σ (mark_suffix g s) i) (mark_kernel i) in
          let words : (y : List ℕ) → Word T (m.state σ) y ↔ (y ≡ σ) = λ y. Iff.trans (m.words σ (mark_suffix g s) y) (mark_words g s y) in
          record {
            kernel = subst (λ (q : ℕ). (i : Item) → Kernel T q i ↔ (i ≡ start_item g)) m.first kernel;
            words = subst (λ (q : ℕ). (y : List ℕ) → Word T q y ↔ (y ≡ σ)) m.first words;
          }

      -- at a successor, where X σ is a suffix again
      module _ (σ : List ℕ) (f : Suffix g σ) where
        abbrev K : Item → Type 0
        K = Kernel T (m.state σ)

        more : (X q : ℕ) → T.next (m.state σ) X ≡ some q → Suffix g (X ∷ σ) × (m.state (X ∷ σ) ≡ q)
        more X q n = let (v, e) = (m.successors σ f X q).0 n in ((v, cons_nonempty X σ), sym e)

        symbols : (X : ℕ) → HasSuccessor T (m.state σ) X ↔ HasNext g K X
        symbols X =
            Iff.trans (λ (q, n). ((m.successors σ f X q).0 n).0, λ v. (m.state (X ∷ σ), (m.successors σ f X (m.state (X ∷ σ))).1 (v, refl)))
            (Iff.symm (next_viable K σ f.1 (m.kernels σ f) X))

        successors_defined : SuccessorsAsDefined g T (m.state σ)
        successors_defined =
            record {
              symbols = symbols;
              within = λ X q n. let (h, e) = more X q n in subst (λ (z : ℕ). z < T.size) e (m.within (X ∷ σ) h);
              kernel = λ X q n i.
                  let (h, e) = more X q n in
                  let k = Iff.trans (m.kernels (X ∷ σ) h i) (Iff.symm (next_kernel K σ f.1 (m.kernels σ f) X i)) in
                  subst (λ (z : ℕ). Kernel T z i ↔ NextKernel g K X i) e k;
              words = λ X q n y.
                  let (h, e) = more X q n in
                  let w = Iff.trans (words_follow g s X σ h.0 y) (Iff.symm (first_over g (X ∷ []) (m.words σ f) y)) in
                  subst (λ (z : ℕ). Word T z y ↔ FirstWith g (X ∷ []) (Word T (m.state σ)) y) e (Iff.trans (m.words (X ∷ σ) h y) w);
            }

      pub map→states : (q : ℕ) → q < T.size → StateAsDefined g T q
      map→states q h = let (σ, (f, e)) = m.onto q h in (λ z. start_defined, subst (SuccessorsAsDefined g T) e (successors_defined σ f))
