-- Pushing states by the symbols of a string. What comes on a stack is determined, and whether it exists can be found out by going along the
-- string: so the stack is there as soon as it is not absent.
use Rattle.std.proofs.Common.{◌≡◌, ℕ, ◌⊎◌, List, [], ◌∷◌, ◌++◌, get_or, drop, refl, sym, ap, ◌∙◌, subst, inl, inr}
use mathlib.Core.HLevel.{⊥_prop}
use mathlib.Core.Logic.{∥∥₁_elim}
use mathlib.Core.Option.{Option, none, some}
use Rattle.grammar.specs.Table.{Table}
use Rattle.grammar.proofs.Lists.{head_is}
use Rattle.reading.specs.Stack.{Pushes}

module _ (T : Table) where
  pub pushes_one : (ω s s' s'' : List ℕ) → Pushes T ω s s' → Pushes T ω s s'' → s' ≡ s''
  pushes_one [] s s' s'' e f = e ∙ sym f
  pushes_one (X ∷ ω) s s' s'' (p, q, (b, (more, (n, e)))) (p', q', (b', (more', (n', e')))) =
      let same : p ∷ b ≡ p' ∷ b' = pushes_one ω s _ _ more more' in
      let top : p ≡ p' = head_is same in
      let next : some q ≡ some q' = sym n ∙ ap (λ (x : ℕ). T.next x X) top ∙ n' in
      cc

  -- the states for the last symbols come first
  pub pushes_back : (front ω s s' : List ℕ) → Pushes T (front ++ ω) s s' → (s'' : List ℕ) × Pushes T ω s s''
  pushes_back [] ω s s' more = (s', more)
  pushes_back (X ∷ front) ω s s' (p, q, (b, (more, (n, e)))) = pushes_back front ω s (p ∷ b) more

  -- what can be pushed onto a stack
  abbrev pub Pushed : List ℕ → List ℕ → Type 0
  Pushed ω s = (s' : List ℕ) × Pushes T ω s s'

  further : (X : ℕ) (ω s : List ℕ) (p : ℕ) (b : List ℕ) → Pushes T ω s (p ∷ b) → (o : Option ℕ) → T.next p X ≡ o
      → Pushed (X ∷ ω) s ⊎ (Pushed (X ∷ ω) s → ⊥)
  further X ω s p b more (some q) n = inl (q ∷ p ∷ b, (p, q, (b, (more, (n, refl)))))
  further X ω s p b more none n =
      inr (λ (s', (p', q', (b', (more', (n', e'))))).
      let same : p ≡ p' = head_is (pushes_one ω s _ _ more more') in
      let next : T.next p X ≡ some q' = ap (λ (x : ℕ). T.next x X) same ∙ n' in
      absurd cc)

  found_out : (ω s : List ℕ) → Pushed ω s ⊎ (Pushed ω s → ⊥)
  found_out [] s = inl (s, refl)
  found_out (X ∷ ω) s = by (found_out ω s)
    where
      by : Pushed ω s ⊎ (Pushed ω s → ⊥) → Pushed (X ∷ ω) s ⊎ (Pushed (X ∷ ω) s → ⊥)
      by (inr never) = inr (λ (s', (p, q, (b, (more, e)))). never (p ∷ b, more))
      by (inl ([], more)) = inr (λ (s', (p, q, (b, (more', e)))). let same : [] ≡ p ∷ b = pushes_one ω s _ _ more more' in absurd cc)
      by (inl (p ∷ b, more)) = further X ω s p b more (T.next p X) refl

  pub pushes_there : (ω s : List ℕ) → ∥ Pushed ω s ∥₁ → Pushed ω s
  pushes_there ω s t = by (found_out ω s)
    where
      by : Pushed ω s ⊎ (Pushed ω s → ⊥) → Pushed ω s
      by (inl there) = there
      by (inr never) = absurd (∥∥₁_elim t ⊥_prop never)

  next_pushed : (all front : List ℕ) (X : ℕ) (ω s s' : List ℕ) → all ≡ front ++ X ∷ ω → ∥ Pushed all s ∥₁ → Pushes T ω s s'
      → (p q : ℕ) × ((b : List ℕ) × ((s' ≡ p ∷ b) × (T.next p X ≡ some q)))
  next_pushed all front X ω s s' e there more =
      let (t, whole) = pushes_there all s there in
      let (t', (p, q, (b, (more', (n, _))))) = pushes_back front (X ∷ ω) s t (subst (λ (w : List ℕ). Pushes T w s t) e whole) in
      (p, q, (b, (pushes_one ω s s' (p ∷ b) more more', n)))

  -- while symbols are left to push by, there is a top
  pub top_there : (all front : List ℕ) (X : ℕ) (ω s s' : List ℕ) → all ≡ front ++ X ∷ ω → ∥ Pushed all s ∥₁ → Pushes T ω s s'
      → s' ≡ get_or s' 0 0 ∷ drop 1 s'
  top_there all front X ω s [] e there more = let (p, q, (b, (same, n))) = next_pushed all front X ω s [] e there more in absurd cc
  top_there all front X ω s (p ∷ b) e there more = refl

  -- and it has a successor by the next of them
  pub successor_there : (all front : List ℕ) (X : ℕ) (ω s s' : List ℕ) → all ≡ front ++ X ∷ ω → ∥ Pushed all s ∥₁ → Pushes T ω s s'
      → (q : ℕ) × (T.next (get_or s' 0 0) X ≡ some q)
  successor_there all front X ω s s' e there more =
      let (p, q, (b, (same, n))) = next_pushed all front X ω s s' e there more in
      (q, ap (λ (l : List ℕ). T.next (get_or l 0 0) X) same ∙ n)
