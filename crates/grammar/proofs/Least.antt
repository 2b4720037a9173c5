-- The least solution of a grammar's equations holds what is derived, and nothing else. A solution holds every word of a run, by induction
-- on the run: a rule joins its product to the value of its left side. What is made from bottom holds only words of runs, by induction on
-- how it is made.
use Rattle.std.proofs.Common.{◌≡◌, ℕ, zero, suc, Bool, true, false, cond, eqb, ◌⊎◌, ◌↔◌, List, [], ◌∷◌, ◌++◌, take, sym, refl, ap, ◌∙◌, subst, ap₂, inl, inr, append_assoc, append-nil, le_refl, arith}
use mathlib.Core.Option.{some}
use Rattle.std.proofs.lemmas.List.{take-take}
use Rattle.std.proofs.lemmas.Bool.{eqb-true, eq-eqb, cond_below, cond_above}
use Rattle.grammar.specs.Grammar.{Rule, Grammar, rule_at, IsToken, IsNonterminal, IsSymbol, IsRule, Every, WellFormed}
use Rattle.grammar.specs.Derivation.{DerivesTokens}
use Rattle.grammar.specs.Equations.{Kind, Holds, CutTo, value, product_of, share, join_of, Solves, FromBottom, at_bottom, by_rule, Least}
use Rattle.grammar.specs.Theorems.{LeastIsProductive, LeastIsFirst}
use Rattle.grammar.proofs.Lists.{take_join, take_join_left, take_nil}
use Rattle.grammar.proofs.Runs.{Run, done, token, rule, same_symbols, run_append, derived→run, run→derived}
use Rattle.grammar.proofs.First.{terminals→tokens, tokens→terminals}

-- joined words, cut before and after or only after
cut_both : (m : ℕ) (u v : List ℕ) → take m (take m u ++ take m v) ≡ take m (u ++ v)
cut_both m u v = take_join m m (take m u) v (le_refl m) ∙ take_join_left m m u v (le_refl m)

module _ {V : Type 0} (o : Kind V) (g : Grammar) (wf : WellFormed g) (m : ℕ) (c : CutTo o m g) where
  token_value : (S : ℕ → V) (a : ℕ) → IsToken g a → o.token a ≡ value o S a
  token_value S a t = cond_below a 32 (o.token a) (S a) (omega (arith, t.1, wf.tokens_below))

  nonterminal_value : (S : ℕ → V) (A : ℕ) → IsNonterminal g A → S A ≡ value o S A
  nonterminal_value S A n = cond_above A 32 (o.token A) (S A) (S A) n.0 refl

  -- the words of products are cut, so products come apart
  product_cut : (S : ℕ → V) (α y : List ℕ) → Holds o (product_of o S α) y → y ≡ take m y
  product_cut S [] y h = let e = (c.unit y).0 h in e ∙ sym (take_nil m) ∙ ap (take m) (sym e)
  product_cut S (X ∷ α) y h =
      let (u, v, (a, b, e)) = (c.product (value o S X) (product_of o S α) y).0 h in
      e ∙ sym (take-take m m (u ++ v) (le_refl m)) ∙ ap (take m) (sym e)

  product_split : (S : ℕ → V) (α β y : List ℕ) → Holds o (product_of o S (α ++ β)) y
      → (u v : List ℕ) × (Holds o (product_of o S α) u × Holds o (product_of o S β) v × (y ≡ take m (u ++ v)))
  product_split S [] β y h = ([], y, ((c.unit []).1 refl, h, product_cut S β y h))
  product_split S (X ∷ α) β y h =
      let (u, v, (x, p, e)) = (c.product (value o S X) (product_of o S (α ++ β)) y).0 h in
      let (a, b, (pa, pb, f)) = product_split S α β v p in
      let whole : take m (u ++ (a ++ b)) ≡ take m (take m (u ++ a) ++ b) = ap (take m) (sym (append_assoc u a b)) ∙ sym (take_join_left m m (u ++ a) b (le_refl m)) in (
        take m (u ++ a),
        b,
        (
          (c.product (value o S X) (product_of o S α) (take m (u ++ a))).1 (u, a, (x, pa, refl)),
          pb,
          e ∙ ap (λ (z : List ℕ). take m (u ++ z)) f ∙ take_join m m u (a ++ b) (le_refl m) ∙ whole,
        ),
      )

  -- a solution holds the products of its rules
  join_holds : (S : ℕ → V) (ρs : List Rule) (r : ℕ) (ρ : Rule) (y : List ℕ) → rule_at ρs r ≡ some ρ → Holds o (product_of o S ρ.right) y
      → Holds o (join_of o S ρs ρ.left) y
  join_holds S [] r ρ y i h = absurd cc
  join_holds S (τ ∷ ρs) (suc r) ρ y i h = (c.join (share o S ρ.left τ) (join_of o S ρs ρ.left) y).1 (inr (join_holds S ρs r ρ y i h))
  join_holds S (τ ∷ ρs) zero ρ y i h =
      (c.join (share o S ρ.left τ) (join_of o S ρs ρ.left) y).1 (inl (subst (λ (σ : Rule). Holds o (share o S ρ.left σ) y) (rule_is i) own))
    where
      rule_is : some τ ≡ some ρ → ρ ≡ τ
      rule_is e = cc

      own : Holds o (share o S ρ.left ρ) y
      own = subst (λ (b : Bool). Holds o (cond b (product_of o S ρ.right) o.bottom) y) (sym (eq-eqb ρ.left ρ.left refl)) h

  rule_holds : (S : ℕ → V) → Solves o g S → (r : ℕ) (ρ : Rule) (y : List ℕ) → IsRule g r ρ → Holds o (product_of o S ρ.right) y → Holds o (S ρ.left) y
  rule_holds S solves r ρ y i h = subst (λ (x : V). Holds o x y) (sym (solves ρ.left (wf.left_side r ρ i))) (join_holds S g.rules r ρ y i h)

  -- and so the words of runs
  run_holds : (S : ℕ → V) → Solves o g S → {α rs w : List ℕ} → Run g α rs w → Holds o (product_of o S α) (take m w)
  run_holds S solves done = (c.unit (take m [])).1 (take_nil m)
  run_holds S solves (token {a = a} {α = α} {w = w} t d) =
      let u : List ℕ = take m (a ∷ []) in
      let x : Holds o (value o S a) u = subst (λ (x : V). Holds o x u) (token_value S a t) ((c.token a t u).1 refl) in
      (c.product (value o S a) (product_of o S α) (take m (a ∷ w))).1
      (u, take m w, (x, run_holds S solves d, sym (cut_both m (a ∷ []) w)))
  run_holds S solves (rule {A = A} {r = r} {α = α} {w = w} ρ i l d) =
      let (u, v, (p, q, e)) = product_split S ρ.right α (take m w) (run_holds S solves d) in
      let n : IsNonterminal g A = subst (IsNonterminal g) l (wf.left_side r ρ i) in
      let x : Holds o (S A) u = subst (λ (B : ℕ). Holds o (S B) u) l (rule_holds S solves r ρ u i p) in
      (c.product (value o S A) (product_of o S α) (take m w)).1 (u, v, (subst (λ (z : V). Holds o z u) (nonterminal_value S A n) x, q, e))

  -- y is a token string from α, cut
  abbrev Derived : List ℕ → List ℕ → Type 0
  Derived α y = (rs w : List ℕ) × (Run g α rs w × (y ≡ take m w))

  -- where nonterminals hold only what is derived, so do products
  abbrev AllDerived : (ℕ → V) → Type 0
  AllDerived S = (A : ℕ) → IsNonterminal g A → (y : List ℕ) → Holds o (S A) y → Derived (A ∷ []) y

  product_derived : (S : ℕ → V) → AllDerived S → (α : List ℕ) → Every (IsSymbol g) α → (y : List ℕ) → Holds o (product_of o S α) y → Derived α y
  product_derived S s [] p y h = ([], [], (done, (c.unit y).0 h ∙ sym (take_nil m)))
  product_derived S s (X ∷ α) (p, ps) y h =
      let (u, v, (x, q, e)) = (c.product (value o S X) (product_of o S α) y).0 h in
      let (ss, z, (d, f)) = product_derived S s α ps v q in
      let (rs, w, (d', f')) = one p u x in
      (rs ++ ss, w ++ z, (run_append g α ss z d' d, e ∙ ap₂ (λ (a b : List ℕ). take m (a ++ b)) f' f ∙ cut_both m w z))
    where
      one : IsSymbol g X → (u : List ℕ) → Holds o (value o S X) u → Derived (X ∷ []) u
      one (inl t) u h = ([], X ∷ [], (token t done, (c.token X t u).0 (subst (λ (z : V). Holds o z u) (sym (token_value S X t)) h)))
      one (inr n) u h = s X n u (subst (λ (z : V). Holds o z u) (sym (nonterminal_value S X n)) h)

  made_derived : {S : ℕ → V} → FromBottom o g S → AllDerived S
  made_derived (at_bottom b) A n y h = absurd (c.bottom y (subst (λ (x : V). Holds o x y) (b A n) h))
  made_derived {S = S'} (by_rule {S = S} r ρ i b e) A n y h = by (eqb ρ.left A) refl (subst (λ (x : V). Holds o x y) (e A n) h) (made_derived b)
    where
      by : (t : Bool) → eqb ρ.left A ≡ t → Holds o (cond t (o.join (S A) (product_of o S ρ.right)) (S A)) y → AllDerived S → Derived (A ∷ []) y
      by false f h old = old A n y h
      by true f h old = of ((c.join (S A) (product_of o S ρ.right) y).0 h)
        where
          of : Holds o (S A) y ⊎ Holds o (product_of o S ρ.right) y → Derived (A ∷ []) y
          of (inl x) = old A n y x
          of (inr x) =
              let (rs, w, (d, q)) = product_derived S old ρ.right (wf.right_side r ρ i) y x in
              (r ∷ rs, w, (rule ρ i (eqb-true ρ.left A f) (same_symbols g (sym (append-nil ρ.right)) d), q))

  least_is_derived : (S : ℕ → V) → Least o g S → (A : ℕ) → IsNonterminal g A → (y : List ℕ)
      → Holds o (S A) y ↔ ((u : List ℕ) × (DerivesTokens g (A ∷ []) u × (y ≡ take m u)))
  least_is_derived S l A n y = (
    λ h. let (rs, w, (d, e)) = made_derived l.reached A n y h in (w, (run→derived g d, e)),
    λ (u, (t, e)). let (rs, d) = derived→run g t in subst (Holds o (S A)) (sym e) (by d refl),
  )
    where
      by : {α rs u : List ℕ} → Run g α rs u → α ≡ A ∷ [] → Holds o (S A) (take m u)
      by done e = absurd cc
      by (token {a = a} t d) e = let same : a ≡ A = cc in absurd (omega (arith, t.1, wf.tokens_below, n.0, same))
      by (rule {A = B} {r = r} {α = α} {w = w} ρ i f d) e =
          let same : ρ.left ≡ A = f ∙ cc in
          let nothing : α ≡ [] = cc in
          let d' = same_symbols g (ap (λ (x : List ℕ). ρ.right ++ x) nothing ∙ append-nil ρ.right) d in
          subst (λ (x : ℕ). Holds o (S x) (take m w)) same (rule_holds S l.solves r ρ (take m w) i (run_holds S l.solves d'))

pub least_is_productive : (V : Type 0) → LeastIsProductive V
least_is_productive V o g wf c S l A n =
    let d = least_is_derived o g wf 0 c S l A n [] in
    (λ h. let (u, (t, e)) = d.0 h in (u, t), λ (u, t). d.1 (u, (t, refl)))

pub least_is_first : (V : Type 0) → LeastIsFirst V
least_is_first V o g wf c S l A n w =
    let d = least_is_derived o g wf g.k c S l A n w in (
      λ h. let (u, (t, e)) = d.0 h in (u, (tokens→terminals g (A ∷ []) u t, e)),
      λ (u, (t, e)). d.1 (u, (terminals→tokens g wf (A ∷ []) u (inr n, tt) t, e)),
    )
