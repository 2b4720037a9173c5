-- What is wrong with a table can be looked for. States, symbols, rules and words are finitely many, so whether a state is a successor of a
-- lower one, and whether two rules fit one word at it, is decided; a state that is not not found is therefore found.
use Rattle.std.proofs.Common.{◌≡◌, ℕ, zero, suc, ◌+◌, ◌<◌, ◌⊎◌, ◌↔◌, List, [], ◌∷◌, length, sym, refl, ap, ◌∙◌, subst, inl, inr, arith}
use mathlib.Core.List.Memᴰ
use mathlib.Core.List.{Memᴰ, List-discrete}
use mathlib.Core.Option.{Option, none, some, discrete}
use native.Mathlib.Decide.{ℕ_discrete}
use Rattle.grammar.specs.Grammar.{Rule, Grammar, rule_at, IsRule, WellFormed}
use Rattle.grammar.specs.Item.{Item, Before}
use Rattle.grammar.specs.Table.{Table, Word, HasSuccessor, StateAsDefined, Found, NotFound, After, Fits, TwoFit}
use Rattle.grammar.specs.Sound.{Sound}
use Rattle.grammar.proofs.Items.{WhichSymbol, which_symbol}

pub dec_below : (P : ℕ → Type 0) → ((n : ℕ) → Dec (P n)) → (b : ℕ) → Dec ((n : ℕ) × ((n < b) × P n))
dec_below P d zero = no (λ (n, (h, p)). omega (arith, h))
dec_below P d (suc b) = by (d b) (dec_below P d b)
  where
    by : Dec (P b) → Dec ((n : ℕ) × ((n < b) × P n)) → Dec ((n : ℕ) × ((n < suc b) × P n))
    by (yes p) r = yes (b, (omega arith, p))
    by (no f) (yes (n, (h, p))) = yes (n, (omega arith, p))
    by (no f) (no h) = no (λ (n, (l, p)). last n l p (ℕ_discrete n b))
      where
        last : (n : ℕ) → n < suc b → P n → Dec (n ≡ b) → ⊥
        last n l p (yes e) = f (subst P e p)
        last n l p (no m) = h (n, (omega (arith, l, m), p))

pub dec_listed : {A : Type 0} (P : A → Type 0) (l : List A) → ((a : A) → Memᴰ a l → Dec (P a)) → Dec ((a : A) × (Memᴰ a l × P a))
dec_listed P [] d = no (λ (a, (m, p)). Memᴰ.not-nil m)
dec_listed {A} P (x ∷ l) d = by (d x (Memᴰ.head refl)) (dec_listed P l (λ a m. d a (Memᴰ.tail m)))
  where
    by : Dec (P x) → Dec ((a : A) × (Memᴰ a l × P a)) → Dec ((a : A) × (Memᴰ a (x ∷ l) × P a))
    by (yes p) r = yes (x, (Memᴰ.head refl, p))
    by (no f) (yes (a, (m, p))) = yes (a, (Memᴰ.tail m, p))
    by (no f) (no h) = no (λ (a, (m, p)). which (Memᴰ.cases_cons m) p)
      where
        which : {a : A} → (a ≡ x) ⊎ Memᴰ a l → P a → ⊥
        which (inl e) p = f (subst P e p)
        which {a} (inr m) p = h (a, (m, p))

dec_member : (y : List ℕ) (l : List (List ℕ)) → Dec (Memᴰ y l)
dec_member y [] = no Memᴰ.not-nil
dec_member y (x ∷ l) = by (List-discrete ℕ_discrete y x) (dec_member y l)
  where
    by : Dec (y ≡ x) → Dec (Memᴰ y l) → Dec (Memᴰ y (x ∷ l))
    by (yes e) r = yes (Memᴰ.head e)
    by (no f) (yes m) = yes (Memᴰ.tail m)
    by (no f) (no h) = no (λ m. which (Memᴰ.cases_cons m))
      where
        which : (y ≡ x) ⊎ Memᴰ y l → ⊥
        which (inl e) = f e
        which (inr m) = h m

rule_below : (ρs : List Rule) (r : ℕ) (ρ : Rule) → rule_at ρs r ≡ some ρ → r < length ρs
rule_below [] r ρ e = absurd cc
rule_below (τ ∷ ρs) zero ρ e = omega arith
rule_below (τ ∷ ρs) (suc r) ρ e = let h = rule_below ρs r ρ e in omega arith

module _ (g : Grammar) (s : Sound g) (T : Table) where
  wf : WellFormed g
  wf = s.well_formed

  -- symbols with a next have small numbers
  before_small : {i : Item} (X : ℕ) → Before g i X → X < 32 + g.n
  before_small X b = by (which_symbol g s b)
    where
      by : WhichSymbol g s b → X < 32 + g.n
      by (inl (inl t)) = omega (arith, t.1, wf.tokens_below)
      by (inl (inr n)) = omega (arith, n.1)
      by (inr (n, inl (a, x, c))) = omega (arith, x, wf.some_nonterminal)
      by (inr (n, inr (a, x, c))) = omega (arith, x)

  pub found_state : ((q : ℕ) → q < T.size → StateAsDefined g T q) → (q : ℕ) → q < T.size → 0 < q → (NotFound T q → ⊥) → Found T q
  found_state defined q h p nf = by (dec_below Leads (λ m. dec_below (λ (X : ℕ). T.next m X ≡ some q) (λ X. discrete ℕ_discrete (T.next m X) (some q)) (32 + g.n)) q)
    where
      Leads : ℕ → Type 0
      Leads m = (X : ℕ) × ((X < 32 + g.n) × (T.next m X ≡ some q))

      by : Dec ((m : ℕ) × ((m < q) × Leads m)) → Found T q
      by (yes (m, (l, (X, (x, e))))) = (m, X, (l, e))
      by (no f) = absurd (nf (
        p,
        λ (m, X, (l, e)).
            let (i, (c, b)) = ((defined m (omega (arith, l, h))).1.symbols X).0 (q, e) in
            f (m, (l, (X, (before_small X b, e)))),
      ))

  -- the state after a right side is one, if there is one
  after_one : (q : ℕ) (ω : List ℕ) {a b : ℕ} → After T q ω a → After T q ω b → a ≡ b
  after_one q [] e f = sym e ∙ f
  after_one q (X ∷ ω) (p, x, e) (p', x', e') = let h : p ≡ p' = after_one q ω x x' in cc

  dec_successor : (q X : ℕ) → Dec (HasSuccessor T q X)
  dec_successor q X = by (T.next q X) refl
    where
      by : (o : Option ℕ) → T.next q X ≡ o → Dec (HasSuccessor T q X)
      by none e = no (λ (q', f). cc)
      by (some q') e = yes (q', e)

  dec_after : (q : ℕ) (ω : List ℕ) → Dec ((q' : ℕ) × After T q ω q')
  dec_after q [] = yes (q, refl)
  dec_after q (X ∷ ω) = by (dec_after q ω)
    where
      along : (p : ℕ) → After T q ω p → Dec (HasSuccessor T p X) → Dec ((q' : ℕ) × After T q (X ∷ ω) q')
      along p a (yes (q', e)) = yes (q', (p, a, e))
      along p a (no f) = no (λ (q', (p', a', e)). f (q', ap (λ (z : ℕ). T.next z X) (after_one q ω a a') ∙ e))

      by : Dec ((p : ℕ) × After T q ω p) → Dec ((q' : ℕ) × After T q (X ∷ ω) q')
      by (yes (p, a)) = along p a (dec_successor p X)
      by (no f) = no (λ (q', (p, a, e)). f (p, a))

  -- the words that a rule fits at a state, in a list
  record Fitting (q r : ℕ) : Type 0 where
    list : List (List ℕ)
    is : (y : List ℕ) → Memᴰ y list ↔ ((A : ℕ) × Fits g T q A y r)

  module _ (q r : ℕ) where
    nothing : ((A : ℕ) (y : List ℕ) → Fits g T q A y r → ⊥) → Fitting q r
    nothing f = record { list = []; is = λ y. (λ m. absurd (Memᴰ.not-nil m), λ (A, h). absurd (f A y h)) }

    module _ (ρ : Rule) (i : IsRule g r ρ) where
      same_rule : {A : ℕ} {y : List ℕ} (f : Fits g T q A y r) → f.rule ≡ ρ
      same_rule f = let j : IsRule g r f.rule = f.is_rule in cc

      rule_after : {A : ℕ} {y : List ℕ} (f : Fits g T q A y r) → After T q ρ.right f.state
      rule_after f = subst (λ (τ : Rule). After T q τ.right f.state) (same_rule f) f.after_is

      by_after : HasSuccessor T q ρ.left → Dec ((q' : ℕ) × After T q ρ.right q') → Fitting q r
      by_after n (yes (q', a)) =
          record {
            list = T.words q';
            is = λ y. (
              λ m. (ρ.left, record { nonterminal = wf.left_side r ρ i; has_next = n; rule = ρ; is_rule = i; left_is = refl; state = q'; after_is = a; word = m }),
              λ (A, f). subst (λ (z : ℕ). Word T z y) (after_one q ρ.right (rule_after f) a) f.word,
            );
          }
      by_after n (no h) = nothing (λ A y f. h (f.state, rule_after f))

      by_successor : Dec (HasSuccessor T q ρ.left) → Fitting q r
      by_successor (yes n) = by_after n (dec_after q ρ.right)
      by_successor (no h) = nothing (λ A y f. h (subst (HasSuccessor T q) (sym f.left_is ∙ ap (λ (τ : Rule). τ.left) (same_rule f)) f.has_next))

    fitting : Fitting q r
    fitting = by_rule (rule_at g.rules r) refl
      where
        by_rule : (o : Option Rule) → rule_at g.rules r ≡ o → Fitting q r
        by_rule none e = nothing (λ A y f. let j : IsRule g r f.rule = f.is_rule in cc)
        by_rule (some ρ) e = by_successor ρ e (dec_successor q ρ.left)

  -- a rule that fits is a rule of one nonterminal
  one_left : {q A B r : ℕ} {y z : List ℕ} → Fits g T q A y r → Fits g T q B z r → A ≡ B
  one_left {r = r} f h =
      let i : IsRule g r f.rule = f.is_rule in
      let j : IsRule g r h.rule = h.is_rule in
      let same : f.rule ≡ h.rule = cc in
      sym f.left_is ∙ ap (λ (τ : Rule). τ.left) same ∙ h.left_is

  abbrev Clash : ℕ → ℕ → ℕ → List ℕ → Type 0
  Clash q r r' y = (A : ℕ) × (Fits g T q A y r × Fits g T q A y r')

  dec_clash : (q r r' : ℕ) → Dec ((y : List ℕ) × Clash q r r' y)
  dec_clash q r r' = by (dec_listed (Clash q r r') one.list at_word)
    where
      one : Fitting q r
      one = fitting q r

      other : Fitting q r'
      other = fitting q r'

      same : (y : List ℕ) → (A : ℕ) × Fits g T q A y r → (B : ℕ) × Fits g T q B y r' → Dec (Clash q r r' y)
      same y (A, f) (B, h) = of (ℕ_discrete B A)
        where
          of : Dec (B ≡ A) → Dec (Clash q r r' y)
          of (yes e) = yes (A, (f, subst (λ (z : ℕ). Fits g T q z y r') e h))
          of (no n) = no (λ (C, (f', h')). n (one_left h h' ∙ one_left f' f))

      at_word : (y : List ℕ) → Memᴰ y one.list → Dec (Clash q r r' y)
      at_word y m = of (dec_member y other.list)
        where
          of : Dec (Memᴰ y other.list) → Dec (Clash q r r' y)
          of (yes m') = same y ((one.is y).0 m) ((other.is y).0 m')
          of (no n) = no (λ (A, (f, h)). n ((other.is y).1 (A, h)))

      by : Dec ((y : List ℕ) × (Memᴰ y one.list × Clash q r r' y)) → Dec ((y : List ℕ) × Clash q r r' y)
      by (yes (y, (m, c))) = yes (y, c)
      by (no n) = no (λ (y, (A, (f, h))). n (y, ((one.is y).1 (A, f), (A, (f, h)))))

  pub dec_two_fit : (q : ℕ) → Dec (TwoFit g T q)
  dec_two_fit q = by (dec_below Some (λ r. dec_below (Pair r) (λ r'. pair r r' (ℕ_discrete r r') (dec_clash q r r')) rules) rules)
    where
      rules : ℕ
      rules = length g.rules

      Pair : ℕ → ℕ → Type 0
      Pair r r' = (r ≡ r' → ⊥) × ((y : List ℕ) × Clash q r r' y)

      Some : ℕ → Type 0
      Some r = (r' : ℕ) × ((r' < rules) × Pair r r')

      pair : (r r' : ℕ) → Dec (r ≡ r') → Dec ((y : List ℕ) × Clash q r r' y) → Dec (Pair r r')
      pair r r' (yes e) c = no (λ (n, x). n e)
      pair r r' (no n) (yes c) = yes (n, c)
      pair r r' (no n) (no h) = no (λ (m, c). h c)

      below : {A : ℕ} {y : List ℕ} {r : ℕ} → Fits g T q A y r → r < rules
      below {r = r} f = rule_below g.rules r f.rule f.is_rule

      by : Dec ((r : ℕ) × ((r < rules) × Some r)) → Dec (TwoFit g T q)
      by (yes (r, (l, (r', (l', (n, (y, (A, (f, h)))))))))
          = yes (record { nonterminal = A; word = y; one = r; other = r'; one_fits = f; other_fits = h; differ = n })
      by (no n) = no (λ t.
          let f = t.one_fits in
          let h = t.other_fits in
          n (t.one, (below f, (t.other, (below h, (t.differ, (t.word, (t.nonterminal, (f, h)))))))))
