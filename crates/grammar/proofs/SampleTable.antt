-- A sample table. Of 32 → 1 all runs, items, closures and choices are few enough to be listed.
use Rattle.std.proofs.Common.{◌≡◌, ℕ, zero, suc, ◌+◌, ◌<◌, Bool, true, false, cond, eqb, ◌↔◌, List, [], ◌∷◌, ◌++◌, length, take, sym, refl, ap, ◌∙◌, subst, ap₂, inl, inr, arith}
use mathlib.Core.List.Memᴰ
use mathlib.Core.Option.{none, some}
use Rattle.std.proofs.lemmas.Bool.{eqb-true}
use Rattle.grammar.specs.Grammar.{Rule, rule_at, IsSymbol, IsRule, WellFormed}
use Rattle.grammar.specs.First.{FirstWith}
use Rattle.grammar.specs.Sound.{Sound}
use Rattle.grammar.specs.Item.{start_rule, Item, raised, Before, Closure, of_kernel, of_rule, HasNext, NextKernel, OfList}
use Rattle.grammar.specs.Table.{Kernel, Word, HasSuccessor, SuccessorsAsDefined, StateAsDefined, EqualStates, Found, After, Fits}
use Rattle.grammar.specs.Sample.{token_rule, once, sample_next, sample_choice, sample, SampleIsAccepted}
use Rattle.grammar.proofs.Lists.{one_front}
use Rattle.grammar.proofs.Runs.{Run, done, token, rule, run_nil, derived→run, run→derived}
use Rattle.grammar.proofs.First.{terminals→tokens, tokens→terminals}
use Rattle.grammar.proofs.Augmented.{StartPart, start_parts, WhichRule, which_rule}
use Rattle.grammar.proofs.SampleGrammars.{Fine, token_fine, sound}

is_one : (r : ℕ) (ρ : Rule) → IsRule once r ρ → (r ≡ 0) × (ρ ≡ token_rule)
is_one zero ρ e = (refl, cc)
is_one (suc r) ρ e = absurd cc

once_sound : Sound once
once_sound = sound 1 (omega arith) (token_rule ∷ []) 0 refl (λ r ρ i. subst (Fine once) (sym (is_one r ρ i).1) (token_fine 1 (token_rule ∷ [])))

wf : WellFormed once
wf = once_sound.well_formed

abbrev item : ℕ → ℕ → Item
item r d = record { rule = r; dot = d }

same_item : (i : Item) {r d : ℕ} → i.rule ≡ r → i.dot ≡ d → i ≡ item r d
same_item i e f = ap₂ item e f

-- what stands before dots
data Which (i : Item) (X : ℕ) : Type 0 where
  behind_1 : i ≡ item 0 1 → X ≡ 1 → Which i X
  behind_32 : i ≡ item 1 1 → X ≡ 32 → Which i X
  behind_31 : i ≡ item 1 2 → X ≡ 31 → Which i X

which : (i : Item) (X : ℕ) → Before once i X → Which i X
which i X b = by (which_rule once i.rule b.rule b.is_rule)
  where
    at_start : i.rule ≡ 1 → StartPart b.front X b.back → Which i X
    at_start n (inl (a, x, c)) = behind_32 (same_item i n (b.dot_is ∙ ap (λ (f : List ℕ). length f + 1) a)) x
    at_start n (inr (a, x, c)) = behind_31 (same_item i n (b.dot_is ∙ ap (λ (f : List ℕ). length f + 1) a)) x

    by : WhichRule once i.rule b.rule → Which i X
    by (inl j) =
        let (n, e) = is_one i.rule b.rule j in
        let (f, x, c) = one_front b.front b.back (sym (ap (λ (ρ : Rule). ρ.right) e) ∙ b.right_is) in
        behind_1 (same_item i n (b.dot_is ∙ ap (λ (f : List ℕ). length f + 1) f)) (sym x)
    by (inr (n, e)) = at_start n (start_parts b.front X b.back (sym (ap (λ (ρ : Rule). ρ.right) e) ∙ b.right_is))

before_32 : Before once (item 1 1) 32
before_32 = record { rule = start_rule; is_rule = refl; front = []; back = 31 ∷ []; right_is = refl; dot_is = refl }

before_1 : Before once (item 0 1) 1
before_1 = record { rule = token_rule; is_rule = refl; front = []; back = []; right_is = refl; dot_is = refl }

-- closures
in_start : Closure once (Kernel sample 0) (item 1 1)
in_start = of_kernel (Memᴰ.head refl)

in_rule : Closure once (Kernel sample 0) (item 0 1)
in_rule = of_rule {i = item 1 1} {A = 32} {r = 0} token_rule in_start before_32 refl refl

dot_1 : {i : Item} → Closure once (Kernel sample 0) i → i.dot ≡ 1
dot_1 (of_kernel m) = ap (λ (i : Item). i.dot) (Memᴰ.eq_of_singleton m)
dot_1 (of_rule {r = r} ρ c b i l) = ap (λ (τ : Rule). length τ.right) (is_one r ρ i).1

no_before : {i : Item} {X : ℕ} → i.dot ≡ 0 → Before once i X → ⊥
no_before e b = omega (arith, e, b.dot_is)

dot_0 : (r : ℕ) {i : Item} → Closure once (OfList (item r 0 ∷ [])) i → i.dot ≡ 0
dot_0 r (of_kernel m) = ap (λ (i : Item). i.dot) (Memᴰ.eq_of_singleton m)
dot_0 r (of_rule ρ c b i l) = absurd (no_before (dot_0 r c) b)

-- successors
data Goes (X q : ℕ) : Type 0 where
  by_32 : X ≡ 32 → q ≡ 1 → Goes X q
  by_1 : X ≡ 1 → q ≡ 2 → Goes X q

goes : (X q : ℕ) → sample_next 0 X ≡ some q → Goes X q
goes X q e = at_32 (eqb X 32) refl e
  where
    at_1 : (t : Bool) → eqb X 1 ≡ t → cond t (some 2) none ≡ some q → Goes X q
    at_1 true f e = by_1 (eqb-true X 1 f) (cc)
    at_1 false f e = absurd cc

    at_32 : (t : Bool) → eqb X 32 ≡ t → cond t (some 1) (cond (eqb X 1) (some 2) none) ≡ some q → Goes X q
    at_32 true f e = by_32 (eqb-true X 32 f) (cc)
    at_32 false f e = at_1 (eqb X 1) refl e

no_goes : (q X q' : ℕ) → sample_next (suc q) X ≡ some q' → ⊥
no_goes q X q' e = cc

-- FIRST
only_1 : {rs u : List ℕ} → Run once (1 ∷ []) rs u → u ≡ 1 ∷ []
only_1 d = from d refl
  where
    from : {α rs u : List ℕ} → Run once α rs u → α ≡ 1 ∷ [] → u ≡ 1 ∷ []
    from done e = absurd cc
    from (token {a = a} {α = α} {rs = rs} {w = w} t d) e =
        let x : a ≡ 1 = cc in
        let n : α ≡ [] = cc in
        ap₂ (λ (b : ℕ) (v : List ℕ). b ∷ v) x (run_nil once (subst (λ (β : List ℕ). Run once β rs w) n d)).1
    from (rule {A = A} {r = r} ρ i l d) e = let x : A ≡ 1 = cc in absurd (omega (arith, (wf.left_side r ρ i).0, l, x))

only_32 : {rs u : List ℕ} → Run once (32 ∷ []) rs u → u ≡ 1 ∷ []
only_32 d = from d refl
  where
    from : {α rs u : List ℕ} → Run once α rs u → α ≡ 32 ∷ [] → u ≡ 1 ∷ []
    from done e = absurd cc
    from (token {a = a} t d) e = let x : a ≡ 32 = cc in absurd (omega (arith, t.1, x))
    from (rule {r = r} {α = α} {rs = rs} {w = w} ρ i l d) e =
        let n : α ≡ [] = cc in
        only_1 (subst (λ (β : List ℕ). Run once β rs w) (ap₂ (λ (τ : Rule) (β : List ℕ). τ.right ++ β) (is_one r ρ i).1 n) d)

first_is : {X q : ℕ} → Goes X q → (y : List ℕ) → Word sample q y ↔ FirstWith once (X ∷ []) (Word sample 0) y
first_is {X} {q} n y = (
  λ m. (1 ∷ [], 31 ∷ [], (tokens→terminals once (X ∷ []) (1 ∷ []) (run→derived once (from_X n).1), Memᴰ.head refl, word_1 n m)),
  λ (u, w, (d, m, e)).
      let (rs, run) = derived→run once (terminals→tokens once wf (X ∷ []) u (symbol n, tt) d) in
      in_words n (e ∙ ap (λ (v : List ℕ). take 1 (v ++ w)) (only n run)),
)
  where
    symbol : Goes X q → IsSymbol once X
    symbol (by_32 x e) = inr (omega (arith, x), omega (arith, x))
    symbol (by_1 x e) = inl (omega (arith, x), omega (arith, x))

    from_X : Goes X q → (rs : List ℕ) × Run once (X ∷ []) rs (1 ∷ [])
    from_X (by_32 x e) = (0 ∷ [], rule token_rule refl (sym x) (token (omega arith, omega arith) done))
    from_X (by_1 x e) = ([], subst (λ (z : ℕ). Run once (z ∷ []) [] (1 ∷ [])) (sym x) (token (omega arith, omega arith) done))

    only : Goes X q → {rs u : List ℕ} → Run once (X ∷ []) rs u → u ≡ 1 ∷ []
    only (by_32 x e) {rs} {u} d = only_32 (subst (λ (z : ℕ). Run once (z ∷ []) rs u) x d)
    only (by_1 x e) {rs} {u} d = only_1 (subst (λ (z : ℕ). Run once (z ∷ []) rs u) x d)

    word_1 : Goes X q → Word sample q y → y ≡ 1 ∷ []
    word_1 (by_32 x e) m = Memᴰ.eq_of_singleton (subst (λ (z : ℕ). Word sample z y) e m)
    word_1 (by_1 x e) m = Memᴰ.eq_of_singleton (subst (λ (z : ℕ). Word sample z y) e m)

    in_words : Goes X q → y ≡ 1 ∷ [] → Word sample q y
    in_words (by_32 x e) f = subst (λ (z : ℕ). Word sample z y) (sym e) (Memᴰ.head f)
    in_words (by_1 x e) f = subst (λ (z : ℕ). Word sample z y) (sym e) (Memᴰ.head f)

next_kernel_is : {X q : ℕ} → Goes X q → (i : Item) → Kernel sample q i ↔ NextKernel once (Kernel sample 0) X i
next_kernel_is {X} {q} (by_32 x e) i = (
  λ m.
      let f : i ≡ item 1 0 = Memᴰ.eq_of_singleton (subst (λ (z : ℕ). Kernel sample z i) e m) in
      subst (λ (j : Item). NextKernel once (Kernel sample 0) X j) (sym f) (in_start, subst (Before once (item 1 1)) (sym x) before_32),
  λ (c, b). subst (λ (z : ℕ). Kernel sample z i) (sym e) (Memᴰ.head (from (which (raised i) X b))),
)
  where
    from : Which (raised i) X → i ≡ item 1 0
    from (behind_1 f y) = absurd (omega (arith, x, y))
    from (behind_32 f y) = same_item i (ap (λ (j : Item). j.rule) f) (omega (arith, ap (λ (j : Item). j.dot) f))
    from (behind_31 f y) = absurd (omega (arith, x, y))
next_kernel_is {X} {q} (by_1 x e) i = (
  λ m.
      let f : i ≡ item 0 0 = Memᴰ.eq_of_singleton (subst (λ (z : ℕ). Kernel sample z i) e m) in
      subst (λ (j : Item). NextKernel once (Kernel sample 0) X j) (sym f) (in_rule, subst (Before once (item 0 1)) (sym x) before_1),
  λ (c, b). subst (λ (z : ℕ). Kernel sample z i) (sym e) (Memᴰ.head (from (which (raised i) X b))),
)
  where
    from : Which (raised i) X → i ≡ item 0 0
    from (behind_1 f y) = same_item i (ap (λ (j : Item). j.rule) f) (omega (arith, ap (λ (j : Item). j.dot) f))
    from (behind_32 f y) = absurd (omega (arith, x, y))
    from (behind_31 f y) = absurd (omega (arith, x, y))

-- the states
below_3 : {X q : ℕ} → Goes X q → q < 3
below_3 (by_32 x e) = omega (arith, e)
below_3 (by_1 x e) = omega (arith, e)

defined_0 : SuccessorsAsDefined once sample 0
defined_0 =
    record {
      symbols = λ X. (λ (q, e). has (goes X q e), λ (i, (c, b)). succ (dot_1 c) (which i X b));
      within = λ X q e. below_3 (goes X q e);
      kernel = λ X q e. next_kernel_is (goes X q e);
      words = λ X q e. first_is (goes X q e);
    }
  where
    has : {X q : ℕ} → Goes X q → HasNext once (Kernel sample 0) X
    has (by_32 x e) = (item 1 1, (in_start, subst (Before once (item 1 1)) (sym x) before_32))
    has (by_1 x e) = (item 0 1, (in_rule, subst (Before once (item 0 1)) (sym x) before_1))

    succ : {i : Item} {X : ℕ} → i.dot ≡ 1 → Which i X → HasSuccessor sample 0 X
    succ d (behind_1 f x) = (2, ap (sample_next 0) x)
    succ d (behind_32 f x) = (1, ap (sample_next 0) x)
    succ d (behind_31 f x) = absurd (omega (arith, d, ap (λ (j : Item). j.dot) f))

-- a state with its dot at the front has no successor
defined_low : (q r : ℕ) → sample.kernel (suc q) ≡ item r 0 ∷ [] → SuccessorsAsDefined once sample (suc q)
defined_low q r k =
    record {
      symbols = λ X. (
        λ (q', e). absurd (no_goes q X q' e),
        λ (i, (c, b)). absurd (no_before (dot_0 r (subst (λ (l : List Item). Closure once (OfList l) i) k c)) b),
      );
      within = λ X q' e. absurd (no_goes q X q' e);
      kernel = λ X q' e. absurd (no_goes q X q' e);
      words = λ X q' e. absurd (no_goes q X q' e);
    }

defined : (q : ℕ) → q < 3 → StateAsDefined once sample q
defined zero h = (λ z. record { kernel = λ i. (Memᴰ.eq_of_singleton, Memᴰ.head); words = λ y. (Memᴰ.eq_of_singleton, Memᴰ.head) }, defined_0)
defined (suc zero) h = (λ z. absurd (omega (arith, z)), defined_low 0 1 refl)
defined (suc (suc q)) h = (λ z. absurd (omega (arith, z)), defined_low (suc q) 0 refl)

-- no two kernels share an item
distinct : (m q : ℕ) → m < q → q < 3 → EqualStates sample m q → ⊥
distinct zero zero l h s = omega (arith, l)
distinct zero (suc zero) l h s = omega (arith, ap (λ (i : Item). i.dot) (Memᴰ.eq_of_singleton ((s.0 (item 1 1)).0 (Memᴰ.head refl))))
distinct zero (suc (suc q)) l h s = omega (arith, ap (λ (i : Item). i.dot) (Memᴰ.eq_of_singleton ((s.0 (item 1 1)).0 (Memᴰ.head refl))))
distinct (suc m) zero l h s = omega (arith, l)
distinct (suc zero) (suc zero) l h s = omega (arith, l)
distinct (suc zero) (suc (suc q)) l h s = omega (arith, ap (λ (i : Item). i.rule) (Memᴰ.eq_of_singleton ((s.0 (item 1 0)).0 (Memᴰ.head refl))))
distinct (suc (suc m)) (suc q) l h s = omega (arith, l, h)

found : (q : ℕ) → 0 < q → q < 3 → Found sample q
found zero p h = absurd (omega (arith, p))
found (suc zero) p h = (0, 32, (omega arith, refl))
found (suc (suc zero)) p h = (0, 1, (omega arith, refl))
found (suc (suc (suc q))) p h = absurd (omega (arith, h))

-- the one choice
record Chosen (q A : ℕ) (y : List ℕ) (r : ℕ) : Type 0 where
  state_is : q ≡ 0
  left_is : A ≡ 32
  word_is : y ≡ 1 ∷ []
  rule_is : r ≡ 0

fits_chosen : (q A : ℕ) (y : List ℕ) (r : ℕ) → Fits once sample q A y r → Chosen q A y r
fits_chosen (suc q) A y r f = absurd (no_goes q A f.has_next.0 f.has_next.1)
fits_chosen zero A y r f =
    let (n, e) = is_one r f.rule f.is_rule in
    let (p, z, g) = subst (λ (τ : Rule). After sample 0 τ.right f.state) e f.after_is in
    record {
      state_is = refl;
      left_is = sym f.left_is ∙ ap (λ (τ : Rule). τ.left) e;
      word_is = word (goes 1 f.state (ap (λ (x : ℕ). sample_next x 1) z ∙ g)) f.word;
      rule_is = n;
    }
  where
    word : {q : ℕ} → Goes 1 q → Word sample q y → y ≡ 1 ∷ []
    word (by_32 x e) m = absurd (omega (arith, x))
    word (by_1 x e) m = Memᴰ.eq_of_singleton (subst (λ (z : ℕ). Word sample z y) e m)

chosen_fits : (q A : ℕ) (y : List ℕ) (r : ℕ) → Chosen q A y r → Fits once sample q A y r
chosen_fits q A y r c =
    record {
      nonterminal = (omega (arith, c.left_is), omega (arith, c.left_is));
      has_next = (1, ap₂ sample_next c.state_is c.left_is);
      rule = token_rule;
      is_rule = ap (rule_at (token_rule ∷ [])) c.rule_is;
      left_is = sym c.left_is;
      state = 2;
      after_is = (q, refl, ap (λ (z : ℕ). sample_next z 1) c.state_is);
      word = Memᴰ.head c.word_is;
    }

choice_chosen : (q A : ℕ) (y : List ℕ) (r : ℕ) → sample_choice q A y ≡ some r → Chosen q A y r
choice_chosen zero A [] r e = absurd cc
choice_chosen zero A (a ∷ b ∷ y) r e = absurd cc
choice_chosen (suc q) A y r e = absurd cc
choice_chosen zero A (a ∷ []) r e = by (eqb A 32) (eqb a 1) refl refl e
  where
    by : (t u : Bool) → eqb A 32 ≡ t → eqb a 1 ≡ u → cond t (cond u (some 0) none) none ≡ some r → Chosen 0 A (a ∷ []) r
    by true true f h e = record { state_is = refl; left_is = eqb-true A 32 f; word_is = ap (λ (x : ℕ). x ∷ []) (eqb-true a 1 h); rule_is = cc }
    by true false f h e = absurd cc
    by false u f h e = absurd cc

chosen_choice : (q A : ℕ) (y : List ℕ) (r : ℕ) → Chosen q A y r → sample_choice q A y ≡ some r
chosen_choice q A y r c =
    rw (c.state_is, c.left_is, c.word_is, c.rule_is) refl

pub sample_is_accepted : SampleIsAccepted
sample_is_accepted = (
  once_sound,
  record {
    collection = record { some_state = omega arith; defined = defined; distinct = λ q h (m, (l, e)). distinct m q l h e; found = λ q h (p, n). n (found q p h) };
    one_fits = λ q h t.
        let one = fits_chosen q t.nonterminal t.word t.one t.one_fits in
        let other = fits_chosen q t.nonterminal t.word t.other t.other_fits in
        t.differ (one.rule_is ∙ sym other.rule_is);
    choices = λ q h A y r. (λ e. chosen_fits q A y r (choice_chosen q A y r e), λ f. chosen_choice q A y r (fits_chosen q A y r f));
  },
)
