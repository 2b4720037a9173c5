-- Closures by rounds: to the items so far come the rules of each nonterminal before a dot. All of them are in the closure; and where a
-- round brings nothing new, nothing else is.
use Rattle.std.proofs.Common.{◌≡◌, ℕ, zero, suc, ◌+◌, Bool, true, ◌&&◌, eqb, ◌⊎◌, List, [], ◌∷◌, ◌++◌, length, Some, None, Option, sym, refl, ap, ◌∙◌, subst, ap₂, inl, inr, ⊎_elim, arith}
use mathlib.Core.List.Memᴰ
use mathlib.Core.List.{Memᴰ}
use mathlib.Core.Option as math
use Rattle.std.proofs.lemmas.Bool.{and_parts, eqb-true, eq-eqb}
use Rattle.grammar.specs.Grammar.{Rule, Grammar, rule_at}
use Rattle.grammar.specs.Item.{Item, augmented, Before, Closure, of_kernel, of_rule, OfList}
use Rattle.items.specs.Entries.{same_item}
use Rattle.items.specs.Symbols.{entry_at}
use Rattle.items.proofs.Befores.{entry→cut, cut→entry}
use Rattle.cases.proofs.Searches.{every, every_at, items_told, within, within_at, put_all, put_all_from, bind, bind_from, where_true, where_in, where_from}

-- The symbol just before a dot, in a rule that there is.
abbrev pub symbol_before : ℕ → math.Option Rule → Option ℕ
symbol_before d math.none = None
symbol_before zero (math.some ρ) = None
symbol_before (suc d) (math.some ρ) = entry_at ρ.right d

-- The symbol just before the dot of an item.
abbrev pub before_dot : Grammar → Item → Option ℕ
before_dot g i = symbol_before i.dot (rule_at (augmented g).rules i.rule)

pub before_told : (g : Grammar) (i : Item) (X : ℕ) → Before g i X → before_dot g i ≡ Some X
before_told g i X b =
    let d : i.dot ≡ suc (length b.front) = omega (arith, b.dot_is) in
    ap₂ symbol_before d b.is_rule ∙ ap (λ (xs : List ℕ). entry_at xs (length b.front)) b.right_is ∙ cut→entry b.front X b.back

pub told_before : (g : Grammar) (i : Item) (X : ℕ) → before_dot g i ≡ Some X → Before g i X
told_before g i X e = by i.dot (rule_at (augmented g).rules i.rule) refl refl e
  where
    by : (d : ℕ) (o : math.Option Rule) → i.dot ≡ d → rule_at (augmented g).rules i.rule ≡ o → symbol_before d o ≡ Some X → Before g i X
    by d math.none f h e = absurd cc
    by zero (math.some ρ) f h e = absurd cc
    by (suc d) (math.some ρ) f h e =
        let c = entry→cut ρ.right d X e in
        record { rule = ρ; is_rule = h; front = c.front; back = c.back; right_is = c.whole; dot_is = omega (arith, f, c.long) }

-- An item by its numbers.
abbrev pub item : ℕ → ℕ → Item
item r d = record { rule = r; dot = d }

-- The rules of A with their dots at the end, numbered from m on.
abbrev pub ends : ℕ → ℕ → List Rule → List Item
ends A m [] = []
ends A m (ρ ∷ ρs) = where_true (eqb ρ.left A) (item m (length ρ.right) ∷ []) ++ ends A (suc m) ρs

-- An item is such a rule.
pub record Ended (A m : ℕ) (ρs : List Rule) (i : Item) : Type 0 where
  pub number : ℕ
  pub rule : Rule
  pub is_rule : rule_at ρs number ≡ math.some rule
  pub left_is : rule.left ≡ A
  pub item_is : i ≡ item (m + number) (length rule.right)

ends_has : (A m : ℕ) (ρs : List Rule) (r : ℕ) (ρ : Rule) → rule_at ρs r ≡ math.some ρ → ρ.left ≡ A
    → Memᴰ (item (m + r) (length ρ.right)) (ends A m ρs)
ends_has A m [] r ρ e l = absurd cc
ends_has A m (σ ∷ ρs) zero ρ e l =
    let s : ρ ≡ σ = cc in
    let n : m + 0 ≡ m = omega arith in
    Memᴰ.append_left (ends A (suc m) ρs)
    (where_in (eqb σ.left A) (item m (length σ.right) ∷ []) (item (m + 0) (length ρ.right))
    (eq-eqb σ.left A (ap (λ (τ : Rule). τ.left) (sym s) ∙ l)) (Memᴰ.head (ap₂ item n (ap (λ (τ : Rule). length τ.right) s))))
ends_has A m (σ ∷ ρs) (suc r) ρ e l =
    let n : suc m + r ≡ m + suc r = omega arith in
    Memᴰ.append_right (where_true (eqb σ.left A) (item m (length σ.right) ∷ []))
    (subst (λ (x : ℕ). Memᴰ (item x (length ρ.right)) (ends A (suc m) ρs)) n (ends_has A (suc m) ρs r ρ e l))

ends_from : (A m : ℕ) (ρs : List Rule) (i : Item) → Memᴰ i (ends A m ρs) → Ended A m ρs i
ends_from A m [] i h = absurd (Memᴰ.not-nil h)
ends_from A m (σ ∷ ρs) i h = by (Memᴰ.append_cases (where_true (eqb σ.left A) (item m (length σ.right) ∷ [])) h) (λ n. ends_from A (suc m) ρs i n)
  where
    first : (eqb σ.left A ≡ true) × Memᴰ i (item m (length σ.right) ∷ []) → Ended A m (σ ∷ ρs) i
    first (t, n) =
        let z : m ≡ m + 0 = omega arith in
        let s : i ≡ item m (length σ.right) = ⊎_elim (λ e. e) (λ n'. absurd (Memᴰ.not-nil n')) (Memᴰ.cases_cons n) in
        record { number = 0; rule = σ; is_rule = refl; left_is = eqb-true σ.left A t; item_is = s ∙ ap (λ (x : ℕ). item x (length σ.right)) z }

    by : Memᴰ i (where_true (eqb σ.left A) (item m (length σ.right) ∷ [])) ⊎ Memᴰ i (ends A (suc m) ρs)
        → (Memᴰ i (ends A (suc m) ρs) → Ended A (suc m) ρs i) → Ended A m (σ ∷ ρs) i
    by (inl n) so = first (where_from (eqb σ.left A) (item m (length σ.right) ∷ []) i n)
    by (inr n) so =
        let r = so n in
        let z : suc m + r.number ≡ m + suc r.number = omega arith in
        record {
          number = suc r.number;
          rule = r.rule;
          is_rule = r.is_rule;
          left_is = r.left_is;
          item_is = r.item_is ∙ ap (λ (x : ℕ). item x (length r.rule.right)) z;
        }

-- What a symbol before a dot brings in.
abbrev pub brought : Grammar → Option ℕ → List Item
brought g None = []
brought g (Some A) = ends A 0 g.rules

-- One more round.
abbrev pub grown : Grammar → List Item → List Item
grown g C = put_all same_item (bind (λ i. brought g (before_dot g i)) C) C

-- So many rounds.
abbrev pub closed : Grammar → List Item → ℕ → List Item
closed g K zero = K
closed g K (suc n) = grown g (closed g K n)

-- As many rounds as there are rules.
abbrev pub closure_of : Grammar → List Item → List Item
closure_of g K = closed g K (length g.rules)

-- Nothing new comes in.
abbrev pub is_closed : Grammar → List Item → List Item → Bool
is_closed g K C = within same_item K C && every (λ i. within same_item (brought g (before_dot g i)) C) C

pub closed_in : (g : Grammar) (K : List Item) (n : ℕ) (i : Item) → Memᴰ i (closed g K n) → Closure g (OfList K) i
closed_in g K zero i m = of_kernel m
closed_in g K (suc n) i m =
    by (put_all_from same_item (bind (λ i. brought g (before_dot g i)) (closed g K n)) (closed g K n) i m) (λ j p. closed_in g K n j p)
  where
    came : (j : Item) → Closure g (OfList K) j → (o : Option ℕ) → before_dot g j ≡ o → Memᴰ i (brought g o) → Closure g (OfList K) i
    came j c None e p = absurd (Memᴰ.not-nil p)
    came j c (Some A) e p =
        let r = ends_from A 0 g.rules i p in
        let z : 0 + r.number ≡ r.number = omega arith in
        subst (Closure g (OfList K)) (sym (r.item_is ∙ ap (λ (x : ℕ). item x (length r.rule.right)) z))
        (of_rule {r = r.number} r.rule c (told_before g j A e) r.is_rule r.left_is)

    by : Memᴰ i (bind (λ i. brought g (before_dot g i)) (closed g K n)) ⊎ Memᴰ i (closed g K n)
        → ((j : Item) → Memᴰ j (closed g K n) → Closure g (OfList K) j) → Closure g (OfList K) i
    by (inr old) so = so i old
    by (inl new) so =
        let (j, (p, q)) = bind_from (λ i. brought g (before_dot g i)) (closed g K n) i new in
        came j (so j p) (before_dot g j) refl q

pub in_closed : (g : Grammar) (K C : List Item) → is_closed g K C ≡ true → (i : Item) → Closure g (OfList K) i → Memᴰ i C
in_closed g K C t i (of_kernel m) = within_at items_told K C (and_parts (within same_item K C) _ t).0 i m
in_closed g K C t _ (of_rule {i = j} {A = A} {r = r} ρ c b is l) =
    let p = in_closed g K C t j c in
    let e = every_at (λ i. within same_item (brought g (before_dot g i)) C) C (and_parts (within same_item K C) _ t).1 j p in
    let e' : within same_item (ends A 0 g.rules) C ≡ true = sym (ap (λ (o : Option ℕ). within same_item (brought g o) C) (before_told g j A b)) ∙ e in
    let z : 0 + r ≡ r = omega arith in
    within_at items_told (ends A 0 g.rules) C e' (item r (length ρ.right))
    (subst (λ (x : ℕ). Memᴰ (item x (length ρ.right)) (ends A 0 g.rules)) z (ends_has A 0 g.rules r ρ is l))
