-- What stands after the dots of a state, and whether a word of it begins with given symbols, can be looked for. So what is hidden of them can be had.
use Rattle.std.proofs.Common.{◌≡◌, ℕ, zero, suc, ◌+◌, List, [], ◌∷◌, ◌++◌, length, sym, refl, ap, ap₂, ◌∙◌, arith}
use mathlib.Core.HLevel.{⊥_prop}
use mathlib.Core.Logic.{∥∥₁_elim}
use mathlib.Core.Option.{Option, none, some}
use native.Mathlib.Decide.{ℕ_discrete}
use Rattle.grammar.specs.Grammar.{Rule, Grammar, rule_at}
use Rattle.grammar.specs.Item.{Item, raised, augmented, Before}
use Rattle.grammar.specs.Table.{Table}
use Rattle.grammar.proofs.Lists.{head_is, tail_is}
use Rattle.grammar.proofs.Search.{dec_listed}
use Rattle.table.specs.LookUps.{AfterDots, BeginsWith, BeginsWord}

pub had : {P : Type 0} → Dec P → ∥ P ∥₁ → P
had (yes p) t = p
had (no f) t = absurd (∥∥₁_elim t ⊥_prop f)

-- X stands in a list behind n others
abbrev Stands : List ℕ → ℕ → ℕ → Type 0
Stands xs n X = (front back : List ℕ) × ((xs ≡ front ++ X ∷ back) × (length front ≡ n))

dec_stands : (xs : List ℕ) (n X : ℕ) → Dec (Stands xs n X)
dec_stands [] n X = no (λ (front, back, (e, l)). nowhere front back e)
  where
    nowhere : (front back : List ℕ) → [] ≡ front ++ X ∷ back → ⊥
    nowhere [] back e = absurd cc
    nowhere (z ∷ front) back e = absurd cc
dec_stands (x ∷ xs) zero X = by (ℕ_discrete x X)
  where
    first : (x ≡ X → ⊥) → (front back : List ℕ) → x ∷ xs ≡ front ++ X ∷ back → length front ≡ 0 → ⊥
    first f [] back e l = f (head_is e)
    first f (z ∷ front) back e l = omega (arith, l)

    by : Dec (x ≡ X) → Dec (Stands (x ∷ xs) zero X)
    by (yes e) = yes ([], xs, (ap (λ (z : ℕ). z ∷ xs) e, refl))
    by (no f) = no (λ (front, back, (e, l)). first f front back e l)
dec_stands (x ∷ xs) (suc n) X = by (dec_stands xs n X)
  where
    behind : (Stands xs n X → ⊥) → (front back : List ℕ) → x ∷ xs ≡ front ++ X ∷ back → length front ≡ suc n → ⊥
    behind f [] back e l = omega (arith, l)
    behind f (z ∷ front) back e l = f (front, back, (tail_is e, omega (arith, l)))

    by : Dec (Stands xs n X) → Dec (Stands (x ∷ xs) (suc n) X)
    by (yes (front, back, (e, l))) = yes (x ∷ front, back, (ap (λ (z : List ℕ). x ∷ z) e, ap suc l))
    by (no f) = no (λ (front, back, (e, l)). behind f front back e l)

dec_before : (g : Grammar) (i : Item) (X : ℕ) → Dec (Before g (raised i) X)
dec_before g i X = by (rule_at (augmented g).rules i.rule) refl
  where
    by_place : (ρ : Rule) → rule_at (augmented g).rules i.rule ≡ some ρ → Dec (Stands ρ.right i.dot X) → Dec (Before g (raised i) X)
    by_place ρ e (yes (front, back, (r, l))) =
        yes (record { rule = ρ; is_rule = e; front = front; back = back; right_is = r; dot_is = ap (λ (n : ℕ). n + 1) (sym l) })
    by_place ρ e (no f) =
        no (λ b.
        let found : some b.rule ≡ some ρ = sym b.is_rule ∙ e in
        let same : b.rule ≡ ρ = cc in
        f (b.front, b.back, (ap (λ (τ : Rule). τ.right) (sym same) ∙ b.right_is, omega (arith, b.dot_is))))

    by : (o : Option Rule) → rule_at (augmented g).rules i.rule ≡ o → Dec (Before g (raised i) X)
    by none e = no (λ b. let never : none ≡ some b.rule = sym e ∙ b.is_rule in absurd cc)
    by (some ρ) e = by_place ρ e (dec_stands ρ.right i.dot X)

pub dec_dots : (g : Grammar) (T : Table) (q X : ℕ) → Dec (AfterDots g T q X)
dec_dots g T q X = dec_listed (λ i. Before g (raised i) X) (T.kernel q) (λ i m. dec_before g i X)

dec_begins : (y w : List ℕ) → Dec (BeginsWith y w)
dec_begins y [] = yes (record { rest = y; splits = refl })
dec_begins [] (a ∷ w) = no (λ b. let e : [] ≡ a ∷ (w ++ b.rest) = b.splits in absurd cc)
dec_begins (x ∷ y) (a ∷ w) = by (ℕ_discrete x a) (dec_begins y w)
  where
    by : Dec (x ≡ a) → Dec (BeginsWith y w) → Dec (BeginsWith (x ∷ y) (a ∷ w))
    by (yes e) (yes b) = yes (record { rest = b.rest; splits = ap₂ (λ (u : ℕ) (v : List ℕ). u ∷ v) e b.splits })
    by (yes e) (no f) = no (λ b. f (record { rest = b.rest; splits = tail_is b.splits }))
    by (no f) r = no (λ b. f (head_is b.splits))

pub dec_word : (T : Table) (q : ℕ) (w : List ℕ) → Dec (BeginsWord T q w)
dec_word T q w = dec_listed (λ y. BeginsWith y w) (T.words q) (λ y m. dec_begins y w)
