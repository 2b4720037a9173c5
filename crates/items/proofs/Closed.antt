-- The nonterminals before the dots of a closure are those linked: a seed stands before a dot of the set itself, and each link is a rule that the
-- closure brings in with the dot at its end.
use Rattle.std.proofs.Common.{◌≡◌, ℕ, ◌+◌, ◌-◌, ◌*◌, ◌/◌, ◌%◌, ◌<◌, ◌≤◌, Bool, true, false, cond, ◌&&◌, ltb, ◌⊎◌, List, [], ◌∷◌, ◌++◌, length, get_or, Some, None, Option, sym, refl, ap, ◌∙◌, subst, ap₂, inl, inr, arith, length-append}
use mathlib.Core.Option.{some}
use mathlib.Core.Bool.{Bool-set}
use mathlib.Core.Logic.{∥∥₁_elim, ∥∥₁_map}
use lib.ListN.{length-map}
use Rattle.std.proofs.lemmas.Bool.{true≢false, cases_lt, cond-true, cond-false, lt-ltb, le-ltb, ltb-true, and_parts, and_from}
use denote.Ref.{Bor}
use Rattle.std.specs.Option.{MatchOption}
use Rattle.std.specs.Slice.{IsItemAt}
use Rattle.std.specs.List.{slice_get}
use Rattle.std.proofs.lemmas.Option.{slice_get_cases}
use Rattle.grammar.specs.Grammar as grammar
use Rattle.grammar.specs.Grammar.{Grammar, rule_at, IsRule, IsNonterminal, WellFormed}
use Rattle.grammar.specs.Item.{Item, Before, Closure, of_kernel, of_rule, HasNext}
use Rattle.grammar.proofs.Augmented.{rule_augmented}
use Rattle.solver.specs.declared.rule.Rule.{Rule}
use Rattle.solver.specs.declared.yes.Yes.{Yes}
use Rattle.solver.specs.Solution.{rule_of, rules_of, LeastOf}
use Rattle.solver.specs.YesKind.{yes_kind}
use Rattle.items.specs.declared.places.Places.{Places}
use Rattle.items.specs.Sets.{has}
use Rattle.items.specs.Symbols.{entry_at, right_side}
use Rattle.items.specs.Links.{Linked, seed, link}
use Rattle.items.specs.Closures.{no_link, seed_of, link_to, seed_at, last_link, last_at, link_at}
use Rattle.items.specs.Actives.{In, RulesOf, Active}
use Rattle.items.proofs.Linking.{Short, marks_told}
use Rattle.items.proofs.Grids.{none_beyond}
use Rattle.items.proofs.RightSides.{told, looked_up, missed, rule_there, rule_found, each_made, listed, listed_long, listed_at}
use Rattle.items.proofs.Found.{linked_there}
use Rattle.items.proofs.Befores.{Cut, entry→cut, entry→before, before→entry, before_up, rule_right_is, from_augmented}

-- the items of a set lie within its bounds
pub dot_low : (s : Places) (i : Item) → has s i ≡ true → i.dot < 7
dot_low s i h = ltb-true i.dot 7 (and_parts _ _ h).0

pub rule_low : (s : Places) (i : Item) → has s i ≡ true → i.rule < 61
rule_low s i h = by (cases_lt i.rule 61)
  where
    by : (i.rule < 61) ⊎ (61 ≤ i.rule) → i.rule < 61
    by (inl l) = l
    by (inr l) = absurd (true≢false (sym h ∙ none_beyond s i.rule i.dot l))

-- the link of a rule, by its number
pub last_told : (ρs : List Rule) (r : ℕ) (o : Option (Bor Rule)) (τ : grammar.Rule) → IsItemAt ρs r o → MatchOption o (τ ≡ no_link) (λ x. τ ≡ last_link x.now)
    → τ ≡ last_at ρs r
last_told = told last_at last_link no_link (λ _. refl) (λ _ _. refl) (λ _ _ _. refl)

last_there : (ρs : List Rule) (r : ℕ) (ρ : Rule) → slice_get ρs r ≡ Some ρ → last_link ρ ≡ last_at ρs r
last_there = looked_up last_at last_link no_link (λ _. refl) (λ _ _. refl) (λ _ _ _. refl)

last_beyond : (ρs : List Rule) (r : ℕ) → length ρs ≤ r → no_link ≡ last_at ρs r
last_beyond = missed last_at last_link no_link (λ _. refl) (λ _ _. refl) (λ _ _ _. refl)

module _ (ρs : List Rule) (s : Places) where
  -- what a rule of the links is
  pub data KindOf (ρ : grammar.Rule) : Type 0 where
    empty : ρ.left ≡ 0 → ρ.right ≡ [] → KindOf ρ
    seeded : (r d X : ℕ) → 0 < d → has s (record { rule = r; dot = d }) ≡ true → entry_at (right_side ρs r) (d - 1) ≡ Some X → ρ.left ≡ X → ρ.right ≡ []
        → KindOf ρ
    linked : (r X : ℕ) (τ : grammar.Rule) → rule_at (rules_of ρs) r ≡ some τ → entry_at τ.right (length τ.right - 1) ≡ Some X → ρ.left ≡ X
        → ρ.right ≡ τ.left ∷ [] → KindOf ρ

  seed_kind : (r d : ℕ) → KindOf (seed_at ρs s r d)
  seed_kind r d = by (ltb 0 d && has s (record { rule = r; dot = d })) refl
    where
      at : (t : Bool) → (ltb 0 d && has s (record { rule = r; dot = d })) ≡ t → seed_at ρs s r d ≡ cond t (seed_of (entry_at (right_side ρs r) (d - 1))) no_link
      at t e = ap (λ (b : Bool). cond b (seed_of (entry_at (right_side ρs r) (d - 1))) no_link) e

      by_entry : (o : Option ℕ) → entry_at (right_side ρs r) (d - 1) ≡ o → (0 < d) × (has s (record { rule = r; dot = d }) ≡ true) → KindOf (seed_of o)
      by_entry None e h = empty refl refl
      by_entry (Some X) e (p, h) = seeded r d X p h e refl refl

      by : (t : Bool) → (ltb 0 d && has s (record { rule = r; dot = d })) ≡ t → KindOf (seed_at ρs s r d)
      by true e =
          let (p, h) = and_parts (ltb 0 d) (has s (record { rule = r; dot = d })) e in
          subst KindOf (sym (at true e)) (by_entry (entry_at (right_side ρs r) (d - 1)) refl (ltb-true 0 d p, h))
      by false e = subst KindOf (sym (at false e)) (empty refl refl)

  last_kind : (r : ℕ) → KindOf (last_at ρs r)
  last_kind r = by (slice_get_cases ρs r).1
    where
      by_entry : (σ : Rule) → rule_at (rules_of ρs) r ≡ some (rule_of σ) → (o : Option ℕ) → entry_at σ.right.now (length σ.right.now - 1) ≡ o
          → KindOf (link_to σ.left o)
      by_entry σ i None e = empty refl refl
      by_entry σ i (Some X) e = linked r X (rule_of σ) i e refl refl

      by : ((σ : Rule) × (r < length ρs) × (slice_get ρs r ≡ Some σ) × (get_or ρs r σ ≡ σ)) ⊎ ((length ρs ≤ r) × (slice_get ρs r ≡ None)) → KindOf (last_at ρs r)
      by (inl (σ, _, e, _)) = subst KindOf (last_there ρs r σ e) (by_entry σ (rule_there ρs r σ e) (entry_at σ.right.now (length σ.right.now - 1)) refl)
      by (inr (h, _)) = subst KindOf (last_beyond ρs r h) (empty refl refl)

  kind_of : (j : ℕ) → KindOf (link_at ρs s j)
  kind_of j = by (cases_lt j 427)
    where
      by : (j < 427) ⊎ (427 ≤ j) → KindOf (link_at ρs s j)
      by (inl h) = subst KindOf (sym (cond-true _ _ _ (lt-ltb j 427 h))) (seed_kind (j / 7) (j % 7))
      by (inr h) = subst KindOf (sym (cond-false _ _ _ (le-ltb j 427 h))) (last_kind (j - 427))

  module _ (τs : List grammar.Rule) (long : length τs ≡ 487) (each : (j : ℕ) → j < 487 → rule_at τs j ≡ some (link_at ρs s j)) where
    kind_at : (j : ℕ) (ρ : grammar.Rule) → rule_at τs j ≡ some ρ → KindOf ρ
    kind_at = each_made KindOf (link_at ρs s) 487 τs long each kind_of

    -- a place of the set is a seed
    seed_there : (r d X : ℕ) → r < 61 → d < 7 → 0 < d → has s (record { rule = r; dot = d }) ≡ true → entry_at (right_side ρs r) (d - 1) ≡ Some X
        → rule_at τs (7 * r + d) ≡ some (record { left = X; right = [] })
    seed_there r d X hr hd p h e =
        let j = 7 * r + d in
        let rule_is : j / 7 ≡ r = omega arith in
        let dot_is : j % 7 ≡ d = omega arith in
        each j (omega arith)
        ∙ ap (λ (τ : grammar.Rule). some τ)
        (cond-true _ _ _ (lt-ltb j 427 (omega arith))
        ∙ ap₂ (seed_at ρs s) rule_is dot_is
        ∙ cond-true _ _ _ (and_from (ltb 0 d) _ (lt-ltb 0 d p) h)
        ∙ ap seed_of e)

    -- and a rule is a link from its left side to its last symbol
    link_at_rule : (r X : ℕ) (τ : grammar.Rule) → length ρs ≤ 60 → rule_at (rules_of ρs) r ≡ some τ → entry_at τ.right (length τ.right - 1) ≡ Some X
        → rule_at τs (427 + r) ≡ some (record { left = X; right = τ.left ∷ [] })
    link_at_rule r X τ few i e =
        let (σ, there, h, f) = rule_found ρs r τ i in
        let j = 427 + r in
        let rule_is : j - 427 ≡ r = omega arith in
        let right : τ.right ≡ σ.right.now = ap (λ (ρ : grammar.Rule). ρ.right) f in
        each j (omega arith)
        ∙ ap (λ (ρ : grammar.Rule). some ρ)
        (cond-false _ _ _ (le-ltb j 427 (omega arith))
        ∙ ap (last_at ρs) rule_is
        ∙ sym (last_there ρs r σ there)
        ∙ ap (link_to σ.left) (sym (ap (λ (xs : List ℕ). entry_at xs (length xs - 1)) right) ∙ e))
        ∙ ap (λ (A : ℕ). some (record { left = X; right = A ∷ [] })) (sym (ap (λ (ρ : grammar.Rule). ρ.left) f))

    module _ (g : Grammar) (ok : RulesOf g ρs) where
      linked→next : (A : ℕ) → 32 ≤ A → Linked τs A → HasNext g (In s) A
      linked→next A n (seed j ρ i l e) = by (kind_at j ρ i)
        where
          by : KindOf ρ → HasNext g (In s) A
          by (empty z f) = absurd (omega (arith, n, z, l))
          by (seeded r d X p h x l' f) =
              let dot_is : d - 1 + 1 ≡ d = omega arith in
              let i : Item = record { rule = r; dot = d } in
              let b : Before g i X = subst (λ (m : ℕ). Before g (record { rule = r; dot = m }) X) dot_is (entry→before g ρs ok.same r (d - 1) X x) in
              (i, (of_kernel h, subst (Before g i) (sym l' ∙ l) b))
          by (linked r X τ t x l' f) = absurd cc
      linked→next A n (link {A = B} j ρ before i l e) = by (λ low. linked→next B low before) (kind_at j ρ i)
        where
          by : (32 ≤ B → HasNext g (In s) B) → KindOf ρ → HasNext g (In s) A
          by so (empty z f) = absurd cc
          by so (seeded r d X p h x l' f) = absurd cc
          by so (linked r X τ t x l' f) =
              let is : IsRule g r τ = ap (λ (τs : List grammar.Rule). rule_at τs r) ok.same ∙ t in
              let left : B ≡ τ.left = ap (λ (xs : List ℕ). get_or xs 0 0) (sym e ∙ f) in
              let low : 32 ≤ B = subst (λ (C : ℕ). 32 ≤ C) (sym left) (ok.well_formed.left_side r τ is).0 in
              let (i₀, (c, b)) = so low in
              let cut = entry→cut τ.right (length τ.right - 1) X x in
              let some_symbol : 0 < length τ.right = cut_long τ.right X cut in
              let i₁ : Item = record { rule = r; dot = length τ.right } in
              (i₁, (of_rule τ c b is (sym left), subst (Before g i₁) (sym l' ∙ l) (at_end r τ X is x some_symbol)))
            where
              cut_long : (xs : List ℕ) (X : ℕ) → Cut xs (length xs - 1) X → 0 < length xs
              cut_long xs X c = let w : length xs ≡ length (c.front ++ X ∷ c.back) = ap length c.whole in let n = length-append c.front (X ∷ c.back) in omega arith

              at_end : (r : ℕ) (τ : grammar.Rule) (X : ℕ) → IsRule g r τ → entry_at τ.right (length τ.right - 1) ≡ Some X → 0 < length τ.right
                  → Before g (record { rule = r; dot = length τ.right }) X
              at_end r τ X is x some_symbol =
                  let c = entry→cut τ.right (length τ.right - 1) X x in
                  record { rule = τ; is_rule = rule_augmented g r τ is; front = c.front; back = c.back; right_is = c.whole; dot_is = omega (arith, c.long, some_symbol) }

      -- a rule with the dot at its end has its last symbol before it
      last_entry : (r : ℕ) (ρ : grammar.Rule) {A : ℕ} → IsRule g r ρ → Before g (record { rule = r; dot = length ρ.right }) A
          → entry_at ρ.right (length ρ.right - 1) ≡ Some A
      last_entry r ρ {A} is b =
          sym (ap (λ (xs : List ℕ). entry_at xs (length ρ.right - 1)) (rule_right_is ρs r ρ (from_augmented g ρs ok.same r ρ (rule_augmented g r ρ is))))
          ∙ before→entry g ρs ok.same (record { rule = r; dot = length ρ.right }) A b

      next→linked : (i : Item) (A : ℕ) → Closure g (In s) i → Before g i A → Linked τs A
      next→linked i A (of_kernel h) b = seed (7 * i.rule + i.dot) _ (seed_there i.rule i.dot A (rule_low s i h) (dot_low s i h) (before_up g ρs ok.same i A b) h (before→entry g ρs ok.same i A b)) refl refl
      next→linked _ A (of_rule {A = B} {r = r} ρ c b' is l) b =
          link (427 + r) _ (subst (Linked τs) (sym l) (next→linked _ B c b'))
          (link_at_rule r A ρ ok.few_rules (sym (ap (λ (τs : List grammar.Rule). rule_at τs r) ok.same) ∙ is) (last_entry r ρ is b)) refl refl

      next_told : (A : ℕ) → IsNonterminal g A → (Linked τs A → HasNext g (In s) A) × (HasNext g (In s) A → Linked τs A)
      next_told A n = (linked→next A n.0, λ (i, (c, b)). next→linked i A c b)

      short : (j : ℕ) (ρ : grammar.Rule) → rule_at τs j ≡ some ρ → Short g ρ
      short j ρ is = by (kind_at j ρ is)
        where
          by : KindOf ρ → Short g ρ
          by (empty z f) = inl f
          by (seeded r d X p h x l' f) = inl f
          by (linked r X τ t x l' f) = inr (τ.left, (ok.well_formed.left_side r τ (ap (λ (τs : List grammar.Rule). rule_at τs r) ok.same ∙ t), f))

  -- the least solution along the links
  pub active_told : (ls : List Rule) → length ls ≡ 487 → ((j : ℕ) → j < 487 → rule_at (rules_of ls) j ≡ some (link_at ρs s j))
      → (vs : List Yes) → length vs ≡ 24 → LeastOf yes_kind ls vs → Active ρs s vs
  active_told ls long each vs many least g ok A n =
      let all = length-map ls rule_of ∙ long in
      let told = marks_told g ok.few_nonterminals (rules_of ls) (short (rules_of ls) all each g ok) vs many least A n in
      let next = next_told (rules_of ls) all each g ok A n in
      (λ e. next.0 (told.0 e), λ h. told.1 (next.1 h))

  -- marks that are only known to tell are as good as those that tell
  pub active_there : (vs : List Yes) → ∥ Active ρs s vs ∥₁ → Active ρs s vs
  active_there vs t g ok A n =
      (λ e. next.0 (linked_there links A (∥∥₁_map t (λ active. next.1 ((active g ok A n).0 e)))), λ h. ∥∥₁_elim t (Bool-set _ _) (λ active. (active g ok A n).1 h))
    where
      links : List grammar.Rule
      links = listed (link_at ρs s) 0 487

      next : (Linked links A → HasNext g (In s) A) × (HasNext g (In s) A → Linked links A)
      next = next_told (listed (link_at ρs s) 0 487) (listed_long (link_at ρs s) 0 487) (λ j h. listed_at (link_at ρs s) 0 487 j j h (omega arith)) g ok A n
