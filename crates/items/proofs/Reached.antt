-- The reachable nonterminals are those linked to the start symbol by the right sides of rules.
use Rattle.std.proofs.Common.{◌≡◌, ℕ, ◌+◌, ◌*◌, ◌/◌, ◌%◌, ◌<◌, ◌≤◌, ◌⊎◌, List, [], ◌∷◌, ◌++◌, length, get_or, Some, None, Decides, Option, sym, refl, ap, ◌∙◌, subst, ap₂, inl, inr, arith, length-append}
use mathlib.Core.Option.{some}
use lib.ListN.{length-map}
use Rattle.std.proofs.lemmas.Bool.{cases_lt, cond-true, cond-false, lt-ltb, le-ltb}
use denote.Ref.{Bor}
use Rattle.std.specs.Option.{MatchOption}
use Rattle.std.specs.Slice.{IsItemAt}
use Rattle.std.specs.List.{slice_get}
use Rattle.std.proofs.lemmas.Option.{slice_get_cases}
use Rattle.grammar.specs.Grammar as grammar
use Rattle.grammar.specs.Grammar.{Grammar, rule_at, IsRule, IsNonterminal}
use Rattle.grammar.specs.Sound.{Reachable, Occurs, start, inside}
use Rattle.grammar.proofs.Reachable.{reachable_is_found}
use Rattle.solver.specs.declared.rule.Rule.{Rule}
use Rattle.solver.specs.declared.yes.Yes.{Yes}
use Rattle.solver.specs.Solution.{rule_of, rules_of, LeastOf}
use Rattle.solver.specs.YesKind.{yes_kind}
use Rattle.items.specs.Symbols.{entry_at}
use Rattle.items.specs.Links.{Linked, seed, link}
use Rattle.items.specs.Closures.{no_link, link_to}
use Rattle.items.specs.Reaching.{symbol_link, symbol_link_at, reach_at}
use Rattle.items.specs.Actives.{RulesOf, mark}
use Rattle.items.proofs.Linking.{Short, marks_told}
use Rattle.items.proofs.RightSides.{each_made, told, looked_up, missed, rule_there, rule_found}
use Rattle.items.proofs.Befores.{entry→cut, cut→entry}

-- the link of a symbol of a rule, by its number
pub symbol_link_told : (i : ℕ) (ρs : List Rule) (r : ℕ) (o : Option (Bor Rule)) (τ : grammar.Rule) → IsItemAt ρs r o
    → MatchOption o (τ ≡ no_link) (λ x. τ ≡ symbol_link x.now i) → τ ≡ symbol_link_at ρs r i
symbol_link_told i = told (λ ρs r. symbol_link_at ρs r i) (λ ρ. symbol_link ρ i) no_link (λ _. refl) (λ _ _. refl) (λ _ _ _. refl)

symbol_link_there : (i : ℕ) (ρs : List Rule) (r : ℕ) (ρ : Rule) → slice_get ρs r ≡ Some ρ → symbol_link ρ i ≡ symbol_link_at ρs r i
symbol_link_there i = looked_up (λ ρs r. symbol_link_at ρs r i) (λ ρ. symbol_link ρ i) no_link (λ _. refl) (λ _ _. refl) (λ _ _ _. refl)

symbol_link_beyond : (i : ℕ) (ρs : List Rule) (r : ℕ) → length ρs ≤ r → no_link ≡ symbol_link_at ρs r i
symbol_link_beyond i = missed (λ ρs r. symbol_link_at ρs r i) (λ ρ. symbol_link ρ i) no_link (λ _. refl) (λ _ _. refl) (λ _ _ _. refl)

module _ (ρs : List Rule) where
  -- what a rule of the links is
  pub data KindOf (ρ : grammar.Rule) : Type 0 where
    empty : ρ.left ≡ 0 → ρ.right ≡ [] → KindOf ρ
    seeded : ρ.left ≡ 32 → ρ.right ≡ [] → KindOf ρ
    linked : (r i X : ℕ) (τ : grammar.Rule) → rule_at (rules_of ρs) r ≡ some τ → entry_at τ.right i ≡ Some X → ρ.left ≡ X
        → ρ.right ≡ τ.left ∷ [] → KindOf ρ

  link_kind : (r i : ℕ) → KindOf (symbol_link_at ρs r i)
  link_kind r i = by (slice_get_cases ρs r).1
    where
      by_entry : (σ : Rule) → rule_at (rules_of ρs) r ≡ some (rule_of σ) → (o : Option ℕ) → entry_at σ.right.now i ≡ o → KindOf (link_to σ.left o)
      by_entry σ is None e = empty refl refl
      by_entry σ is (Some X) e = linked r i X (rule_of σ) is e refl refl

      by : ((σ : Rule) × (r < length ρs) × (slice_get ρs r ≡ Some σ) × (get_or ρs r σ ≡ σ)) ⊎ ((length ρs ≤ r) × (slice_get ρs r ≡ None)) → KindOf (symbol_link_at ρs r i)
      by (inl (σ, _, e, _)) = subst KindOf (symbol_link_there i ρs r σ e) (by_entry σ (rule_there ρs r σ e) (entry_at σ.right.now i) refl)
      by (inr (h, _)) = subst KindOf (symbol_link_beyond i ρs r h) (empty refl refl)

  kind_of : (j : ℕ) → KindOf (reach_at ρs j)
  kind_of j = by (cases_lt j 360)
    where
      by : (j < 360) ⊎ (360 ≤ j) → KindOf (reach_at ρs j)
      by (inl h) = subst KindOf (sym (cond-true _ _ _ (lt-ltb j 360 h))) (link_kind (j / 6) (j % 6))
      by (inr h) = subst KindOf (sym (cond-false _ _ _ (le-ltb j 360 h))) (seeded refl refl)

  module _ (ls : List Rule) (long : length ls ≡ 361) (each : (j : ℕ) → j < 361 → rule_at (rules_of ls) j ≡ some (reach_at ρs j)) where
    kind_at : (j : ℕ) (ρ : grammar.Rule) → rule_at (rules_of ls) j ≡ some ρ → KindOf ρ
    kind_at = each_made KindOf (reach_at ρs) 361 (rules_of ls) (length-map ls rule_of ∙ long) each kind_of

    seed_there : rule_at (rules_of ls) 360 ≡ some (record { left = 32; right = [] })
    seed_there = each 360 (omega arith)

    link_at_symbol : (r i X : ℕ) (τ : grammar.Rule) → length ρs ≤ 60 → i < 6 → rule_at (rules_of ρs) r ≡ some τ → entry_at τ.right i ≡ Some X
        → rule_at (rules_of ls) (6 * r + i) ≡ some (record { left = X; right = τ.left ∷ [] })
    link_at_symbol r i X τ few small is e =
        let (σ, there, h, f) = rule_found ρs r τ is in
        let j = 6 * r + i in
        let rule_is : j / 6 ≡ r = omega arith in
        let place_is : j % 6 ≡ i = omega arith in
        let right : τ.right ≡ σ.right.now = ap (λ (ρ : grammar.Rule). ρ.right) f in
        each j (omega arith)
        ∙ ap (λ (ρ : grammar.Rule). some ρ)
        (cond-true _ _ _ (lt-ltb j 360 (omega arith))
        ∙ ap₂ (symbol_link_at ρs) rule_is place_is
        ∙ sym (symbol_link_there i ρs r σ there)
        ∙ ap (link_to σ.left) (sym (ap (λ (xs : List ℕ). entry_at xs i) right) ∙ e))
        ∙ ap (λ (A : ℕ). some (record { left = X; right = A ∷ [] })) (sym (ap (λ (ρ : grammar.Rule). ρ.left) f))

    module _ (g : Grammar) (ok : RulesOf g ρs) where
      linked→occurs : (A : ℕ) → 32 ≤ A → Linked (rules_of ls) A → Occurs g A
      linked→occurs A n (seed j ρ i l e) = by (kind_at j ρ i)
        where
          by : KindOf ρ → Occurs g A
          by (empty z f) = absurd (omega (arith, n, z, l))
          by (seeded z f) = start (sym l ∙ z)
          by (linked r k X τ t x l' f) = absurd cc
      linked→occurs A n (link {A = B} j ρ before i l e) = by (λ low. linked→occurs B low before) (kind_at j ρ i)
        where
          by : (32 ≤ B → Occurs g B) → KindOf ρ → Occurs g A
          by so (empty z f) = absurd cc
          by so (seeded z f) = absurd cc
          by so (linked r k X τ t x l' f) =
              let is : IsRule g r τ = ap (λ (τs : List grammar.Rule). rule_at τs r) ok.same ∙ t in
              let left : B ≡ τ.left = ap (λ (xs : List ℕ). get_or xs 0 0) (sym e ∙ f) in
              let low : 32 ≤ B = subst (λ (C : ℕ). 32 ≤ C) (sym left) (ok.well_formed.left_side r τ is).0 in
              let c = entry→cut τ.right k X x in
              inside r τ c.front c.back (so low) is (sym left) (c.whole ∙ ap (λ (Y : ℕ). c.front ++ Y ∷ c.back) (sym l' ∙ l))

      occurs→linked : (A : ℕ) → Occurs g A → Linked (rules_of ls) A
      occurs→linked A (start e) = seed 360 _ seed_there (sym e) refl
      occurs→linked A (inside {A = B} r ρ α β before is l e) =
          let n : length ρ.right ≡ length α + length (A ∷ β) = ap length e ∙ length-append α (A ∷ β) in
          link (6 * r + length α) _ (subst (Linked (rules_of ls)) (sym l) (occurs→linked B before))
          (link_at_symbol r (length α) A ρ ok.few_rules (omega (arith, n, ok.short_sides r ρ is)) (sym (ap (λ (τs : List grammar.Rule). rule_at τs r) ok.same) ∙ is)
          (ap (λ (xs : List ℕ). entry_at xs (length α)) e ∙ cut→entry α A β)) refl refl

      short : (j : ℕ) (ρ : grammar.Rule) → rule_at (rules_of ls) j ≡ some ρ → Short g ρ
      short j ρ is = by (kind_at j ρ is)
        where
          by : KindOf ρ → Short g ρ
          by (empty z f) = inl f
          by (seeded z f) = inl f
          by (linked r k X τ t x l' f) = inr (τ.left, (ok.well_formed.left_side r τ (ap (λ (τs : List grammar.Rule). rule_at τs r) ok.same ∙ t), f))

      pub reach_told : (vs : List Yes) → length vs ≡ 24 → LeastOf yes_kind ls vs → (A : ℕ) → IsNonterminal g A → Decides (mark vs A).0 (Reachable g A)
      reach_told vs many least A n =
          let told = marks_told g ok.few_nonterminals (rules_of ls) short vs many least A n in
          let found = reachable_is_found g A in
          (λ e. found.1 (linked→occurs A n.0 (told.0 e)), λ h. told.1 (occurs→linked A (found.0 h)))
