-- The places of a successor, by the marks: an item is in a closure if it is in the set, or if it is a rule of a marked nonterminal with the dot at
-- its end.
use Rattle.std.proofs.Common.{◌≡◌, ℕ, zero, suc, ◌+◌, ◌-◌, ◌*◌, ◌/◌, ◌%◌, ◌<◌, Bool, true, false, ◌&&◌, eqb, ltb, leb, ◌⊎◌, List, [], ◌∷◌, length, get_or, Some, None, Decides, Option, sym, refl, ap, ◌∙◌, subst, ap₂, inl, inr, arith, length-append}
use mathlib.Core.Option.{some}
use lib.ListN.{length-map}
use Rattle.std.proofs.lemmas.Bool.{true≢false, lt-ltb, le-leb, eq-eqb, eqb-true, and_parts, and_from, or_cases, or_left, or_right}
use denote.Ref.{Bor}
use Rattle.std.specs.Option.{MatchOption}
use Rattle.std.specs.Slice.{IsItemAt}
use Rattle.grammar.specs.Grammar as grammar
use Rattle.grammar.specs.Grammar.{Grammar, rule_at, IsRule, IsNonterminal}
use Rattle.grammar.specs.Item.{Item, raised, Before, Closure, of_kernel, of_rule, HasNext, NextKernel}
use Rattle.solver.specs.declared.rule.Rule.{Rule}
use Rattle.solver.specs.declared.yes.Yes.{Yes}
use Rattle.solver.specs.Solution.{rule_of, rules_of}
use Rattle.items.specs.declared.places.Places.{Places}
use Rattle.items.specs.Sets.{has}
use Rattle.items.specs.Symbols.{entry_at, right_side}
use Rattle.items.specs.Actives.{In, RulesOf, Active}
use Rattle.items.specs.Nexts.{marked, brought_in, in_closure, found, next_has}
use Rattle.items.proofs.Closed.{dot_low, rule_low}
use Rattle.grammar.proofs.Augmented.{WhichRule, which_rule}
use Rattle.items.proofs.RightSides.{told, rule_found}
use Rattle.items.proofs.Befores.{entry→before, before→entry}

-- an item that a closure brings in
pub record Brought (g : Grammar) (K : Item → Type 0) (i : Item) : Type 0 where
  pub rule : grammar.Rule
  pub is_rule : IsRule g i.rule rule
  pub at_end : i.dot ≡ length rule.right
  pub next : HasNext g K rule.left

pub closure_parts : (g : Grammar) (K : Item → Type 0) (i : Item) → Closure g K i → K i ⊎ Brought g K i
closure_parts g K i (of_kernel h) = inl h
closure_parts g K _ (of_rule {i = j} {A = A} ρ c b is l) = inr (record { rule = ρ; is_rule = is; at_end = refl; next = subst (HasNext g K) (sym l) (j, (c, b)) })

pub brought_closure : (g : Grammar) (K : Item → Type 0) (r d : ℕ) → Brought g K (record { rule = r; dot = d }) → Closure g K (record { rule = r; dot = d })
brought_closure g K r d b =
    let (j, (c, e)) = b.next in
    subst (λ (m : ℕ). Closure g K (record { rule = r; dot = m })) (sym b.at_end) (of_rule b.rule c e b.is_rule refl)

pub found_is : (X : ℕ) (o : Option ℕ) → found X o ≡ true → o ≡ Some X
found_is X None e = absurd (true≢false (sym e))
found_is X (Some x) e = ap (λ (y : ℕ). Some y) (eqb-true x X e)

-- what the marks bring in of a rule, by its number
pub brought_told : (vs : List Yes) (d : ℕ) (ρs : List Rule) (r : ℕ) (o : Option (Bor Rule)) (b : Bool) → IsItemAt ρs r o
    → MatchOption o (b ≡ false) (λ x. b ≡ (eqb (length x.now.right.now) d && marked vs x.now.left)) → b ≡ brought_in ρs vs r d
brought_told vs d = told (λ ρs r. brought_in ρs vs r d) (λ ρ. eqb (length ρ.right.now) d && marked vs ρ.left) false (λ _. refl) (λ _ _. refl) (λ _ _ _. refl)

-- the rules that the marks bring in, by numbers
pub record Ends (ρs : List Rule) (vs : List Yes) (r d : ℕ) : Type 0 where
  pub rule : grammar.Rule
  pub is_rule : rule_at (rules_of ρs) r ≡ some rule
  pub at_end : length rule.right ≡ d
  pub is_marked : marked vs rule.left ≡ true

pub brought→ends : (ρs : List Rule) (vs : List Yes) (r d : ℕ) → brought_in ρs vs r d ≡ true → Ends ρs vs r d
brought→ends [] vs r d e = absurd (true≢false (sym e))
brought→ends (ρ ∷ ρs) vs zero d e =
    let (l, m) = and_parts (eqb (length ρ.right.now) d) (marked vs ρ.left) e in
    record { rule = rule_of ρ; is_rule = refl; at_end = eqb-true _ d l; is_marked = m }
brought→ends (ρ ∷ ρs) vs (suc r) d e =
    let b = brought→ends ρs vs r d e in
    record { rule = b.rule; is_rule = b.is_rule; at_end = b.at_end; is_marked = b.is_marked }

pub ends→brought : (ρs : List Rule) (vs : List Yes) (r d : ℕ) → Ends ρs vs r d → brought_in ρs vs r d ≡ true
ends→brought [] vs r d b = let i = b.is_rule in absurd cc
ends→brought (ρ ∷ ρs) vs zero d b =
    let i = b.is_rule in
    let s : b.rule ≡ rule_of ρ = cc in
    and_from (eqb (length ρ.right.now) d) (marked vs ρ.left) (eq-eqb _ d (sym (ap (λ (τ : grammar.Rule). length τ.right) s) ∙ b.at_end))
    (sym (ap (λ (τ : grammar.Rule). marked vs τ.left) s) ∙ b.is_marked)
ends→brought (ρ ∷ ρs) vs (suc r) d b =
    ends→brought ρs vs r d (record { rule = b.rule; is_rule = b.is_rule; at_end = b.at_end; is_marked = b.is_marked })

module _ (ρs : List Rule) (s : Places) (vs : List Yes) (active : Active ρs s vs) (g : Grammar) (ok : RulesOf g ρs) where
  rule_in : (r : ℕ) (τ : grammar.Rule) → rule_at (rules_of ρs) r ≡ some τ → IsRule g r τ
  rule_in r τ e = ap (λ (τs : List grammar.Rule). rule_at τs r) ok.same ∙ e

  rule_out : (r : ℕ) (τ : grammar.Rule) → IsRule g r τ → rule_at (rules_of ρs) r ≡ some τ
  rule_out r τ e = sym (ap (λ (τs : List grammar.Rule). rule_at τs r) ok.same) ∙ e

  closure→in : (r d : ℕ) → in_closure ρs s vs r d ≡ true → Closure g (In s) (record { rule = r; dot = d })
  closure→in r d e = by (or_cases (has s (record { rule = r; dot = d })) (brought_in ρs vs r d) e)
    where
      by : (has s (record { rule = r; dot = d }) ≡ true) ⊎ (brought_in ρs vs r d ≡ true) → Closure g (In s) (record { rule = r; dot = d })
      by (inl h) = of_kernel h
      by (inr h) =
          let b = brought→ends ρs vs r d h in
          let is : IsRule g r b.rule = rule_in r b.rule b.is_rule in
          let n : IsNonterminal g b.rule.left = ok.well_formed.left_side r b.rule is in
          brought_closure g (In s) r d
          (record { rule = b.rule; is_rule = is; at_end = sym b.at_end; next = (active g ok b.rule.left n).0 (and_parts (leb 32 b.rule.left) _ b.is_marked).1 })

  in→closure : (i : Item) → Closure g (In s) i → in_closure ρs s vs i.rule i.dot ≡ true
  in→closure i c = by (closure_parts g (In s) i c)
    where
      by : In s i ⊎ Brought g (In s) i → in_closure ρs s vs i.rule i.dot ≡ true
      by (inl h) = or_left _ _ h
      by (inr b) =
          let n : IsNonterminal g b.rule.left = ok.well_formed.left_side i.rule b.rule b.is_rule in
          or_right (has s i) _ (ends→brought ρs vs i.rule i.dot (record {
            rule = b.rule;
            is_rule = rule_out i.rule b.rule b.is_rule;
            at_end = sym b.at_end;
            is_marked = and_from (leb 32 b.rule.left) _ (le-leb 32 _ n.0) ((active g ok b.rule.left n).1 b.next);
          }))

  next_tells : (X : ℕ) (i : Item) → next_has ρs s vs X i.rule i.dot ≡ true → NextKernel g (In s) X i
  next_tells X i e =
      let (f, c) = and_parts (found X (entry_at (right_side ρs i.rule) i.dot)) (in_closure ρs s vs i.rule (i.dot + 1)) e in
      (closure→in i.rule (i.dot + 1) c, entry→before g ρs ok.same i.rule i.dot X (found_is X _ f))

  next_told : (X : ℕ) (i : Item) → NextKernel g (In s) X i → next_has ρs s vs X i.rule i.dot ≡ true
  next_told X i (c, b) =
      let d : i.dot + 1 - 1 ≡ i.dot = omega arith in
      let e : entry_at (right_side ρs i.rule) i.dot ≡ Some X = sym (ap (entry_at (right_side ρs i.rule)) d) ∙ before→entry g ρs ok.same (raised i) X b in
      and_from (found X (entry_at (right_side ρs i.rule) i.dot)) _ (ap (found X) e ∙ eq-eqb X X refl) (in→closure (raised i) c)

  -- an item that can be raised lies within the bounds of sets
  before_within : (i : Item) (X : ℕ) → Before g (raised i) X → (i.rule < 61) × (i.dot < 7)
  before_within i X b =
      let n : length b.rule.right ≡ length b.front + length (X ∷ b.back) = ap length b.right_is ∙ length-append b.front (X ∷ b.back) in
      by n (which_rule g i.rule b.rule b.is_rule)
    where
      by : length b.rule.right ≡ length b.front + length (X ∷ b.back) → WhichRule g i.rule b.rule → (i.rule < 61) × (i.dot < 7)
      by n (inl is) =
          let (_, _, low, _) = rule_found ρs i.rule b.rule (rule_out i.rule b.rule is) in
          (omega (arith, low, ok.few_rules), omega (arith, n, ok.short_sides i.rule b.rule is, b.dot_is))
      by n (inr (e, f)) =
          let many : length g.rules ≡ length ρs = ap length ok.same ∙ length-map ρs rule_of in
          let two : length b.rule.right ≡ 2 = ap (λ (τ : grammar.Rule). length τ.right) f in
          (omega (arith, e, many, ok.few_rules), omega (arith, n, two, b.dot_is))

  -- the places, each at its number
  pub places_told : (X : ℕ) (s' : Places) → ((j : ℕ) → j < 427 → get_or s'.marks j false ≡ next_has ρs s vs X (j / 7) (j % 7))
      → (i : Item) → Decides (has s' i) (NextKernel g (In s) X i)
  places_told X s' each i = (tells, told)
    where
      at : i.rule < 61 → i.dot < 7 → get_or s'.marks (7 * i.rule + i.dot) false ≡ next_has ρs s vs X i.rule i.dot
      at r d =
          let rule_is : (7 * i.rule + i.dot) / 7 ≡ i.rule = omega arith in
          let dot_is : (7 * i.rule + i.dot) % 7 ≡ i.dot = omega arith in
          each (7 * i.rule + i.dot) (omega arith) ∙ ap₂ (next_has ρs s vs X) rule_is dot_is

      tells : has s' i ≡ true → NextKernel g (In s) X i
      tells e = next_tells X i (sym (at (rule_low s' i e) (dot_low s' i e)) ∙ (and_parts (ltb i.dot 7) _ e).1)

      told : NextKernel g (In s) X i → has s' i ≡ true
      told n =
          let (r, d) = before_within i X n.1 in
          and_from (ltb i.dot 7) _ (lt-ltb _ 7 d) (at r d ∙ next_told X i n)
