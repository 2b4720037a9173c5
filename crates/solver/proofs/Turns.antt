-- What one turn of a round does. To apply a rule to the list is to apply it to the valuation, for every nonterminal of the list. So the
-- values stay below what the rules give and below every solution, the sum of their heights rises where they change, and where no rule
-- changes them they are a solution.
use Rattle.std.proofs.Common.{◌≡◌, ℕ, zero, suc, ◌+◌, ◌-◌, ◌*◌, ◌<◌, ◌≤◌, Bool, true, false, ◌||◌, eqb, ltb, ◌≢◌, List, [], ◌∷◌, length, get_or, take, set, MatchBool, sum_by, sym, refl, ap, ◌∙◌, subst, ⊎_elim, arith}
use mathlib.Core.Option.{some}
use Rattle.std.proofs.lemmas.List.{get_or-set_same, get_or-set_other, get_or_past, length-set, set-get_or, set_past}
use Rattle.std.proofs.ByRecursion.{All-from_get_or, All-more, sum_by_le}
use Rattle.std.proofs.lemmas.List.Sums.{sum_by-set}
use Rattle.std.proofs.lemmas.Bool.{cases_eq, cases_lt, lt-ltb, le-ltb, eq-eqb, ne_eqb, eqb-true, cond-true, cond-false, cond_both}
use Rattle.grammar.specs.Grammar.{Grammar, IsNonterminal, rule_at}
use Rattle.grammar.specs.Equations.{Kind, product_of, join_of, applied, Solves, Least, at_bottom, by_rule}
use Rattle.solver.specs.Laws.{Laws}
use Rattle.solver.specs.Solution.{rule_of, rules_of, valuation}
use Rattle.solver.specs.Rounds.{Below, with_rule, AllBottom, Rising, RisingTo, Settled}
use Rattle.solver.specs.declared.rule.Rule.{Rule}
use Rattle.solver.proofs.Order.{Under, below_refl, below_trans, below_antisym, below_left, below_join, below_bottom, products_mono, joins_mono, rule_below}

-- the rule with a number, as the grammar has it
rule_is : (ρs : List Rule) (j : ℕ) (d : Rule) → j < length ρs → rule_at (rules_of ρs) j ≡ some (rule_of (get_or ρs j d))
rule_is [] j d h = absurd (omega arith)
rule_is (ρ ∷ ρs) zero d h = refl
rule_is (ρ ∷ ρs) (suc j) d h = rule_is ρs j d (omega arith)

module _ {V : Type 0} (o : Kind V) (ρ : Rule) (vs : List V) where
  abbrev raised : V
  raised = o.join (get_or vs (ρ.left - 32) o.bottom) (product_of o (valuation o vs) (rule_of ρ).right)

  pub with_token : ρ.left < 32 → with_rule o ρ vs ≡ vs
  with_token h = cond-true (ltb ρ.left 32) vs (set vs (ρ.left - 32) raised) (lt-ltb ρ.left 32 h)

  pub with_nonterminal : 32 ≤ ρ.left → with_rule o ρ vs ≡ set vs (ρ.left - 32) raised
  with_nonterminal h = cond-false (ltb ρ.left 32) vs (set vs (ρ.left - 32) raised) (le-ltb ρ.left 32 h)

  pub with_beyond : 32 ≤ ρ.left → length vs ≤ ρ.left - 32 → with_rule o ρ vs ≡ vs
  with_beyond h past = with_nonterminal h ∙ set_past vs (ρ.left - 32) raised past

  pub with_length : length (with_rule o ρ vs) ≡ length vs
  with_length =
      ⊎_elim (λ h. ap length (with_token h)) (λ h. ap length (with_nonterminal h) ∙ length-set vs (ρ.left - 32) raised) (cases_lt ρ.left 32)

  -- at a nonterminal of the list the rule is applied
  pub with_is_applied : (A : ℕ) → 32 ≤ A → A - 32 < length vs → valuation o (with_rule o ρ vs) A ≡ applied o (rule_of ρ) (valuation o vs) A
  with_is_applied A from within = ⊎_elim token other (cases_lt ρ.left 32)
    where
      p : V
      p = product_of o (valuation o vs) (rule_of ρ).right

      apart : (ρ.left ≡ A → ⊥) → valuation o vs A ≡ applied o (rule_of ρ) (valuation o vs) A
      apart ne = sym (cond-false (eqb ρ.left A) (o.join (valuation o vs A) p) (valuation o vs A) (ne_eqb ρ.left A ne))

      token : ρ.left < 32 → valuation o (with_rule o ρ vs) A ≡ applied o (rule_of ρ) (valuation o vs) A
      token h = ap (λ ws. valuation o ws A) (with_token h) ∙ apart (λ e. omega arith)

      other : 32 ≤ ρ.left → valuation o (with_rule o ρ vs) A ≡ applied o (rule_of ρ) (valuation o vs) A
      other h =
          ap (λ ws. valuation o ws A) (with_nonterminal h)
          ∙ ⊎_elim
          (λ (e : ρ.left ≡ A).
          let same : A - 32 ≡ ρ.left - 32 = omega arith in
          let in_list : ρ.left - 32 < length vs = omega arith in
          ap (λ i. get_or (set vs (ρ.left - 32) raised) i o.bottom) same
          ∙ get_or-set_same vs (ρ.left - 32) raised o.bottom in_list
          ∙ ap (λ B. o.join (valuation o vs B) p) e
          ∙ sym (cond-true (eqb ρ.left A) (o.join (valuation o vs A) p) (valuation o vs A) (eq-eqb ρ.left A e)))
          (λ ne.
          let differ : A - 32 ≢ ρ.left - 32 = λ e. ne (omega arith) in
          get_or-set_other vs (ρ.left - 32) (A - 32) raised o.bottom differ ∙ apart ne)
          (cases_eq ρ.left A)

-- beyond the list all are at bottom
beyond : {V : Type 0} (o : Kind V) (vs : List V) (A : ℕ) → length vs ≤ A - 32 → valuation o vs A ≡ o.bottom
beyond o vs A past = get_or_past vs (A - 32) o.bottom past

module _ {V : Type 0} {o : Kind V} {height : V → ℕ} {chain : ℕ} (laws : Laws o height chain) where
  pub heights_bounded : (vs : List V) → sum_by height vs ≤ length vs * chain
  heights_bounded vs = sum_by_le height chain vs (All-from_get_or (λ x. height x ≤ chain) vs o.bottom (λ i h. laws.bounded _))

  -- the higher the values, the less they can still rise
  pub room_shrinks : (vs ws : List V) → length ws ≡ length vs → sum_by height vs < sum_by height ws
      → length ws * chain - sum_by height ws < length vs * chain - sum_by height vs
  room_shrinks vs ws e up = let most = heights_bounded ws in rw e (let most' = rw e at most in omega arith)

  -- where the list has only bottom, so that it lies below anything
  under_beyond : (vs : List V) (S : ℕ → V) → ((A : ℕ) → 32 ≤ A → A - 32 < length vs → Below o (valuation o vs A) (S A)) → Under o (valuation o vs) S
  under_beyond vs S h A from =
      ⊎_elim (h A from) (λ past. rw (beyond o vs A past) (below_bottom laws (S A))) (cases_lt (A - 32) (length vs))

  -- ---- the start: all at bottom

  pub rising_none : (g : Grammar) (vs : List V) → g.n ≡ length vs → AllBottom o vs → Rising o g vs
  rising_none g vs size bottom =
      let at : (A : ℕ) → IsNonterminal g A → valuation o vs A ≡ o.bottom = λ A n. bottom (A - 32) (omega (arith, n.0, n.1)) in
      record {
        reached = at_bottom at;
        below_rules = λ A n. rw (at A n) (below_bottom laws _);
        below_solutions = λ S s A n. rw (at A n) (below_bottom laws _);
      }

  -- ---- a turn

  module _ (g : Grammar) (ρs : List Rule) (vs : List V) (rules : g.rules ≡ rules_of ρs) (size : g.n ≡ length vs) (rising : Rising o g vs)
      (j : ℕ) (d : Rule) (within : j < length ρs) where
    abbrev ρ : Rule
    ρ = get_or ρs j d

    abbrev S : ℕ → V
    S = valuation o vs

    abbrev S⁺ : ℕ → V
    S⁺ = valuation o (with_rule o ρ vs)

    abbrev p : V
    p = product_of o S (rule_of ρ).right

    is_rule : rule_at g.rules j ≡ some (rule_of ρ)
    is_rule = ap (λ τs. rule_at τs j) rules ∙ rule_is ρs j d within

    step : (A : ℕ) → IsNonterminal g A → S⁺ A ≡ applied o (rule_of ρ) S A
    step A n = with_is_applied o ρ vs A n.0 (omega (arith, n.0, n.1))

    -- what holds of the values after a rule, at its left side and elsewhere
    after : (A : ℕ) → IsNonterminal g A → (P : V → Type 0) → (ρ.left ≡ A → P (o.join (S A) p)) → P (S A) → P (S⁺ A)
    after A n P own old =
        subst P (sym (step A n)) (cond_both (eqb ρ.left A) (o.join (S A) p) (S A) P (λ e. own (eqb-true ρ.left A e)) (λ e. old))

    of_list : (A : ℕ) → 32 ≤ A → A - 32 < length vs → IsNonterminal g A
    of_list A from h = (from, omega arith)

    up : Under o S S⁺
    up = under_beyond vs S⁺ (λ A from h. after A (of_list A from h) (Below o (S A)) (λ e. below_left laws (S A) p) (below_refl laws (S A)))

    step_below_rules : (A : ℕ) → IsNonterminal g A → Below o (S⁺ A) (join_of o S⁺ g.rules A)
    step_below_rules A n =
        let more = joins_mono laws S S⁺ up g.rules A in
        let old = below_trans laws (S A) _ _ (rising.below_rules A n) more in
        after A n (λ x. Below o x (join_of o S⁺ g.rules A))
        (λ e. below_join laws (S A) p _ old (below_trans laws p _ _ (rule_below laws S g.rules j (rule_of ρ) A is_rule e) more))
        old

    step_below_solutions : (T : ℕ → V) → Solves o g T → (A : ℕ) → IsNonterminal g A → Below o (S⁺ A) (T A)
    step_below_solutions T solves A n =
        let under = under_beyond vs T (λ B from h. rising.below_solutions T solves B (of_list B from h)) in
        after A n (λ x. Below o x (T A))
        (λ e.
        let given = below_trans laws p _ _ (products_mono laws S T under (rule_of ρ).right) (rule_below laws T g.rules j (rule_of ρ) A is_rule e) in
        below_join laws (S A) p (T A) (rising.below_solutions T solves A n) (subst (Below o p) (sym (solves A n)) given))
        (rising.below_solutions T solves A n)

    pub rising_more : Rising o g (with_rule o ρ vs)
    rising_more = record {
      reached = by_rule j (rule_of ρ) is_rule rising.reached step;
      below_rules = step_below_rules;
      below_solutions = step_below_solutions;
    }

  pub rising_to_more : (ρs : List Rule) (vs ws : List V) (j : ℕ) (d : Rule) → j < length ρs → RisingTo o ρs vs
      → ws ≡ with_rule o (get_or ρs j d) vs → RisingTo o ρs ws
  rising_to_more ρs vs ws j d within rising is γ rules size =
      let before : γ.n ≡ length vs = size ∙ ap length is ∙ with_length o (get_or ρs j d) vs in
      subst (Rising o γ) (sym is) (rising_more γ ρs vs rules before (rising γ rules before) j d within)

  -- values that a rule changes are higher in sum
  pub heights_rise : (ρ : Rule) (vs : List V) → (with_rule o ρ vs ≡ vs → ⊥) → sum_by height vs < sum_by height (with_rule o ρ vs)
  heights_rise ρ vs ne = ⊎_elim (λ h. absurd (ne (with_token o ρ vs h))) other (cases_lt ρ.left 32)
    where
      at : ℕ
      at = ρ.left - 32

      new : V
      new = o.join (get_or vs at o.bottom) (product_of o (valuation o vs) (rule_of ρ).right)

      inside : 32 ≤ ρ.left → at < length vs → sum_by height vs < sum_by height (with_rule o ρ vs)
      inside h within =
          let is = with_nonterminal o ρ vs h in
          let up = laws.rises (get_or vs at o.bottom) _ (λ e. ne (is ∙ ap (set vs at) e ∙ set-get_or vs at o.bottom)) in
          rw is (omega (arith, up, sum_by-set height vs at new o.bottom within))

      other : 32 ≤ ρ.left → sum_by height vs < sum_by height (with_rule o ρ vs)
      other h = ⊎_elim (inside h) (λ past. absurd (ne (with_beyond o ρ vs h past))) (cases_lt at (length vs))

  module _ (ρs : List Rule) (vs : List V) (j : ℕ) (d : Rule) (within : j < length ρs) (ws : List V) (is : ws ≡ with_rule o (get_or ρs j d) vs)
      (low : ℕ) (from : low ≤ sum_by height vs) where
    rose : (ws ≡ vs → ⊥) → low < sum_by height ws
    rose ne = let up = heights_rise (get_or ρs j d) vs (λ e. ne (is ∙ e)) in rw is (omega (arith, up))

    pub turn_says : (again changed : Bool) → MatchBool again (ws ≡ vs → ⊥) (ws ≡ vs) → MatchBool changed (low < sum_by height vs) (Settled o (take j ρs) vs)
        → (low ≤ sum_by height ws) × MatchBool (again || changed) (low < sum_by height ws) (Settled o (take (j + 1) ρs) ws)
    turn_says true changed ne wh = let up = rose ne in (omega arith, up)
    turn_says false true e wh = rw e (omega arith, wh)
    turn_says false false e wh = rw e (from, All-more _ ρs j d within wh (sym is ∙ e))

  -- ---- the end: no rule changes anything

  settled_here : (ρ : Rule) (vs : List V) → with_rule o ρ vs ≡ vs → (A : ℕ) → 32 ≤ A → A - 32 < length vs → ρ.left ≡ A
      → Below o (product_of o (valuation o vs) (rule_of ρ).right) (valuation o vs A)
  settled_here ρ vs e A from within goes =
      let q = product_of o (valuation o vs) (rule_of ρ).right in
      laws.join_commutative _ _
      ∙ sym (with_is_applied o ρ vs A from within ∙ cond-true (eqb ρ.left A) (o.join (valuation o vs A) q) (valuation o vs A) (eq-eqb ρ.left A goes))
      ∙ ap (λ ws. valuation o ws A) e

  settled_below : (ρs : List Rule) (vs : List V) → Settled o ρs vs → (A : ℕ) → 32 ≤ A → A - 32 < length vs
      → Below o (join_of o (valuation o vs) (rules_of ρs) A) (valuation o vs A)
  settled_below [] vs settled A from within = below_bottom laws _
  settled_below (ρ ∷ ρs) vs settled A from within =
      below_join laws _ _ _
      (cond_both (eqb ρ.left A) (product_of o (valuation o vs) (rule_of ρ).right) o.bottom (λ x. Below o x (valuation o vs A))
      (λ e. settled_here ρ vs settled.0 A from within (eqb-true ρ.left A e))
      (λ e. below_bottom laws _))
      (settled_below ρs vs settled.1 A from within)

  pub least_all : (g : Grammar) (ρs : List Rule) (vs : List V) → g.rules ≡ rules_of ρs → g.n ≡ length vs → Rising o g vs → Settled o ρs vs
      → Least o g (valuation o vs)
  least_all g ρs vs rules size rising settled = record {
    solves = λ A n. below_antisym laws _ _ (rising.below_rules A n)
        (rw rules (settled_below ρs vs settled A n.0 (omega (arith, n.0, n.1))));
    below = rising.below_solutions;
    reached = rising.reached;
  }
