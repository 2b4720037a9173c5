-- The items valid for a suffix, by what is reached: A → α . β is valid for β δ where A is reached with δ behind it. From that form closure
-- and next are read off: an item with its dot at the end comes from the item that its left side was reached through, and any other is a
-- kernel item, which is an item of the shorter suffix with the dot moved over the top.
use Rattle.std.proofs.Common.{◌≡◌, ℕ, ◌⊎◌, List, [], ◌∷◌, ◌++◌, length, sym, refl, ap, ◌∙◌, subst, ap₂, inl, inr, append_assoc, append-nil, arith, length-append}
use Rattle.std.proofs.lemmas.List.{append_cancel_left}
use Rattle.grammar.specs.Grammar.{Rule, Grammar, IsSymbol, IsTerminal, IsRule, Every, WellFormed, end_mark}
use Rattle.grammar.specs.Sound.{Sound}
use Rattle.grammar.specs.Item.{augmented, Item, raised, Before, IsKernel, Closure, of_kernel, of_rule}
use Rattle.grammar.specs.Viable.{Valid, Nonempty}
use Rattle.grammar.proofs.Lists.{head_is, tail_is, split_same}
use Rattle.grammar.proofs.Augmented.{Nonzero, StartPart, start_parts, WhichRule, which_rule, rule_augmented, symbol_nonzero, left_apart}
use Rattle.grammar.proofs.Left.{Reached, top, down, same_reached, form→reached, reached→form}
use Rattle.grammar.proofs.Shapes.{right_symbols, part_augmented, Shape, start, mark, within, shape}

module _ (g : Grammar) where
  -- an item valid for σ, by what is reached
  pub record Spot (i : Item) (σ : List ℕ) : Type 0 where
    pub rule : Rule
    pub is_rule : IsRule (augmented g) i.rule rule
    pub δ : List ℕ
    pub reached : Reached (augmented g) 0 rule.left δ
    pub α : List ℕ
    pub β : List ℕ
    pub right_is : rule.right ≡ α ++ β
    pub dot_is : i.dot ≡ length α
    pub suffix : σ ≡ β ++ δ

  pub spot_of : (r : ℕ) (ρ : Rule) (α β δ : List ℕ) {A : ℕ} {σ : List ℕ} → IsRule (augmented g) r ρ → ρ.right ≡ α ++ β → ρ.left ≡ A
      → Reached (augmented g) 0 A δ → σ ≡ β ++ δ → Spot (record { rule = r; dot = length α }) σ
  spot_of r ρ α β δ i e l d f =
      record { rule = ρ; is_rule = i; δ = δ; reached = same_reached (augmented g) 0 (sym l) refl d; α = α; β = β; right_is = e; dot_is = refl; suffix = f }

  -- a rule's right side is cut in one way at one length
  same_cut : (r : ℕ) {ρ τ : Rule} → IsRule (augmented g) r ρ → IsRule (augmented g) r τ
      → (a b c d : List ℕ) → ρ.right ≡ a ++ b → τ.right ≡ c ++ d → length a ≡ length c → (ρ ≡ τ) × ((a ≡ c) × (b ≡ d))
  same_cut r {ρ} {τ} i j a b c d e f l =
      let same : ρ ≡ τ = cc in
      (same, split_same a b c d (sym e ∙ ap (λ (σ : Rule). σ.right) same ∙ f) l)

  -- what is behind the dot, where X stands just before it
  pub behind : {i : Item} {σ : List ℕ} {X : ℕ} (p : Spot i σ) (b : Before g i X) → (p.rule ≡ b.rule) × (σ ≡ b.back ++ p.δ)
  behind {i} {X = X} p b =
      let right : b.rule.right ≡ (b.front ++ X ∷ []) ++ b.back = b.right_is ∙ simp append_assoc in
      let dot : length p.α ≡ length (b.front ++ X ∷ []) = sym p.dot_is ∙ b.dot_is ∙ sym (length-append b.front (X ∷ [])) in
      let (same, (_, e)) = same_cut i.rule p.is_rule b.is_rule p.α p.β (b.front ++ X ∷ []) b.back p.right_is right dot in
      (same, p.suffix ∙ ap (λ (y : List ℕ). y ++ p.δ) e)

  -- what stands just before the dot is reached
  pub before_reached : {i : Item} {σ : List ℕ} {X : ℕ} → Spot i σ → Before g i X → Reached (augmented g) 0 X σ
  before_reached {i} p b =
      let (same, e) = behind p b in
      down i.rule b.rule b.front b.back p.reached b.is_rule (ap (λ (τ : Rule). τ.left) (sym same)) b.right_is e

  -- one symbol stands there
  pub before_one : (i : Item) {X Y : ℕ} → Before g i X → Before g i Y → X ≡ Y
  before_one i {X} {Y} a b =
      let dot : length a.front ≡ length b.front = omega (arith, a.dot_is, b.dot_is) in
      head_is (same_cut i.rule a.is_rule b.is_rule a.front (X ∷ a.back) b.front (Y ∷ b.back) a.right_is b.right_is dot).1.1

  -- the kernel items of X σ are the items of σ with X just before the dot, the dot one lower
  pub spot_down : (X : ℕ) (σ : List ℕ) (i : Item) → Spot i (X ∷ σ) → IsKernel g i → Spot (raised i) σ × Before g (raised i) X
  spot_down X σ i p (Y, b) =
      let dot : length p.α ≡ length b.front = omega (arith, p.dot_is, b.dot_is) in
      let (same, (_, e)) = same_cut i.rule p.is_rule b.is_rule p.α p.β b.front (Y ∷ b.back) p.right_is b.right_is dot in
      let all : X ∷ σ ≡ Y ∷ (b.back ++ p.δ) = p.suffix ∙ ap (λ (y : List ℕ). y ++ p.δ) e in
      let right : b.rule.right ≡ b.front ++ X ∷ b.back = b.right_is ∙ ap (λ (y : ℕ). b.front ++ y ∷ b.back) (sym (head_is all)) in (
        record {
          rule = b.rule;
          is_rule = b.is_rule;
          δ = p.δ;
          reached = same_reached (augmented g) 0 (ap (λ (τ : Rule). τ.left) same) refl p.reached;
          α = b.front ++ X ∷ [];
          β = b.back;
          right_is = right ∙ simp append_assoc;
          dot_is = b.dot_is ∙ sym (length-append b.front (X ∷ []));
          suffix = tail_is all;
        },
        record { rule = b.rule; is_rule = b.is_rule; front = b.front; back = b.back; right_is = right; dot_is = b.dot_is },
      )

  pub spot_up : (X : ℕ) (σ : List ℕ) (i : Item) → Spot (raised i) σ → Before g (raised i) X → Spot i (X ∷ σ) × IsKernel g i
  spot_up X σ i p b =
      let (same, e) = behind p b in (
        record {
          rule = b.rule;
          is_rule = b.is_rule;
          δ = p.δ;
          reached = same_reached (augmented g) 0 (ap (λ (τ : Rule). τ.left) same) refl p.reached;
          α = b.front;
          β = X ∷ b.back;
          right_is = b.right_is;
          dot_is = omega (arith, b.dot_is);
          suffix = ap (λ (y : List ℕ). X ∷ y) e;
        },
        (X, b),
      )

  -- every closure comes from some kernel item
  pub closure_kernel : (K : Item → Type 0) {i : Item} → Closure g K i → (j : Item) × K j
  closure_kernel K {i} (of_kernel m) = (i, m)
  closure_kernel K (of_rule ρ c b i l) = closure_kernel K c

  pub closure→spot : (K : Item → Type 0) (σ : List ℕ) → ((i : Item) → K i → Spot i σ) → {i : Item} → Closure g K i → Spot i σ
  closure→spot K σ k {i} (of_kernel m) = k i m
  closure→spot K σ k (of_rule {r = r} ρ c b i l) =
      spot_of r ρ ρ.right [] σ (rule_augmented g r ρ i) (sym (append-nil ρ.right)) l (before_reached (closure→spot K σ k c) b) refl

  module _ (s : Sound g) where
    wf : WellFormed g
    wf = s.well_formed

    -- what stands just before a dot is a symbol, or the rule is the start rule
    abbrev pub WhichSymbol : {i : Item} {X : ℕ} → Before g i X → Type 0
    WhichSymbol {i} {X} b = IsSymbol g X ⊎ ((i.rule ≡ length g.rules) × StartPart b.front X b.back)

    pub which_symbol : {i : Item} {X : ℕ} (b : Before g i X) → WhichSymbol b
    which_symbol {i} {X} b = by (which_rule g i.rule b.rule b.is_rule)
      where
        by : WhichRule g i.rule b.rule → WhichSymbol b
        by (inl j) = inl (right_symbols g s i.rule b.rule b.front (X ∷ b.back) j b.right_is).1.0
        by (inr (n, f)) = inr (n, start_parts b.front X b.back (sym (ap (λ (τ : Rule). τ.right) f) ∙ b.right_is))

    pub before_nonzero : {i : Item} (X : ℕ) → Before g i X → Nonzero X
    before_nonzero X b z = by (which_symbol b)
      where
        by : WhichSymbol b → ⊥
        by (inl p) = symbol_nonzero g wf X p z
        by (inr (n, inl (a, x, c))) = omega (arith, x, z)
        by (inr (n, inr (a, x, c))) = omega (arith, x, z)

    pub valid→spot : (i : Item) (σ : List ℕ) → Valid g i σ → Spot i σ
    valid→spot i σ v =
        let apart = left_apart g wf in
        let no_terminal = apart i.rule v.rule v.is_rule in
        record {
          rule = v.rule;
          is_rule = v.is_rule;
          δ = v.δ;
          reached = form→reached (augmented g) (IsTerminal g) 0 apart v.form.0 v.x v.δ v.rule.left v.form.1 no_terminal;
          α = v.α;
          β = v.β;
          right_is = v.right_is;
          dot_is = v.dot_is;
          suffix = sym (append_cancel_left v.α (v.β ++ v.δ) σ (append_cancel_left v.x (v.α ++ (v.β ++ v.δ)) (v.α ++ σ) v.same));
        }

    pub spot→valid : (i : Item) (σ : List ℕ) → Spot i σ → Valid g i σ
    spot→valid i σ p =
        let f = reached→form (augmented g) (IsTerminal g) 0 (λ a t. inl t) (part_augmented g s) p.reached in
        record {
          rule = p.rule;
          is_rule = p.is_rule;
          x = f.x;
          terminals = f.terminals;
          δ = p.δ;
          form = (f.rs, f.derived);
          α = p.α;
          β = p.β;
          right_is = p.right_is;
          dot_is = p.dot_is;
          same = ap (λ (y : List ℕ). f.x ++ (p.α ++ y)) (sym p.suffix);
        }

    -- the closure of the kernel items holds all items, by the way that a left side is reached
    reached→closure : (K : Item → Type 0) (σ : List ℕ) → Nonempty σ → ((i : Item) → Spot i σ → IsKernel g i → K i)
        → (A r : ℕ) (δ : List ℕ) → Reached (augmented g) 0 A δ → (ρ : Rule) → IsRule (augmented g) r ρ → ρ.left ≡ A
        → (α β : List ℕ) → ρ.right ≡ α ++ β → σ ≡ β ++ δ
        → Closure g K (record { rule = r; dot = length α })
    reached→closure K σ ne k A r δ x ρ i l α (X ∷ β) e f =
        let b : IsKernel g (record { rule = r; dot = length α }) = (X, record { rule = ρ; is_rule = i; front = α; back = β; right_is = e; dot_is = refl }) in
        of_kernel (k (record { rule = r; dot = length α }) (spot_of r ρ α (X ∷ β) δ i e l x f) b)
    reached→closure K σ ne k A r δ (top a n) ρ i l α [] e f = absurd (ne (f ∙ n))
    reached→closure K σ ne k A r δ (down {A = A'} {δ = δ'} r' ρ' α' β' x i' l' e' f') ρ i l α [] e f =
        let through : Item = record { rule = r'; dot = length (α' ++ A ∷ []) } in
        let up : Closure g K through = reached→closure K σ ne k A' r' δ' x ρ' i' l' (α' ++ A ∷ []) β' (e' ∙ simp append_assoc) (f ∙ f') in
        let b : Before g through A = record { rule = ρ'; is_rule = i'; front = α'; back = β'; right_is = e'; dot_is = length-append α' (A ∷ []) } in
        let own : IsRule g r ρ = by (shape g s (down r' ρ' α' β' x i' l' e' f')) (which_rule g r ρ i) in
        subst (λ (y : List ℕ). Closure g K (record { rule = r; dot = length y })) (e ∙ append-nil α) (of_rule ρ up b own l)
      where
        by : Shape g s A δ → WhichRule g r ρ → IsRule g r ρ
        by s (inl j) = j
        by (start a n) (inr h) = absurd (ne (f ∙ n))
        by (mark a n) (inr h) = absurd (ne (f ∙ n))
        by (within δ'' n p ps q) (inr (m, h)) = absurd (symbol_nonzero g wf A p (sym l ∙ ap (λ (τ : Rule). τ.left) h))

    pub spot→closure : (K : Item → Type 0) (σ : List ℕ) → Nonempty σ → ((i : Item) → Spot i σ → IsKernel g i → K i) → (i : Item) → Spot i σ → Closure g K i
    spot→closure K σ ne k i p =
        subst (λ (d : ℕ). Closure g K (record { rule = i.rule; dot = d })) (sym p.dot_is)
        (reached→closure K σ ne k p.rule.left i.rule p.δ p.reached p.rule p.is_rule refl p.α p.β p.right_is p.suffix)

    -- every suffix but the empty one has a kernel item
    pub some_kernel : (σ : List ℕ) → Nonempty σ → (i : Item) → Spot i σ → (j : Item) × (Spot j σ × IsKernel g j)
    some_kernel σ ne i p =
        let K : Item → Type 0 = λ j. Spot j σ × IsKernel g j in
        closure_kernel K (spot→closure K σ ne (λ j q k. (q, k)) i p)

    -- it is symbols, then the end mark
    pub suffix_shape : (σ : List ℕ) → Nonempty σ → (i : Item) → Spot i σ → (δ : List ℕ) × ((σ ≡ δ ++ end_mark ∷ []) × Every (IsSymbol g) δ)
    suffix_shape [] ne i p = absurd (ne refl)
    suffix_shape (X ∷ σ) ne i p =
        let (j, (q, k)) = some_kernel (X ∷ σ) ne i p in
        let (q', b) = spot_down X σ j q k in
        by (shape g s (before_reached q' b)) b
      where
        by : Shape g s X σ → {j : Item} → Before g j X → (δ : List ℕ) × ((X ∷ σ ≡ δ ++ end_mark ∷ []) × Every (IsSymbol g) δ)
        by (start a n) b = absurd (before_nonzero X b a)
        by (mark a n) b = ([], (ap₂ (λ (y : ℕ) (z : List ℕ). y ∷ z) a n, tt))
        by (within δ e pX ps d) b = (X ∷ δ, (ap (λ (y : List ℕ). X ∷ y) e, (pX, ps)))
