-- What is reached in the grammar with the start rule: the start, the end mark behind the start symbol, or what is reached without that
-- rule, with the end mark behind it. All symbols of a sound grammar derive token strings, so what stands before a symbol in a rule can be
-- made a string of terminals.
use Rattle.std.proofs.Common.{◌≡◌, ℕ, List, [], ◌∷◌, ◌++◌, length, sym, refl, ap, ◌∙◌, subst, ap₂, inl, inr, append_assoc, arith}
use Rattle.grammar.specs.Grammar.{Rule, Grammar, IsToken, IsSymbol, IsTerminal, IsRule, Every, WellFormed, start_symbol, end_mark}
use Rattle.grammar.specs.Sound.{Sound}
use Rattle.grammar.specs.Item.{start_rule, augmented}
use Rattle.grammar.proofs.Lists.{every_append, every_front, every_back, every_map}
use Rattle.grammar.proofs.Runs.{Run, done, token, run_append, run_tokens, derived→run}
use Rattle.grammar.proofs.Augmented.{StartPart, start_parts, WhichRule, which_rule, rule_augmented, start_is_rule, run_augmented, symbol_nonzero, left_apart}
use Rattle.grammar.proofs.Left.{Reached, top, down}

module _ (g : Grammar) (s : Sound g) where
  wf : WellFormed g
  wf = s.well_formed

  pub productive : (α : List ℕ) → Every (IsSymbol g) α → (rs w : List ℕ) × Run g α rs w
  productive [] p = ([], [], done)
  productive (X ∷ α) (p, ps) =
      let (rs, w, d) = one X p in
      let (ss, v, e) = productive α ps in
      (rs ++ ss, w ++ v, run_append g α ss v d e)
    where
      one : (X : ℕ) → IsSymbol g X → (rs w : List ℕ) × Run g (X ∷ []) rs w
      one X (inl t) = ([], X ∷ [], token t done)
      one X (inr n) = let (u, y) = s.productive X n in let (rs, d) = derived→run g y in (rs, u, d)

  pub right_symbols : (r : ℕ) (ρ : Rule) (α β : List ℕ) → IsRule g r ρ → ρ.right ≡ α ++ β → Every (IsSymbol g) α × Every (IsSymbol g) β
  right_symbols r ρ α β i e =
      let p : Every (IsSymbol g) (α ++ β) = subst (Every (IsSymbol g)) e (wf.right_side r ρ i) in
      (every_front (IsSymbol g) α β p, every_back (IsSymbol g) α β p)

  -- what stands before B
  pub part_productive : (r : ℕ) (ρ : Rule) (α β : List ℕ) (B : ℕ) → IsRule g r ρ → ρ.right ≡ α ++ B ∷ β
      → (rs w : List ℕ) × (Run g α rs w × Every (IsToken g) w)
  part_productive r ρ α β B i e = let (rs, w, d) = productive α (right_symbols r ρ α (B ∷ β) i e).0 in (rs, w, (d, run_tokens g d))

  start_is_symbol : IsSymbol g start_symbol
  start_is_symbol = inr (omega arith, omega (arith, wf.some_nonterminal))

  pub part_augmented : (r : ℕ) (ρ : Rule) (α β : List ℕ) (B : ℕ) → IsRule (augmented g) r ρ → ρ.right ≡ α ++ B ∷ β
      → (rs w : List ℕ) × (Run (augmented g) α rs w × Every (IsTerminal g) w)
  part_augmented r ρ α β B i e =
      let (rs, w, d) = productive α (symbols (which_rule g r ρ i)) in
      (rs, w, (run_augmented g d, every_map (IsToken g) (IsTerminal g) (λ a t. inl t) w (run_tokens g d)))
    where
      at_start : StartPart α B β → Every (IsSymbol g) α
      at_start (inl (a, b, c)) = subst (Every (IsSymbol g)) (sym a) tt
      at_start (inr (a, b, c)) = subst (Every (IsSymbol g)) (sym a) (start_is_symbol, tt)

      symbols : WhichRule g r ρ → Every (IsSymbol g) α
      symbols (inl j) = (right_symbols r ρ α (B ∷ β) j e).0
      symbols (inr (n, f)) = at_start (start_parts α B β (sym (ap (λ (τ : Rule). τ.right) f) ∙ e))

  -- what is reached: the start, the end mark behind the start symbol, or a symbol with symbols and the end mark behind it
  pub data Shape (A : ℕ) (σ : List ℕ) : Type 0 where
    start : A ≡ 0 → σ ≡ [] → Shape A σ
    mark : A ≡ end_mark → σ ≡ [] → Shape A σ
    within : (δ : List ℕ) → σ ≡ δ ++ end_mark ∷ [] → IsSymbol g A → Every (IsSymbol g) δ → Reached g start_symbol A δ → Shape A σ

  pub shape : {A : ℕ} {σ : List ℕ} → Reached (augmented g) 0 A σ → Shape A σ
  shape (top e f) = start e f
  shape {A = B} {σ = σ} (down {A = A} {δ = δ} r ρ α β d i l e f) = by (shape d) (which_rule g r ρ i)
    where
      at_start : δ ≡ [] → StartPart α B β → Shape B σ
      at_start n (inl (a, b, c)) = within [] (f ∙ ap₂ (λ (y z : List ℕ). y ++ z) c n) (subst (IsSymbol g) (sym b) start_is_symbol) tt (top b refl)
      at_start n (inr (a, b, c)) = mark b (f ∙ ap₂ (λ (y z : List ℕ). y ++ z) c n)

      by : Shape A δ → WhichRule g r ρ → Shape B σ
      by (start a n) (inl j) = absurd (omega (arith, (wf.left_side r ρ j).0, l, a))
      by (start a n) (inr (m, h)) = at_start n (start_parts α B β (sym (ap (λ (τ : Rule). τ.right) h) ∙ e))
      by (mark a n) c = absurd (left_apart g wf r ρ i (inr (l ∙ a)))
      by (within δ' n p ps q) (inl j) =
          let (pα, pβ) = right_symbols r ρ α (B ∷ β) j e in
          let whole : σ ≡ (β ++ δ') ++ end_mark ∷ [] = f ∙ ap (λ (y : List ℕ). β ++ y) n ∙ simp append_assoc in
          within (β ++ δ') whole pβ.0 (every_append (IsSymbol g) β δ' pβ.1 ps) (down r ρ α β q j l e refl)
      by (within δ' n p ps q) (inr (m, h)) = absurd (symbol_nonzero g wf A p (sym l ∙ ap (λ (τ : Rule). τ.left) h))

  -- and back
  pub reached_within : {A : ℕ} {δ : List ℕ} → Reached g start_symbol A δ → Reached (augmented g) 0 A (δ ++ end_mark ∷ [])
  reached_within (top e f) =
      down (length g.rules) start_rule [] (end_mark ∷ []) (top refl refl) (start_is_rule g) refl (ap (λ (y : ℕ). y ∷ end_mark ∷ []) (sym e)) (rw f refl)
  reached_within (down {δ = δ} r ρ α β d i l e f) = down r ρ α β (reached_within d) (rule_augmented g r ρ i) l e (rw f (simp append_assoc))
