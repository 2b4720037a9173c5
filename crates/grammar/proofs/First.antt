-- Derivations side by side, and FIRST. A step in a joined string is a step in the one part or in the other, so a derivation from α β comes
-- apart into one from α and one from β; that is the product law of FIRST. No rule brings in the end mark, and none replaces it.
use Rattle.std.proofs.Common.{◌≡◌, ℕ, ◌⊎◌, ◌↔◌, List, [], ◌∷◌, ◌++◌, take, sym, refl, ap, ◌∙◌, subst, ap₂, inl, inr, append_assoc, le_refl, arith}
use mathlib.Core.Logic.Iff
use Rattle.grammar.specs.Grammar.{Grammar, IsToken, IsSymbol, IsTerminal, Every, WellFormed, end_mark}
use Rattle.grammar.specs.Derivation.{Derives, DerivesTokens}
use Rattle.grammar.specs.First.{DerivesTerminals, First, FirstWith}
use Rattle.grammar.proofs.Lists.{one_front, take_join, take_join_left, InFirst, InSecond, where_is, every_append, every_front, every_back, every_map, every_both, every_replace}
use Rattle.grammar.proofs.Runs.{Run, derived→run, run→derived}

module _ (g : Grammar) where
  pub derives_append : (rs ss α α' β β' : List ℕ) → Derives g α rs α' → Derives g β ss β' → Derives g (α ++ β) (rs ++ ss) (α' ++ β')
  derives_append [] [] α α' β β' d e = ap₂ (λ (x y : List ℕ). x ++ y) d e
  derives_append [] (s ∷ ss) α α' β β' d (χ, h, e) = (
    α ++ χ,
    record {
      rule = h.rule;
      is_rule = h.is_rule;
      before = α ++ h.before;
      after = h.after;
      from = ap (λ (x : List ℕ). α ++ x) h.from ∙ simp append_assoc;
      to = ap (λ (x : List ℕ). α ++ x) h.to ∙ simp append_assoc;
    },
    derives_append [] ss α α' χ β' d e,
  )
  derives_append (r ∷ rs) ss α α' β β' (χ, h, d) e = (
    χ ++ β,
    record {
      rule = h.rule;
      is_rule = h.is_rule;
      before = h.before;
      after = h.after ++ β;
      from = ap (λ (x : List ℕ). x ++ β) h.from ∙ simp append_assoc;
      to = ap (λ (x : List ℕ). x ++ β) h.to ∙ simp append_assoc;
    },
    derives_append rs ss χ α' β β' d e,
  )

  pub record Apart (α β ψ : List ℕ) : Type 0 where
    pub rs₁ : List ℕ
    pub rs₂ : List ℕ
    pub ψ₁ : List ℕ
    pub ψ₂ : List ℕ
    pub joins : ψ ≡ ψ₁ ++ ψ₂
    pub first : Derives g α rs₁ ψ₁
    pub second : Derives g β rs₂ ψ₂

  pub derives_split : (rs α β γ ψ : List ℕ) → γ ≡ α ++ β → Derives g γ rs ψ → Apart α β ψ
  derives_split [] α β γ ψ e d = record { rs₁ = []; rs₂ = []; ψ₁ = α; ψ₂ = β; joins = sym d ∙ e; first = refl; second = refl }
  derives_split (r ∷ rs) α β γ ψ e (χ, h, d) = at_place (where_is h.before h.rule.left h.after α β (sym h.from ∙ e))
      (λ α'' f. derives_split rs α'' β χ ψ f d) (λ β'' f. derives_split rs α β'' χ ψ f d)
    where
      at_place : InFirst h.before h.rule.left h.after α β ⊎ InSecond h.before h.rule.left h.after α β
          → ((α'' : List ℕ) → χ ≡ α'' ++ β → Apart α'' β ψ) → ((β'' : List ℕ) → χ ≡ α ++ β'' → Apart α β'' ψ) → Apart α β ψ
      at_place (inl w) f k =
          let α'' : List ℕ = h.before ++ (h.rule.right ++ w.more) in
          let s = f α'' (h.to ∙ ap (λ (x : List ℕ). h.before ++ (h.rule.right ++ x)) w.after_is ∙ simp append_assoc) in
          record {
            rs₁ = r ∷ s.rs₁;
            rs₂ = s.rs₂;
            ψ₁ = s.ψ₁;
            ψ₂ = s.ψ₂;
            joins = s.joins;
            first = (α'', record { rule = h.rule; is_rule = h.is_rule; before = h.before; after = w.more; from = w.first_is; to = refl }, s.first);
            second = s.second;
          }
      at_place (inr w) f k =
          let β'' : List ℕ = w.more ++ (h.rule.right ++ h.after) in
          let s = k β'' (h.to ∙ ap (λ (x : List ℕ). x ++ (h.rule.right ++ h.after)) w.before_is ∙ simp append_assoc) in
          record {
            rs₁ = s.rs₁;
            rs₂ = r ∷ s.rs₂;
            ψ₁ = s.ψ₁;
            ψ₂ = s.ψ₂;
            joins = s.joins;
            first = s.first;
            second = (β'', record { rule = h.rule; is_rule = h.is_rule; before = w.more; after = h.after; from = w.second_is; to = refl }, s.second);
          }

  pub terminals_append : (α β u v : List ℕ) → DerivesTerminals g α u → DerivesTerminals g β v → DerivesTerminals g (α ++ β) (u ++ v)
  terminals_append α β u v (t, (rs, d)) (t', (ss, e)) = (every_append (IsTerminal g) u v t t', (rs ++ ss, derives_append rs ss α u β v d e))

  pub terminals_split : (α β w : List ℕ) → DerivesTerminals g (α ++ β) w → (u v : List ℕ) × (DerivesTerminals g α u × DerivesTerminals g β v × (w ≡ u ++ v))
  terminals_split α β w (t, (rs, d)) =
      let s = derives_split rs α β (α ++ β) w refl d in
      let t' : Every (IsTerminal g) (s.ψ₁ ++ s.ψ₂) = subst (Every (IsTerminal g)) s.joins t in
      let front = every_front (IsTerminal g) s.ψ₁ s.ψ₂ t' in
      let back = every_back (IsTerminal g) s.ψ₁ s.ψ₂ t' in
      (s.ψ₁, s.ψ₂, ((front, (s.rs₁, s.first)), (back, (s.rs₂, s.second)), s.joins))

  pub first_in_turn : (α β y : List ℕ) → First g (α ++ β) y ↔ FirstWith g α (First g β) y
  first_in_turn α β y = (
    λ (w, (d, e)).
        let (u, v, (d₁, d₂, j)) = terminals_split α β w d in
        (u, take k v, (d₁, (v, (d₂, refl)), e ∙ ap (take k) j ∙ sym (take_join k k u v (le_refl k)))),
    λ (u, w, (d₁, (v, (d₂, f)), e)). (u ++ v, (terminals_append α β u v d₁ d₂, e ∙ ap (λ (z : List ℕ). take k (u ++ z)) f ∙ take_join k k u v (le_refl k))),
  )
    where
      k : ℕ
      k = g.k

  pub first_with : (W : List ℕ → Type 0) (α y : List ℕ) → FirstWith g α W y ↔ ((u w : List ℕ) × (First g α u × W w × (y ≡ take g.k (u ++ w))))
  first_with W α y = (
    λ (u, w, (d, x, e)). (take k u, w, ((u, (d, refl)), x, e ∙ sym (take_join_left k k u w (le_refl k)))),
    λ (u, w, ((a, (d, h)), x, e)). (a, w, (d, x, e ∙ ap (λ (z : List ℕ). take k (z ++ w)) h ∙ take_join_left k k a w (le_refl k))),
  )
    where
      k : ℕ
      k = g.k

  pub first_of_products : (α β y : List ℕ) → First g (α ++ β) y ↔ ((u v : List ℕ) × (First g α u × First g β v × (y ≡ take g.k (u ++ v))))
  first_of_products α β y = Iff.trans (first_in_turn α β y) (first_with (First g β) α y)

  pub tokens→terminals : (α u : List ℕ) → DerivesTokens g α u → DerivesTerminals g α u
  tokens→terminals α u (t, d) = (every_map (IsToken g) (IsTerminal g) (λ a h. inl h) u t, d)

  pub run→first : {α rs u : List ℕ} → Run g α rs u → First g α (take g.k u)
  run→first {α} {u = u} d = (u, (tokens→terminals α u (run→derived g d), refl))

abbrev pub NoMark : ℕ → Type 0
NoMark x = x ≡ end_mark → ⊥

module _ (g : Grammar) (wf : WellFormed g) where
  pub token_no_mark : (a : ℕ) → IsToken g a → NoMark a
  token_no_mark a t e = omega (arith, wf.tokens_below)

  pub symbol_no_mark : (x : ℕ) → IsSymbol g x → NoMark x
  symbol_no_mark x (inl t) e = token_no_mark x t e
  symbol_no_mark x (inr n) e = omega (arith, n.0)

  pub no_mark : (rs φ ψ : List ℕ) → Every NoMark φ → Derives g φ rs ψ → Every NoMark ψ
  no_mark [] φ ψ t e = subst (Every NoMark) e t
  no_mark (r ∷ rs) φ ψ t (χ, h, d) =
      let right : Every NoMark h.rule.right = every_map (IsSymbol g) NoMark symbol_no_mark h.rule.right (wf.right_side r h.rule h.is_rule) in
      let t' = every_replace NoMark h.before h.rule.left h.rule.right h.after (subst (Every NoMark) h.from t) right in
      no_mark rs χ ψ (subst (Every NoMark) (sym h.to) t') d

  pub mark_stays : (rs ψ : List ℕ) → Derives g (end_mark ∷ []) rs ψ → ψ ≡ end_mark ∷ []
  mark_stays [] ψ d = sym d
  mark_stays (r ∷ rs) ψ (χ, h, d) = absurd (omega (arith, (wf.left_side r h.rule h.is_rule).0, (one_front h.before h.after h.from).1))

  -- from symbols, strings of terminals are token strings
  pub terminals→tokens : (α u : List ℕ) → Every (IsSymbol g) α → DerivesTerminals g α u → DerivesTokens g α u
  terminals→tokens α u p (t, (rs, d)) =
      (every_both (IsTerminal g) NoMark (IsToken g) unmarked u t (no_mark rs α u (every_map (IsSymbol g) NoMark symbol_no_mark α p) d), (rs, d))
    where
      unmarked : (a : ℕ) → IsTerminal g a → NoMark a → IsToken g a
      unmarked a (inl t) n = t
      unmarked a (inr e) n = absurd (n e)

  pub first→run : {α y : List ℕ} → Every (IsSymbol g) α → First g α y → (rs u : List ℕ) × (Run g α rs u × (y ≡ take g.k u))
  first→run {α} p (u, (d, e)) = let (rs, run) = derived→run g (terminals→tokens α u p d) in (rs, u, (run, e))
