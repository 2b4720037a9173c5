-- A grammar is LL(k) just when its canonical parser is deterministic. Left sentential forms without the start rule and with it reach the
-- same, up to the end mark behind all; and token strings are cut alike with the end mark behind them and without. So two rules that share
-- a word of FIRST behind the same form are two produce actions of the parser at one lookahead word, and back.
use Rattle.std.proofs.Common.{◌≡◌, ℕ, zero, suc, ◌<◌, ◌↔◌, List, [], ◌∷◌, ◌++◌, take, sym, refl, ◌∙◌, subst, ap₂, append_assoc, arith}
use mathlib.Core.Logic.Iff
use Rattle.grammar.specs.Grammar.{Rule, Grammar, IsToken, IsSymbol, IsRule, Every, WellFormed, start_symbol, end_mark}
use Rattle.grammar.specs.First.{First}
use Rattle.grammar.specs.Sound.{Sound}
use Rattle.grammar.specs.Table.{Table, TwoFit, IsCollection, Accepted}
use Rattle.grammar.specs.Viable.{Viable, SuffixWord, Suffix}
use Rattle.grammar.specs.Parser.{Produces, Deterministic}
use Rattle.grammar.specs.LL.{IsLL}
use Rattle.grammar.proofs.Lists.{head_is, tail_is, every_append}
use Rattle.grammar.proofs.Runs.{Run, run_tokens}
use Rattle.grammar.proofs.First.{token_no_mark, run→first, first→run}
use Rattle.grammar.proofs.Left.{Reached, top, down, form→reached, reached→form}
use Rattle.grammar.proofs.Shapes.{Shape, start, mark, within, shape, reached_within, right_symbols, part_productive}
use Rattle.grammar.proofs.Suffixes.{cons_nonempty, Cut, word→cut, cut→word, shrink, viable→reached, reached→viable, replaced}
use Rattle.grammar.proofs.Actions.{class_word}
use Rattle.grammar.proofs.Canonical.{longer, one_fits, collection→map}
use Rattle.grammar.proofs.Search.{dec_below, dec_two_fit}

-- the end mark makes no difference
cut_marked : (k : ℕ) (u v : List ℕ) → take k u ≡ take k v → take k (u ++ end_mark ∷ []) ≡ take k (v ++ end_mark ∷ [])
cut_marked zero u v e = refl
cut_marked (suc k) [] [] e = refl
cut_marked (suc k) [] (b ∷ v) e = absurd cc
cut_marked (suc k) (a ∷ u) [] e = absurd cc
cut_marked (suc k) (a ∷ u) (b ∷ v) e = ap₂ (λ (x : ℕ) (y : List ℕ). x ∷ y) (head_is e) (cut_marked k u v (tail_is e))

cut_unmarked : (P : ℕ → Type 0) → (P end_mark → ⊥) → (k : ℕ) (u v : List ℕ) → Every P u → Every P v
    → take k (u ++ end_mark ∷ []) ≡ take k (v ++ end_mark ∷ []) → take k u ≡ take k v
cut_unmarked P n zero u v p q e = refl
cut_unmarked P n (suc k) [] [] p q e = refl
cut_unmarked P n (suc k) [] (b ∷ v) p q e = absurd (n (subst P (sym (head_is e)) q.0))
cut_unmarked P n (suc k) (a ∷ u) [] p q e = absurd (n (subst P (head_is e) p.0))
cut_unmarked P n (suc k) (a ∷ u) (b ∷ v) p q e = ap₂ (λ (x : ℕ) (y : List ℕ). x ∷ y) (head_is e) (cut_unmarked P n k u v p.1 q.1 (tail_is e))

module _ (g : Grammar) (s : Sound g) where
  wf : WellFormed g
  wf = s.well_formed

  no_token_left : (r : ℕ) (ρ : Rule) → IsRule g r ρ → IsToken g ρ.left → ⊥
  no_token_left r ρ i t = omega (arith, t.1, wf.tokens_below, (wf.left_side r ρ i).0)

  -- LL(k) by what is reached
  abbrev ReachedLL : Type 0
  ReachedLL =
      (A : ℕ) (δ : List ℕ) → Reached g start_symbol A δ
      → (r₁ r₂ : ℕ) (ρ₁ ρ₂ : Rule) → IsRule g r₁ ρ₁ → IsRule g r₂ ρ₂ → ρ₁.left ≡ A → ρ₂.left ≡ A
      → (rs ss u v : List ℕ) → Run g (ρ₁.right ++ δ) rs u → Run g (ρ₂.right ++ δ) ss v → take g.k u ≡ take g.k v → r₁ ≡ r₂

  -- only symbols are behind what is reached
  behind_symbols : {A : ℕ} {δ : List ℕ} → Reached g start_symbol A δ → Every (IsSymbol g) δ
  behind_symbols (top e f) = subst (Every (IsSymbol g)) (sym f) tt
  behind_symbols {A} (down {δ = δ} r ρ α β d i l e f) =
      subst (Every (IsSymbol g)) (sym f) (every_append (IsSymbol g) β δ (right_symbols g s r ρ α (A ∷ β) i e).1.1 (behind_symbols d))

  ll_reached : IsLL g ↔ ReachedLL
  ll_reached = (
    λ ll A δ d r₁ r₂ ρ₁ ρ₂ i₁ i₂ l₁ l₂ rs ss u v a b e.
        let f = reached→form g (IsToken g) start_symbol (λ a t. t) (part_productive g s) d in
        let w : First g (ρ₂.right ++ δ) (take g.k u) = subst (First g (ρ₂.right ++ δ)) (sym e) (run→first g b) in
        ll f.x δ f.rs A f.terminals f.derived r₁ r₂ ρ₁ ρ₂ i₁ i₂ l₁ l₂ (take g.k u) (run→first g a) w,
    λ ll x δ qs A t f r₁ r₂ ρ₁ ρ₂ i₁ i₂ l₁ l₂ y a b.
        let d = form→reached g (IsToken g) start_symbol no_token_left qs x δ A f (λ t. no_token_left r₁ ρ₁ i₁ (subst (IsToken g) (sym l₁) t)) in
        let p : Every (IsSymbol g) δ = behind_symbols d in
        let (rs, u, (a', e)) = first→run g wf (every_append (IsSymbol g) ρ₁.right δ (wf.right_side r₁ ρ₁ i₁) p) a in
        let (ss, v, (b', h)) = first→run g wf (every_append (IsSymbol g) ρ₂.right δ (wf.right_side r₂ ρ₂ i₂) p) b in
        ll A δ d r₁ r₂ ρ₁ ρ₂ i₁ i₂ l₁ l₂ rs ss u v a' b' (sym e ∙ h),
  )

  -- an action and what it reads
  action_cut : (σ δ : List ℕ) (A : ℕ) (y : List ℕ) (r : ℕ) → σ ≡ δ ++ end_mark ∷ [] → Every (IsSymbol g) δ
      → (p : Produces g σ A y r) → Cut g (p.rule.right ++ δ) y
  action_cut σ δ A y r e ps p =
      let ω = p.rule.right in
      let w : SuffixWord g (ω ++ σ) y = (class_word g s (ω ++ σ) y (replaced g s A σ p.viable r p.rule p.is_rule p.left_is)).0 p.word in
      let whole : ω ++ σ ≡ (ω ++ δ) ++ end_mark ∷ [] = rw e (simp append_assoc) in
      let symbols = every_append (IsSymbol g) ω δ (wf.right_side r p.rule p.is_rule) ps in
      word→cut g s (ω ++ δ) y symbols (subst (λ (z : List ℕ). SuffixWord g z y) whole w)

  reached→deterministic : ReachedLL → Deterministic g
  reached→deterministic ll σ A y r r' f p p' = by (shape g s (viable→reached g s A σ p.viable))
    where
      by : Shape g s A σ → r ≡ r'
      by (start a n) = absurd (f.1 n)
      by (mark a n) = absurd (f.1 n)
      by (within δ e pA ps d) =
          let c = action_cut σ δ A y r e ps p in
          let c' = action_cut σ δ A y r' e ps p' in
          let u = c.string in
          let v = c'.string in
          let same = cut_unmarked (IsToken g) (λ t. token_no_mark g wf end_mark t refl) g.k u v (run_tokens g c.run) (run_tokens g c'.run) (sym c.cut ∙ c'.cut) in
          ll A δ d r r' p.rule p'.rule p.is_rule p'.is_rule p.left_is p'.left_is c.rules c'.rules u v c.run c'.run same

  reached_action : (A : ℕ) (δ : List ℕ) → Reached g start_symbol A δ → (r : ℕ) (ρ : Rule) → IsRule g r ρ → ρ.left ≡ A
      → (rs u y : List ℕ) → Run g (ρ.right ++ δ) rs u → y ≡ take g.k (u ++ end_mark ∷ [])
      → Suffix g (δ ++ end_mark ∷ []) × Produces g (δ ++ end_mark ∷ []) A y r
  reached_action A δ d r ρ i l rs u y run e =
      let σ : List ℕ = δ ++ end_mark ∷ [] in
      let v : Viable g (A ∷ σ) = reached→viable g s A σ (λ z. omega (arith, z, l, (wf.left_side r ρ i).0)) (reached_within g s d) in
      let w = cut→word g s (ρ.right ++ δ) y (record { rules = rs; string = u; run = run; cut = e }) in
      let w' : SuffixWord g (ρ.right ++ σ) y = subst (λ (z : List ℕ). SuffixWord g z y) (append_assoc ρ.right δ (end_mark ∷ [])) w in (
        (shrink g s A σ v, longer δ (end_mark ∷ []) (cons_nonempty end_mark [])),
        record { viable = v; rule = ρ; is_rule = i; left_is = l; word = (class_word g s (ρ.right ++ σ) y (replaced g s A σ v r ρ i l)).1 w' },
      )

  deterministic→reached : Deterministic g → ReachedLL
  deterministic→reached det A δ d r₁ r₂ ρ₁ ρ₂ i₁ i₂ l₁ l₂ rs ss u v a b e =
      let y : List ℕ = take g.k (u ++ end_mark ∷ []) in
      let (f, p) = reached_action A δ d r₁ ρ₁ i₁ l₁ rs u y a refl in
      let (f', p') = reached_action A δ d r₂ ρ₂ i₂ l₂ ss v y b (cut_marked g.k u v e) in
      det (δ ++ end_mark ∷ []) A y r₁ r₂ f p p'

  pub ll_is_deterministic : IsLL g ↔ Deterministic g
  ll_is_deterministic = Iff.trans ll_reached (reached→deterministic, deterministic→reached)

  module _ (T : Table) (c : IsCollection g T) where
    pub ll_without_conflict : IsLL g ↔ ((q : ℕ) → q < T.size → TwoFit g T q → ⊥)
    ll_without_conflict = Iff.trans ll_is_deterministic (Iff.symm (one_fits g s T (collection→map g s T c)))

    pub conflicts_decide : ((q : ℕ) × ((q < T.size) × TwoFit g T q)) ↔ (IsLL g → ⊥)
    conflicts_decide = (λ (q, (h, t)) ll. ll_without_conflict.0 ll q h t, by (dec_below (TwoFit g T) (dec_two_fit g s T) T.size))
      where
        by : Dec ((q : ℕ) × ((q < T.size) × TwoFit g T q)) → (IsLL g → ⊥) → (q : ℕ) × ((q < T.size) × TwoFit g T q)
        by (yes t) f = t
        by (no n) f = absurd (f (ll_without_conflict.1 (λ q h t. n (q, (h, t)))))

  pub accepted_are_ll : (T : Table) → Accepted g T → IsLL g
  accepted_are_ll T a = (ll_without_conflict T a.collection).1 a.one_fits
