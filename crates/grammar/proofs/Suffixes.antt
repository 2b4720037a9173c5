-- Viable suffixes: their words, closure and successors of their items, what stands below the top. All but the empty one are symbols with
-- the end mark behind them, so their words are token strings with the end mark, cut; and what holds of items is read off the form by what
-- is reached.
use Rattle.std.proofs.Common.{◌≡◌, ℕ, ◌↔◌, List, [], ◌∷◌, ◌++◌, length, take, sym, refl, ap, ◌∙◌, subst, inl, inr, arith}
use Rattle.std.proofs.lemmas.List.{take_all}
use Rattle.grammar.specs.Grammar.{Rule, Grammar, IsNonterminal, IsSymbol, IsTerminal, IsRule, Every, WellFormed, start_symbol, end_mark}
use Rattle.grammar.specs.First.{DerivesTerminals, FirstWith}
use Rattle.grammar.specs.Sound.{Sound}
use Rattle.grammar.specs.Item.{start_rule, augmented, Item, raised, Before, IsKernel, Closure, of_kernel, of_rule, NextKernel}
use Rattle.grammar.specs.Viable.{LeftForm, Valid, Viable, SuffixWord, InV, Equivalent, ValidKernel, VKernel, Nonempty, Suffix}
use Rattle.grammar.proofs.Lists.{every_append, every_map}
use Rattle.grammar.proofs.Runs.{Run, done, run_nil, derived→run, run→derived}
use Rattle.grammar.proofs.First.{mark_stays, terminals_append, terminals_split, terminals→tokens, tokens→terminals, first_in_turn}
use Rattle.grammar.proofs.Augmented.{Nonzero, mark_nonzero, start_is_rule, rule_augmented, symbol_nonzero, left_apart, derives_augmented, derives_plain}
use Rattle.grammar.proofs.Left.{Reached, top, down, form→reached, reached→form}
use Rattle.grammar.proofs.Shapes.{productive, part_augmented}
use Rattle.grammar.proofs.Items.{Spot, spot_of, before_reached, before_one, spot_down, spot_up, closure_kernel, closure→spot, valid→spot, spot→valid, spot→closure, before_nonzero, some_kernel, suffix_shape}

pub cons_nonempty : (X : ℕ) (σ : List ℕ) → Nonempty (X ∷ σ)
cons_nonempty X σ e = cc

pub turned : {g : Grammar} {σ τ : List ℕ} → Equivalent g σ τ → Equivalent g τ σ
turned e i y = ((e i y).1, (e i y).0)

-- a token string from δ with the end mark, cut to y
pub record Cut (g : Grammar) (δ y : List ℕ) : Type 0 where
  pub rules : List ℕ
  pub string : List ℕ
  pub run : Run g δ rules string
  pub cut : y ≡ take g.k (string ++ end_mark ∷ [])

module _ (g : Grammar) (s : Sound g) where
  wf : WellFormed g
  wf = s.well_formed

  -- the start rule is of no use for symbols
  terminals_augmented : (α u : List ℕ) → DerivesTerminals g α u → DerivesTerminals (augmented g) α u
  terminals_augmented α u (t, (rs, d)) = (t, (rs, derives_augmented g rs α u d))

  terminals_plain : (α u : List ℕ) → Every Nonzero α → DerivesTerminals (augmented g) α u → DerivesTerminals g α u
  terminals_plain α u n (t, (rs, d)) = (t, (rs, derives_plain g wf rs α u n d))

  pub word→cut : (δ y : List ℕ) → Every (IsSymbol g) δ → SuffixWord g (δ ++ end_mark ∷ []) y → Cut g δ y
  word→cut δ y p (w, (d, e)) =
      let n = every_append Nonzero δ (end_mark ∷ []) (every_map (IsSymbol g) Nonzero (symbol_nonzero g wf) δ p) (mark_nonzero, tt) in
      let (u, v, (d₁, (t, (rs, d₂)), j)) = terminals_split g δ (end_mark ∷ []) w (terminals_plain (δ ++ end_mark ∷ []) w n d) in
      let (ss, run) = derived→run g (terminals→tokens g wf δ u p d₁) in
      record { rules = ss; string = u; run = run; cut = e ∙ ap (take g.k) (j ∙ ap (λ (x : List ℕ). u ++ x) (mark_stays g wf rs v d₂)) }

  pub cut→word : (δ y : List ℕ) → Cut g δ y → SuffixWord g (δ ++ end_mark ∷ []) y
  cut→word δ y c =
      let u = c.string in
      let d : DerivesTerminals g δ u = tokens→terminals g δ u (run→derived g c.run) in
      let m : List ℕ = end_mark ∷ [] in
      (u ++ m, (terminals_augmented (δ ++ m) (u ++ m) (terminals_append g δ m u m d ((inr refl, tt), ([], refl))), c.cut))

  -- a suffix without its end mark
  pub body : (σ : List ℕ) → Suffix g σ → (δ : List ℕ) × ((σ ≡ δ ++ end_mark ∷ []) × Every (IsSymbol g) δ)
  body σ ((i, v), ne) = suffix_shape g s σ ne i (valid→spot g s i σ v)

  pub suffixes_end : (σ : List ℕ) → Suffix g σ → (δ : List ℕ) × (σ ≡ δ ++ end_mark ∷ [])
  suffixes_end σ f = let (δ, (e, p)) = body σ f in (δ, e)

  pub spot→viable : {i : Item} {σ : List ℕ} → Spot g i σ → Viable g σ
  spot→viable {i} {σ} p = (i, spot→valid g s i σ p)

  pub kernel_of : (σ : List ℕ) → Suffix g σ → (i : Item) × (Spot g i σ × IsKernel g i)
  kernel_of σ ((i, v), ne) = some_kernel g s σ ne i (valid→spot g s i σ v)

  -- the item below the top
  pub below_top : (X : ℕ) (σ : List ℕ) → Viable g (X ∷ σ) → (i : Item) × (Spot g (raised i) σ × Before g (raised i) X)
  below_top X σ v = let (i, (p, k)) = kernel_of (X ∷ σ) (v, cons_nonempty X σ) in (i, spot_down g X σ i p k)

  pub shrink : (X : ℕ) (σ : List ℕ) → Viable g (X ∷ σ) → Viable g σ
  shrink X σ v = spot→viable (below_top X σ v).1.0

  pub some_word : (σ : List ℕ) → Suffix g σ → (y : List ℕ) × SuffixWord g σ y
  some_word σ f =
      let (δ, (e, p)) = body σ f in
      let (rs, w, d) = productive g s δ p in
      let y : List ℕ = take g.k (w ++ end_mark ∷ []) in
      (y, subst (λ (z : List ℕ). SuffixWord g z y) (sym e) (cut→word δ y (record { rules = rs; string = w; run = d; cut = refl })))

  pub valid_items_close : (σ : List ℕ) → Nonempty σ → (i : Item) → Valid g i σ ↔ Closure g (ValidKernel g σ) i
  valid_items_close σ ne i = (
    λ v. spot→closure g s (ValidKernel g σ) σ ne (λ j p k. (spot→valid g s j σ p, k)) i (valid→spot g s i σ v),
    λ c. spot→valid g s i σ (closure→spot g (ValidKernel g σ) σ (λ j m. valid→spot g s j σ m.0) c),
  )

  pub v_closes : (σ : List ℕ) → Nonempty σ → (i : Item) (y : List ℕ) → InV g σ i y ↔ Closure g (VKernel g σ y) i
  v_closes σ ne i y = (
    λ (v, w). spot→closure g s (VKernel g σ y) σ ne (λ j p k. ((spot→valid g s j σ p, w), k)) i (valid→spot g s i σ v),
    λ c. (spot→valid g s i σ (closure→spot g (VKernel g σ y) σ (λ j m. valid→spot g s j σ m.0.0) c), (closure_kernel g (VKernel g σ y) c).1.0.1),
  )

  pub kernels_follow : (X : ℕ) (σ : List ℕ) → Nonempty σ → (i : Item) → ValidKernel g (X ∷ σ) i ↔ NextKernel g (ValidKernel g σ) X i
  kernels_follow X σ ne i = (
    λ (v, k). let (p, b) = spot_down g X σ i (valid→spot g s i (X ∷ σ) v) k in ((valid_items_close σ ne (raised i)).0 (spot→valid g s (raised i) σ p), b),
    λ (c, b). let (p, k) = spot_up g X σ i (valid→spot g s (raised i) σ ((valid_items_close σ ne (raised i)).1 c)) b in (spot→valid g s i (X ∷ σ) p, k),
  )

  pub words_follow : (X : ℕ) (σ : List ℕ) → Viable g (X ∷ σ) → (y : List ℕ) → SuffixWord g (X ∷ σ) y ↔ FirstWith g (X ∷ []) (SuffixWord g σ) y
  words_follow X σ v y =
      let (i, (p, b)) = below_top X σ v in
      let t = first_in_turn (augmented g) (X ∷ []) σ y in (
        λ f. let (u, w, (d, x, e)) = t.0 f in (u, w, (terminals_plain (X ∷ []) u (before_nonzero g s X b, tt) d, x, e)),
        λ (u, w, (d, x, e)). t.1 (u, w, (terminals_augmented (X ∷ []) u d, x, e)),
      )

  -- what is reached is on top of a suffix
  pub viable→reached : (A : ℕ) (σ : List ℕ) → Viable g (A ∷ σ) → Reached (augmented g) 0 A σ
  viable→reached A σ v = let (i, (p, b)) = below_top A σ v in before_reached g p b

  pub reached→viable : (A : ℕ) (σ : List ℕ) → Nonzero A → Reached (augmented g) 0 A σ → Viable g (A ∷ σ)
  reached→viable A σ n (top e f) = absurd (n e)
  reached→viable A σ n (down {δ = δ} r ρ α β d i l e f) =
      spot→viable (spot_of g r ρ α (A ∷ β) δ i e l d (ap (λ (z : List ℕ). A ∷ z) f))

  pub replaced : (A : ℕ) (σ : List ℕ) → Viable g (A ∷ σ) → (r : ℕ) (ρ : Rule) → IsRule g r ρ → ρ.left ≡ A → Viable g (ρ.right ++ σ)
  replaced A σ v r ρ i l =
      spot→viable (spot_of g r ρ [] ρ.right σ (rule_augmented g r ρ i) refl l (viable→reached A σ v) refl)

  pub tops_are_leftmost : (A : ℕ) (σ : List ℕ) → IsNonterminal g A → Viable g (A ∷ σ) ↔ ((x : List ℕ) × (Every (IsTerminal g) x × LeftForm g (x ++ A ∷ σ)))
  tops_are_leftmost A σ n = (
    λ v.
        let f = reached→form (augmented g) (IsTerminal g) 0 (λ a t. inl t) (part_augmented g s) (viable→reached A σ v) in
        (f.x, (f.terminals, (f.rs, f.derived))),
    λ (x, (t, (rs, d))). reached→viable A σ (λ e. omega (arith, n.0, e)) (form→reached (augmented g) (IsTerminal g) 0 (left_apart g wf) rs x σ A d no_terminal),
  )
    where
      no_terminal : IsTerminal g A → ⊥
      no_terminal (inl t) = omega (arith, n.0, t.1, wf.tokens_below)
      no_terminal (inr e) = omega (arith, n.0, e)

  -- the end mark alone
  pub mark_suffix : Suffix g (end_mark ∷ [])
  mark_suffix = (
    spot→viable (spot_of g (length g.rules) start_rule (start_symbol ∷ []) (end_mark ∷ []) [] (start_is_rule g) refl refl (top refl refl) refl),
    cons_nonempty end_mark [],
  )

  pub mark_words : (y : List ℕ) → SuffixWord g (end_mark ∷ []) y ↔ (y ≡ end_mark ∷ [])
  mark_words y = (
    λ w. let c = word→cut [] y tt w in c.cut ∙ ap (λ (z : List ℕ). take g.k (z ++ end_mark ∷ [])) (run_nil g c.run).1 ∙ short,
    λ e. cut→word [] y (record { rules = []; string = []; run = done; cut = e ∙ sym short }),
  )
    where
      short : take g.k (end_mark ∷ []) ≡ end_mark ∷ []
      short = take_all g.k (end_mark ∷ []) wf.some_lookahead

  -- of equivalent suffixes, one has the words and the items of the other
  pub equivalent_words : (σ τ : List ℕ) → Viable g σ → Equivalent g σ τ → (y : List ℕ) → SuffixWord g σ y → SuffixWord g τ y
  equivalent_words σ τ (i, v) e y w = ((e i y).0 (v, w)).1

  pub equivalent_spots : (σ τ : List ℕ) → Suffix g σ → Equivalent g σ τ → (i : Item) → Spot g i σ → Spot g i τ
  equivalent_spots σ τ f e i p = let (y, w) = some_word σ f in valid→spot g s i τ ((e i y).0 (spot→valid g s i σ p, w)).0

  -- they go on with the same symbols, with the same items and the same words
  follow_viable : (σ τ : List ℕ) → Suffix g σ → Equivalent g σ τ → (X : ℕ) → Viable g (X ∷ σ) → Viable g (X ∷ τ)
  follow_viable σ τ f e X v = let (i, (p, b)) = below_top X σ v in spot→viable (spot_up g X τ i (equivalent_spots σ τ f e (raised i) p) b).0

  follow_kernel : (σ τ : List ℕ) → Suffix g σ → Equivalent g σ τ → (X : ℕ) (i : Item) → ValidKernel g (X ∷ σ) i → ValidKernel g (X ∷ τ) i
  follow_kernel σ τ f e X i (v, k) =
      let (p, b) = spot_down g X σ i (valid→spot g s i (X ∷ σ) v) k in
      let (q, k') = spot_up g X τ i (equivalent_spots σ τ f e (raised i) p) b in
      (spot→valid g s i (X ∷ τ) q, k')

  pub closure_over : {K L : Item → Type 0} → ((i : Item) → K i → L i) → {i : Item} → Closure g K i → Closure g L i
  closure_over f {i} (of_kernel m) = of_kernel (f i m)
  closure_over f (of_rule ρ c b i l) = of_rule ρ (closure_over f c) b i l

  follow_v : (σ τ : List ℕ) → Suffix g σ → Equivalent g σ τ → (X : ℕ) → Viable g (X ∷ σ) → (i : Item) (y : List ℕ) → InV g (X ∷ σ) i y → InV g (X ∷ τ) i y
  follow_v σ τ f e X v i y (p, w) = (
    (valid_items_close (X ∷ τ) (cons_nonempty X τ) i).1 (closure_over (follow_kernel σ τ f e X) ((valid_items_close (X ∷ σ) (cons_nonempty X σ) i).0 p)),
    let (u, z, (d, x, c)) = (words_follow X σ v y).0 w in (words_follow X τ (follow_viable σ τ f e X v) y).1 (u, z, (d, equivalent_words σ τ f.0 e z x, c)),
  )

  pub equivalents_follow : (σ τ : List ℕ) → Suffix g σ → Suffix g τ → Equivalent g σ τ → (X : ℕ) → Viable g (X ∷ σ) → Viable g (X ∷ τ) × Equivalent g (X ∷ σ) (X ∷ τ)
  equivalents_follow σ τ f h e X v = let v' = follow_viable σ τ f e X v in (v', λ i y. (follow_v σ τ f e X v i y, follow_v τ σ h (turned e) X v' i y))

  pub equivalents_agree : (X Y : ℕ) (σ τ : List ℕ) → Viable g (X ∷ σ) → Viable g (Y ∷ τ) → Equivalent g (X ∷ σ) (Y ∷ τ) → X ≡ Y
  equivalents_agree X Y σ τ v v' e =
      let f : Suffix g (X ∷ σ) = (v, cons_nonempty X σ) in
      let (i, (p, k)) = kernel_of (X ∷ σ) f in
      before_one g (raised i) (spot_down g X σ i p k).1 (spot_down g Y τ i (equivalent_spots (X ∷ σ) (Y ∷ τ) f e i p) k).1
