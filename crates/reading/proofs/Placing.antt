-- What holds of the stack and the window of every reading, for the code: it holds at the opening, when an entry is let in, when a token is taken
-- and when a rule is announced; and wherever it holds every look-up of a reading finds something.
use Rattle.std.proofs.Common.{◌≡◌, ℕ, ◌<◌, ◌≤◌, List, [], ◌∷◌, ◌++◌, length, take, drop, refl, sym, ap, ◌∙◌, subst, arith, length-append}
use Rattle.std.proofs.lemmas.List.{take_all}
use mathlib.Core.Option.{some}
use mathlib.Core.List.{Memᴰ}
use Rattle.source.specs.declared.token.Entry.{Entry}
use Rattle.source.specs.declared.token.Entry.TheVariants.{Given, End}
use Rattle.source.specs.declared.token.Token.{Token}
use Rattle.grammar.specs.Grammar.{Rule, Grammar, IsToken, IsNonterminal, IsRule, WellFormed, start_symbol, end_mark}
use Rattle.grammar.specs.Sound.{Sound}
use Rattle.grammar.specs.Item.{start_rule}
use Rattle.grammar.specs.Table.{Table, Word, After, Fits, Accepted}
use Rattle.grammar.specs.Viable.{Viable}
use Rattle.grammar.specs.Canonical.{StateMap}
use Rattle.grammar.proofs.Lists.{head_is, tail_is}
use Rattle.grammar.proofs.Runs.{Run, run_tokens, run_nil, same_symbols, derived→run, run→derived}
use Rattle.grammar.proofs.Augmented.{start_is_rule}
use Rattle.grammar.proofs.Left.{top}
use Rattle.grammar.proofs.Items.{spot_of}
use Rattle.grammar.proofs.Suffixes.{spot→viable, mark_suffix}
use Rattle.grammar.proofs.Canonical.{collection→map}
use Rattle.table.specs.LookUps.{AfterDots, BeginsWith, BeginsWord}
use Rattle.reading.specs.Given.{symbol_of}
use Rattle.reading.specs.Window.{Wants, Full, CanEnter}
use Rattle.reading.specs.Stack.{Pushes, Chosen, Path, lowest, upon, Placed}
use Rattle.reading.proofs.Fronts.{begins_self, begins_nil, begins_trans, begins_same, begins_cut, begins_uncut, full_is_cut, full_some}
use Rattle.reading.proofs.Heads.{rule_one, run_rule, run_token}
use Rattle.reading.proofs.Pathways.{pushed_path, pushes_of, after_unique, pushed_after, path_top, path_within, path_cut, path_word, Topped, topped, some_top, after_dots_one, next_along}

module _ (g : Grammar) (s : Sound g) (T : Table) (ok : Accepted g T) where
  wf : WellFormed g
  wf = s.well_formed

  m : StateMap g T
  m = collection→map g s T ok.collection

  -- what a word of the top begins with is placed, and back
  pub word_placed : {q : ℕ} {below σ w : List ℕ} → Path T (q ∷ below) σ → length w ≤ g.k → BeginsWord T q w → Placed g T (q ∷ below) w
  word_placed {σ = σ} d h (y, (x, b)) =
      let c = path_cut g s T m d y x in
      record {
        string = σ;
        path = d;
        short = h;
        tokens = c.string;
        derived = run→derived g c.run;
        begins = begins_trans (begins_uncut g.k (c.string ++ end_mark ∷ []) c.cut) b;
      }

  pub placed_word : {q : ℕ} {below w : List ℕ} → Placed g T (q ∷ below) w → BeginsWord T q w
  placed_word {w = w} p =
      let (rs, run) = derived→run g p.derived in
      let y : List ℕ = take g.k (p.tokens ++ end_mark ∷ []) in
      (y, (path_word g s T m p.path y (record { rules = rs; string = p.tokens; run = run; cut = refl }), begins_cut g.k w p.short p.begins))

  -- 1. at the opening
  pub start_next : (q : ℕ) × (T.next 0 start_symbol ≡ some q)
  start_next =
      let σ : List ℕ = start_symbol ∷ end_mark ∷ [] in
      let v : Viable g σ = spot→viable g s (spot_of g (length g.rules) start_rule [] σ [] (start_is_rule g) refl refl (top refl refl) refl) in
      let n = (m.successors (end_mark ∷ []) (mark_suffix g s) start_symbol (m.state σ)).1 (v, refl) in
      (m.state σ, ap (λ (z : ℕ). T.next z start_symbol) (sym m.first) ∙ n)

  pub placed_opening : {q : ℕ} → T.next 0 start_symbol ≡ some q → Placed g T (q ∷ 0 ∷ []) []
  placed_opening n =
      let (u, d) = s.productive start_symbol (omega arith, omega (arith, wf.some_nonterminal)) in
      record {
        string = start_symbol ∷ [];
        path = upon lowest n;
        short = omega arith;
        tokens = u;
        derived = d;
        begins = begins_nil (u ++ end_mark ∷ []);
      }

  -- 2. when an entry is let in
  entry_word : (q : ℕ) (w : List ℕ) (e : Entry Token) → CanEnter g T q w e → BeginsWord T q (w ++ symbol_of e ∷ [])
  entry_word q w (Given t) h = h.1
  entry_word q w (End p) h = h

  pub placed_enter : {q : ℕ} {below w : List ℕ} (e : Entry Token) → Placed g T (q ∷ below) w → Wants g w → CanEnter g T q w e
      → Placed g T (q ∷ below) (w ++ symbol_of e ∷ [])
  placed_enter {q} {w = w} e p wants h = word_placed p.path (omega (arith, wants.0, length-append w (symbol_of e ∷ []))) (entry_word q w e h)

  -- 3. when a token is taken
  pub placed_take : {q p a : ℕ} {below w : List ℕ} → Placed g T (q ∷ p ∷ below) w → Full g w → AfterDots g T q a → IsToken g a
      → Placed g T (p ∷ below) (drop 1 w) × (w ≡ a ∷ drop 1 w)
  placed_take {q} {p} {a} {below} {w} x f dots t = by w x.begins x.short f
    where
      y : Topped g s T m a q p below x.string
      y = topped g s T m x.path dots

      by : (w : List ℕ) → BeginsWith (x.tokens ++ end_mark ∷ []) w → length w ≤ g.k → Full g w
          → Placed g T (p ∷ below) (drop 1 w) × (w ≡ a ∷ drop 1 w)
      by [] b h f = absurd (full_some g wf f)
      by (c ∷ w) b h f =
          let (rs, run) = derived→run g x.derived in
          let (v, (e, rest)) = run_token g wf t (same_symbols g y.string_is run) in
          let first : BeginsWith (a ∷ (v ++ end_mark ∷ [])) (c ∷ w) = begins_same (ap (λ (z : List ℕ). z ++ end_mark ∷ []) e) b in (
            record {
              string = y.rest;
              path = y.path;
              short = omega (arith, h);
              tokens = v;
              derived = run→derived g rest;
              begins = record { rest = first.rest; splits = tail_is first.splits };
            },
            ap (λ (z : ℕ). z ∷ w) (sym (head_is first.splits)),
          )

  -- 4. when a rule is announced
  pub below_top : {q p : ℕ} {below σ : List ℕ} → Path T (q ∷ p ∷ below) σ → (τ : List ℕ) × Path T (p ∷ below) τ
  below_top (upon {σ = σ} d n) = (σ, d)

  -- a choice names a rule that fits, and successors exist along its right side
  pub choice_fits : {q p A r : ℕ} {below w y : List ℕ} → Placed g T (q ∷ p ∷ below) w → T.choice p A y ≡ some r → Fits g T p A y r
  choice_fits {p = p} {A = A} {r = r} {y = y} x c = let (τ, d) = below_top x.path in (ok.choices p (path_top g s T m d) A y r).0 c

  pub placed_announce : {q p A r : ℕ} {below w s' : List ℕ} → Placed g T (q ∷ p ∷ below) w → Chosen g T p below A w r s' → Placed g T s' w
  placed_announce {p = p} {A = A} {r = r} {below = below} {w = w} {s' = s'} x c =
      let ω = c.rule.right in
      let (τ, d) = below_top x.path in
      let fits : Fits g T p A w r = choice_fits x c.choice_is in
      let same : fits.rule ≡ c.rule = rule_one g r fits.is_rule c.is_rule in
      let (q', (below', (a, e))) = pushed_after T ω p below c.pushed in
      let top_is : fits.state ≡ q' = after_unique T ω p fits.state q' (subst (λ (ρ : Rule). After T p ρ.right fits.state) same fits.after_is) a in
      let word : Word T q' w = subst (λ (z : ℕ). Word T z w) top_is fits.word in
      let d' : Path T (q' ∷ below') (ω ++ τ) = subst (λ (z : List ℕ). Path T z (ω ++ τ)) e (pushed_path T ω d c.pushed) in
      subst (λ (z : List ℕ). Placed g T z w) (sym e) (word_placed d' x.short (w, (word, begins_self w)))

  -- the rule that a run uses first fits the full window
  pub fits_of_run : {q p A : ℕ} {below σ w : List ℕ} (r : ℕ) (ρ : Rule) {rs u : List ℕ} → Path T (p ∷ below) σ → T.next p A ≡ some q
      → IsRule g r ρ → ρ.left ≡ A → Run g (ρ.right ++ σ) rs u → w ≡ take g.k (u ++ end_mark ∷ []) → Fits g T p A w r
  fits_of_run {q} {p} {A} {below} {w = w} r ρ {rs} {u} d n i l run e =
      let (x, a) = next_along g s T m r ρ d n i l in
      let (below', pushes) = pushes_of T ρ.right p below x a in
      record {
        nonterminal = subst (IsNonterminal g) l (wf.left_side r ρ i);
        has_next = (q, n);
        rule = ρ;
        is_rule = i;
        left_is = l;
        state = x;
        after_is = a;
        word = path_word g s T m (pushed_path T ρ.right d pushes) w (record { rules = rs; string = u; run = run; cut = e });
      }

  pub choice_exists : {q p A : ℕ} {below w : List ℕ} → Placed g T (q ∷ p ∷ below) w → Full g w → AfterDots g T q A → (IsToken g A → ⊥)
      → (r : ℕ) × ((s' : List ℕ) × Chosen g T p below A w r s')
  choice_exists {p = p} {A = A} {below = below} {w = w} x f dots no_token =
      let y = topped g s T m x.path dots in
      let (rs, run) = derived→run g x.derived in
      let by = run_rule g no_token (same_symbols g y.string_is run) in
      let cut = full_is_cut g wf w x.tokens (run_tokens g run) x.short f x.begins in
      let fits = fits_of_run by.number by.applied y.path y.next by.is_rule by.left_is by.rest cut in
      let (below', pushes) = pushes_of T fits.rule.right p below fits.state fits.after_is in (
        by.number,
        (
          fits.state ∷ below',
          record {
            no_token = no_token;
            choice_is = (ok.choices p (path_top g s T m y.path) A w by.number).1 fits;
            rule = fits.rule;
            is_rule = fits.is_rule;
            pushed = pushes;
          },
        ),
      )

  -- along the right side of a rule that fits, where the states for its back stand on the stack, the next symbol has a successor
  pub next_there : (front : List ℕ) (X : ℕ) (back : List ℕ) (p q t : ℕ) (below rest : List ℕ) → After T p (front ++ X ∷ back) q
      → Pushes T back (p ∷ below) (t ∷ rest) → (y : ℕ) × (T.next t X ≡ some y)
  next_there [] X back p q t below rest (x, a, n) pushes =
      let (x', (below', (a', e))) = pushed_after T back p below pushes in
      (q, ap (λ (z : ℕ). T.next z X) (head_is e ∙ after_unique T back p x' x a' a) ∙ n)
  next_there (Y ∷ front) X back p q t below rest (x, a, n) pushes = next_there front X back p x t below rest a pushes

  -- 5. of every reading
  pub placed_within : {stack w : List ℕ} → Placed g T stack w → (q : ℕ) → Memᴰ q stack → q < T.size
  placed_within p = path_within g s T m p.path

  pub placed_top : {q : ℕ} {below w : List ℕ} → Placed g T (q ∷ below) w → q < T.size
  placed_top p = path_top g s T m p.path

  pub placed_below : {q p : ℕ} {below w : List ℕ} → Placed g T (q ∷ p ∷ below) w → p < T.size
  placed_below x = let (τ, d) = below_top x.path in path_top g s T m d

  pub pushed_top : {q p : ℕ} {below w : List ℕ} (ω : List ℕ) (t : ℕ) (rest : List ℕ) → Placed g T (q ∷ p ∷ below) w
      → Pushes T ω (p ∷ below) (t ∷ rest) → t < T.size
  pushed_top ω t rest x pushes = let (τ, d) = below_top x.path in path_top g s T m (pushed_path T ω d pushes)

  pub after_dots_exists : {q p : ℕ} {below w : List ℕ} → Placed g T (q ∷ p ∷ below) w → (A : ℕ) × AfterDots g T q A
  after_dots_exists p = some_top g s T m p.path

  pub placed_dots : {q A B : ℕ} {below w : List ℕ} → Placed g T (q ∷ below) w → AfterDots g T q A → AfterDots g T q B → A ≡ B
  placed_dots p = after_dots_one g s T m (placed_top p)

  bottom : {q : ℕ} {σ : List ℕ} → Path T (q ∷ []) σ → (q ≡ 0) × (σ ≡ [])
  bottom lowest = (refl, refl)

  pub placed_bottom : {q : ℕ} {w : List ℕ} → Placed g T (q ∷ []) w → q ≡ 0
  placed_bottom p = (bottom p.path).0

  no_path : {σ : List ℕ} → Path T [] σ → ⊥
  no_path d = elim d [ ]

  pub placed_some : {w : List ℕ} → Placed g T [] w → ⊥
  placed_some p = no_path p.path

  pub placed_full_finish : {q : ℕ} {w : List ℕ} → Placed g T (q ∷ []) w → Full g w → w ≡ end_mark ∷ []
  placed_full_finish {w = w} p f =
      let (rs, run) = derived→run g p.derived in
      let none : p.tokens ≡ [] = (run_nil g (same_symbols g (bottom p.path).1 run)).1 in
      full_is_cut g wf w p.tokens (run_tokens g run) p.short f p.begins
      ∙ ap (λ (u : List ℕ). take g.k (u ++ end_mark ∷ [])) none
      ∙ take_all g.k (end_mark ∷ []) wf.some_lookahead
