-- What the code knows of its table, and of its stack and window, is hidden: a fact with at most one proof can be had from it, so that it rules
-- out what cannot be, gives numbers their bounds, and gives what is hidden of the next stack and window.
use Rattle.std.proofs.Common.{◌≡◌, ℕ, ◌<◌, ◌≤◌, List, [], ◌∷◌, ◌++◌, length, drop, None, refl, sym, ◌∙◌, ap, subst, subst₂, arith}
use mathlib.Core.HLevel.{⊥_prop, Unit-prop, ×_prop}
use mathlib.Core.Logic.{∥∥₁_elim, ∥∥₁_map, ∥∥₁_prop}
use mathlib.Core.Option.{some}
use Rattle.std.proofs.Math.Bridge.{le_prop}
use Rattle.std.proofs.Math.Nat.{ℕ_set}
use Rattle.source.specs.declared.token.Entry.{Entry}
use Rattle.source.specs.declared.token.Entry.TheVariants.{Given, End}
use Rattle.source.specs.declared.token.Token.{Token}
use Rattle.grammar.specs.Grammar.{Rule, Grammar, IsToken, IsRule, rule_at, Every, start_symbol, end_mark}
use Rattle.grammar.proofs.Lists.{head_is, every_append, every_front, every_map}
use Rattle.grammar.specs.Sound.{Sound}
use Rattle.grammar.specs.Table.{Table, Accepted}
use Rattle.frames.specs.Raw.{Raw, header_of}
use Rattle.table.specs.Contents.{rule_in, grammar_of, table_of}
use Rattle.table.specs.LookUps.{AfterDots, BeginsWord}
use Rattle.table.specs.Rows.{AcceptedFile}
use Rattle.table.specs.States.{answered}
use Rattle.table.proofs.Defining.{answered_none}
use Rattle.table.proofs.Numbering.{rule_there, rule_found}
use Rattle.table.proofs.Files.{sound_grammar, accepted_table, formed_file}
use Rattle.table.proofs.Formed.{Ranges, ranges}
use Rattle.reading.specs.Given.{symbols_of}
use Rattle.reading.specs.Parts.{ToldBySymbol}
use Rattle.reading.specs.Window.{Wants, Full, CanEnter}
use Rattle.reading.specs.Stack.{Pushes, Chosen, Placed}
use Rattle.reading.proofs.Deciding.{had, dec_word}
use Rattle.reading.proofs.Invariant.{symbols_more}
use Rattle.reading.proofs.Placing.{start_next, placed_word, placed_opening, placed_enter, placed_take, placed_announce, placed_some, placed_bottom, after_dots_exists, choice_exists}
use Rattle.reading.proofs.Fronts.{full_some}
use Rattle.reading.proofs.Pushing.{Pushed, pushes_there}

abbrev pub Held : Raw → List ℕ → List ℕ → Type 0
Held R s w = ∥ Placed (grammar_of R) (table_of R) s w ∥₁

every_prop : (P : ℕ → Type 0) → ((a : ℕ) → IsProp (P a)) → (w : List ℕ) → IsProp (Every P w)
every_prop P p [] = Unit-prop
every_prop P p (a ∷ w) = ×_prop (p a) (every_prop P p w)

-- no symbol of a window is 0
placed_symbols : (g : Grammar) (T : Table) {s w : List ℕ} → Placed g T s w → Every (λ a. 1 ≤ a) w
placed_symbols g T {w = w} p =
    let tokens = every_map (IsToken g) (λ a. 1 ≤ a) (λ a t. t.0) p.tokens p.derived.0 in
    let all = every_append (λ a. 1 ≤ a) p.tokens (end_mark ∷ []) tokens (omega arith, tt) in
    every_front (λ a. 1 ≤ a) w p.begins.rest (subst (Every (λ a. 1 ≤ a)) p.begins.splits all)

pub held_symbols : (R : Raw) {s w : List ℕ} → Held R s w → Every (λ a. 1 ≤ a) w
held_symbols R {w = w} h = ∥∥₁_elim h (every_prop _ (λ a. le_prop) w) (placed_symbols (grammar_of R) (table_of R))

module _ (R : Raw) (good : ∥ AcceptedFile R ∥₁) where
  abbrev g : Grammar
  g = grammar_of R

  abbrev T : Table
  T = table_of R

  -- what is had of the table, and of a stack and a window
  of_table : {P : Type 0} → IsProp P → (Sound g → Accepted g T → P) → P
  of_table prop f = ∥∥₁_elim good prop (λ a. f (sound_grammar R a) (accepted_table R a))

  of_held : {P : Type 0} {s w : List ℕ} → Held R s w → IsProp P → (Sound g → Accepted g T → Placed g T s w → P) → P
  of_held h prop f = of_table prop (λ sound ok. ∥∥₁_elim h prop (f sound ok))

  of_numbers : {P : Type 0} → IsProp P → (Ranges (header_of R) → P) → P
  of_numbers prop f = ∥∥₁_elim good prop (λ a. f (ranges R (formed_file R a)))

  pub few_symbols : g.k ≤ 2
  few_symbols = of_numbers le_prop (λ r. r.k_high)

  pub few_tokens : g.t ≤ 20
  few_tokens = of_numbers le_prop (λ r. r.t_high)

  pub some_symbol : 1 ≤ g.k
  some_symbol = of_numbers le_prop (λ r. r.k_low)

  pub told_by_symbol : (q : ℕ) (w : List ℕ) (e : Entry Token) → CanEnter g T q w e → ToldBySymbol e
  told_by_symbol q w (Given t) can = (can.0.0, omega (arith, can.0.1, few_tokens))
  told_by_symbol q w (End p) can = tt

  pub start_there : answered (T.next 0 start_symbol) ≡ None → ⊥
  start_there e = of_table ⊥_prop (λ sound ok. let (q, n) = start_next g sound T ok in answered_none _ e q n)

  -- of stacks and windows, one after the other
  pub held_opening : {q : ℕ} → T.next 0 start_symbol ≡ some q → Held R (q ∷ 0 ∷ []) []
  held_opening n = of_table ∥∥₁_prop (λ sound ok. ∣ placed_opening g sound T ok n ∣₁)

  pub held_enter : {s : List ℕ} (es fs : List (Entry Token)) (e : Entry Token) (q : ℕ) (below : List ℕ) → fs ≡ es ++ e ∷ [] → s ≡ q ∷ below
      → Held R s (symbols_of es) → Wants g (symbols_of es) → CanEnter g T q (symbols_of es) e → Held R s (symbols_of fs)
  held_enter es fs e q below more top h wants can =
      subst₂ (Held R) (sym top) (sym (ap symbols_of more ∙ symbols_more es (e ∷ [])))
      (of_held (subst (λ (s : List ℕ). Held R s (symbols_of es)) top h) ∥∥₁_prop (λ sound ok p. ∣ placed_enter g sound T ok e p wants can ∣₁))

  pub held_take : {q p a : ℕ} {below w : List ℕ} → Held R (q ∷ p ∷ below) w → Full g w → AfterDots g T q a → IsToken g a
      → Held R (p ∷ below) (drop 1 w)
  held_take h full dots t = of_held h ∥∥₁_prop (λ sound ok p. ∣ (placed_take g sound T ok p full dots t).0 ∣₁)

  pub held_announce : {q p A r : ℕ} {below w s' : List ℕ} → Held R (q ∷ p ∷ below) w → Chosen g T p below A w r s' → Held R s' w
  held_announce h chosen = of_held h ∥∥₁_prop (λ sound ok p. ∣ placed_announce g sound T ok p chosen ∣₁)

  -- of a stack
  pub held_some : (s w : List ℕ) → Held R s w → 0 < length s
  held_some [] w h = absurd (of_held h ⊥_prop (λ sound ok. placed_some g sound T ok))
  held_some (q ∷ s) w h = omega arith

  pub held_last : (s w : List ℕ) → Held R s w → length s ≤ 1 → s ≡ 0 ∷ []
  held_last [] w h l = absurd (omega (arith, held_some [] w h))
  held_last (q ∷ []) w h l = ap (λ (x : ℕ). x ∷ []) (of_held h (ℕ_set _ _) (λ sound ok. placed_bottom g sound T ok))
  held_last (q ∷ p ∷ s) w h l = absurd (omega arith)

  pub dots_there : {q p : ℕ} {below w : List ℕ} → Held R (q ∷ p ∷ below) w → ((A : ℕ) → AfterDots g T q A → ⊥) → ⊥
  dots_there h none = of_held h ⊥_prop (λ sound ok p. let (A, dots) = after_dots_exists g sound T ok p in none A dots)

  -- the window begins a word of the top
  pub held_word : {q : ℕ} {below w : List ℕ} → Held R (q ∷ below) w → BeginsWord T q w
  held_word {q} {w = w} h = had (dec_word T q w) (of_held h ∥∥₁_prop (λ sound ok p. ∣ placed_word g sound T ok p ∣₁))

  -- of a full window
  pub full_length : (w : List ℕ) → Full g w → 0 < length w
  full_length [] full = absurd (of_table ⊥_prop (λ sound ok. full_some g sound.well_formed full))
  full_length (a ∷ w) full = omega arith

  -- where a token stands after the dots, it stands first in the window
  token_is : {q p a : ℕ} {below w : List ℕ} (b : ℕ) (v : List ℕ) → Held R (q ∷ p ∷ below) w → Full g w → AfterDots g T q a → IsToken g a
      → w ≡ b ∷ v → b ≡ a
  token_is b v h full dots t e = of_held h (ℕ_set _ _) (λ sound ok p. head_is (sym e ∙ (placed_take g sound T ok p full dots t).1))

  pub token_first : {q p a : ℕ} {below : List ℕ} (es : List (Entry Token)) → Held R (q ∷ p ∷ below) (symbols_of es) → Full g (symbols_of es)
      → AfterDots g T q a → IsToken g a → (t : Token) × ((fs : List (Entry Token)) × (es ≡ Given t ∷ fs))
  token_first [] h full dots t = absurd (omega (arith, full_length [] full))
  token_first (Given b ∷ es) h full dots t = (b, (es, refl))
  token_first (End p ∷ es) h full dots t = absurd (omega (arith, token_is end_mark (symbols_of es) h full dots t refl, t.1, few_tokens))

  -- where no token stands there, a rule is chosen and the states for its right side exist
  module _ {q p A : ℕ} {below w : List ℕ} (h : Held R (q ∷ p ∷ below) w) (full : Full g w) (dots : AfterDots g T q A)
      (no_token : IsToken g A → ⊥) where
    pub hidden_choice : ∥ ((r : ℕ) × ((s' : List ℕ) × Chosen g T p below A w r s')) ∥₁
    hidden_choice = of_held h ∥∥₁_prop (λ sound ok x. ∣ choice_exists g sound T ok x full dots no_token ∣₁)

    pub choice_there : answered (T.choice p A w) ≡ None → ⊥
    choice_there e = ∥∥₁_elim hidden_choice ⊥_prop (λ (r, (s', c)). answered_none _ e r c.choice_is)

    rule_within : (r : ℕ) → T.choice p A w ≡ some r → r < (header_of R).p
    rule_within r e =
        ∥∥₁_elim hidden_choice le_prop (λ (r', (s', c)).
        let chosen : some r ≡ some r' = sym e ∙ c.choice_is in
        let same : r ≡ r' = cc in
        let (l, i) = rule_found R r' c.rule c.is_rule in
        omega (arith, same, l))

    pushed_there : (r : ℕ) (ρ : Rule) → T.choice p A w ≡ some r → IsRule g r ρ → ∥ Pushed T ρ.right (p ∷ below) ∥₁
    pushed_there r ρ e i =
        ∥∥₁_map hidden_choice (λ (r', (s', c)).
        let chosen : some r ≡ some r' = sym e ∙ c.choice_is in
        let same : r ≡ r' = cc in
        let rules : some c.rule ≡ some ρ = sym c.is_rule ∙ ap (rule_at g.rules) (sym same) ∙ i in
        let rule : c.rule ≡ ρ = cc in
        (s', subst (λ (τ : Rule). Pushes T τ.right (p ∷ below) s') rule c.pushed))

    pub chosen_there : (r : ℕ) → T.choice p A w ≡ some r → (s' : List ℕ) × Chosen g T p below A w r s'
    chosen_there r e =
        let i = rule_there R r (rule_within r e) in
        let (s', pushed) = pushes_there T (rule_in R r).right (p ∷ below) (pushed_there r (rule_in R r) e i) in
        (s', record { no_token = no_token; choice_is = e; rule = rule_in R r; is_rule = i; pushed = pushed })
