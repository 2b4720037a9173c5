-- Steps are one. A step asks for entries while it wants them and can let them in, so two steps from one state with one source ask for the same ones;
-- and what is done with them then is told by the stack, the symbol after the dots of its top, the choice and the source.
use Rattle.std.proofs.Common.{◌≡◌, ℕ, suc, ◌<◌, ◌≤◌, ◌⊎◌, List, [], ◌∷◌, ◌++◌, length, Some, Ok, Err, Result, refl, sym, ap, ◌∙◌, subst, ap₂, subst₂, inl, inr, append_assoc, append-nil, arith}
use Rattle.std.proofs.Math.Option.{some-injective}
use Rattle.source.specs.declared.fault.Faulted.{Faulted}
use Rattle.source.specs.declared.token.Entry.{Entry}
use Rattle.source.specs.declared.token.Entry.TheVariants.{Given}
use Rattle.source.specs.declared.token.Token.{Token}
use Rattle.source.specs.Meaning.{Meaning, answer, rest}
use Rattle.grammar.specs.Grammar.{Rule, Grammar, rule_at, IsToken}
use Rattle.grammar.specs.Sound.{Sound}
use Rattle.grammar.specs.Table.{Table, Accepted}
use Rattle.grammar.proofs.Lists.{head_is, tail_is}
use Rattle.grammar.proofs.Canonical.{collection→map}
use Rattle.table.specs.LookUps.{AfterDots}
use Rattle.reading.specs.declared.answer.Ending.{Ending}
use Rattle.reading.specs.declared.answer.Ending.TheVariants as ending_by
use Rattle.reading.specs.declared.answer.Move.{Move}
use Rattle.reading.specs.declared.answer.Move.TheVariants.{Announce, Take, Finish}
use Rattle.reading.specs.declared.answer.ReadRefusal.{ReadRefusal}
use Rattle.reading.specs.declared.answer.ReadRefusal.TheVariants.{Unfit, StackFull, MovesSpent, Source, Over}
use Rattle.reading.specs.declared.answer.Standing.{Standing}
use Rattle.reading.specs.declared.answer.Standing.TheVariants as standing
use Rattle.reading.specs.Given.{Answer, Gave, as_answers, symbol_of, symbols_of, place_of}
use Rattle.reading.specs.State.{State, most_moves, most_states, filled, finished, taken, announced, ended}
use Rattle.reading.specs.Window.{Wants, Full, CanEnter, Enter}
use Rattle.reading.specs.Stack.{Pushes, Chosen}
use Rattle.reading.specs.Step as step
use Rattle.reading.specs.Step.{Step, Asks, Fills, Lacks}
use Rattle.reading.specs.Run.{Course, move_first, Moves, enough, over as over_move, move, stop, Run, late, short, runs}
use Rattle.reading.specs.Theorems.{StepsAreOne, MovesAreOne, RunsAreOne}
use Rattle.reading.proofs.Pathways.{after_dots_one}
use Rattle.reading.proofs.Pushing.{pushes_one}
use Rattle.reading.proofs.Placing.{placed_top}
use Rattle.reading.proofs.Invariant.{symbols_more}
use Rattle.reading.proofs.Stepping.{PlacedState, placed_filled, placed_step}

-- what a step came to
record Done (F : Type 0) : Type 0 where
  gave : List (Answer F)
  answers : Result Move (ReadRefusal F)
  state : State
  meaning : Meaning F

-- when it had let in some entries before
abbrev after : {F : Type 0} → List (Entry Token) → Done F → Done F
after es d = record { gave = as_answers es ++ d.gave; answers = d.answers; state = d.state; meaning = d.meaning }

pub full_wants : (g : Grammar) {w : List ℕ} → Full g w → Wants g w → ⊥
full_wants g (inl h) wants = omega (arith, wants.0)
full_wants g (inr e) wants = wants.1 e

same_ending : {x : Standing} {e e' : Ending} → x ≡ standing.Over e → x ≡ standing.Over e' → e ≡ e'
same_ending h h' = cc

module _ (g : Grammar) (T : Table) where
  -- one rule is chosen, with one stack
  record SameChoice (r₁ r₂ : ℕ) (s₁ s₂ : List ℕ) : Type 0 where
    number : r₁ ≡ r₂
    stack : s₁ ≡ s₂

  same_choice : {p A B r₁ r₂ : ℕ} {below y s₁ s₂ : List ℕ} → A ≡ B → Chosen g T p below A y r₁ s₁ → Chosen g T p below B y r₂ s₂
      → SameChoice r₁ r₂ s₁ s₂
  same_choice {p} {r₁ = r₁} {r₂ = r₂} {below = below} {y = y} {s₁ = s₁} {s₂ = s₂} e c d =
      let n = some-injective r₁ r₂ (sym c.choice_is ∙ ap (λ (X : ℕ). T.choice p X y) e ∙ d.choice_is) in
      let ρ : c.rule ≡ d.rule = some-injective c.rule d.rule (sym c.is_rule ∙ ap (rule_at g.rules) n ∙ d.is_rule) in
      record {
        number = n;
        stack = pushes_one T d.rule.right (p ∷ below) s₁ s₂ (subst (λ (τ : Rule). Pushes T τ.right (p ∷ below) s₁) ρ c.pushed) d.pushed;
      }

  module _ {F : Type 0} where
    -- what is done with a full window
    data Acts : ℕ → List ℕ → State → Meaning F → Done F → Type 0 where
      finish : {s : State} {m : Meaning F} → Acts 0 [] s m (record { gave = []; answers = Ok Finish; state = finished s; meaning = m })
      take : {q p a : ℕ} {below : List ℕ} {s : State} {m : Meaning F} {t : Token} {behind : List (Entry Token)}
          → AfterDots g T q a → IsToken g a → s.window ≡ Given t ∷ behind
          → Acts q (p ∷ below) s m (record { gave = []; answers = Ok (Take t); state = taken s; meaning = m })
      announce : {q p A r : ℕ} {below stack : List ℕ} {s : State} {m : Meaning F}
          → AfterDots g T q A → Chosen g T p below A (symbols_of s.window) r stack → length stack ≤ most_states
          → Acts q (p ∷ below) s m (record { gave = []; answers = Ok (Announce r); state = announced s stack; meaning = m })
      too_deep : {q p A r : ℕ} {below stack : List ℕ} {s : State} {m : Meaning F}
          → AfterDots g T q A → Chosen g T p below A (symbols_of s.window) r stack → most_states < length stack
          → Acts q (p ∷ below) s m (record { gave = []; answers = Err StackFull; state = ended s ending_by.StackFull; meaning = m })

    -- and with what the source answers otherwise
    data Halts (q : ℕ) (s : State) (m : Meaning F) : Done F → Type 0 where
      refuse : {e : Entry Token} → answer m ≡ Ok e → (CanEnter g T q (symbols_of s.window) e → ⊥)
          → Halts q s m (record { gave = Ok e ∷ []; answers = Err (Unfit (place_of e)); state = ended s ending_by.Unfit; meaning = rest m })
      fail : {f : Faulted F} → answer m ≡ Err f
          → Halts q s m (record { gave = Err f ∷ []; answers = Err (Source f); state = ended s ending_by.SourceFault; meaning = rest m })

    acts_one : {q : ℕ} {below : List ℕ} {s : State} {m : Meaning F} {d d' : Done F} → ((A B : ℕ) → AfterDots g T q A → AfterDots g T q B → A ≡ B)
        → Acts q below s m d → Acts q below s m d' → d ≡ d'
    acts_one one finish finish = refl
    acts_one {s = s} {m = m} one (take {t = t} x i e) (take {t = t'} x' i' e') =
        let same : t ≡ t' = cc in
        ap (λ (z : Token). record { gave = []; answers = Ok (Take z); state = taken s; meaning = m }) same
    acts_one one (take {a = a} x i e) (announce {A = A} x' c l) = absurd (c.no_token (subst (IsToken g) (one a A x x') i))
    acts_one one (take {a = a} x i e) (too_deep {A = A} x' c l) = absurd (c.no_token (subst (IsToken g) (one a A x x') i))
    acts_one one (announce {A = A} x c l) (take {a = a} x' i e) = absurd (c.no_token (subst (IsToken g) (one a A x' x) i))
    acts_one {s = s} {m = m} one (announce {A = A} x c l) (announce {A = B} x' c' l') =
        let h = same_choice (one A B x x') c c' in
        ap₂ (λ (r : ℕ) (z : List ℕ). record { gave = []; answers = Ok (Announce r); state = announced s z; meaning = m }) h.number h.stack
    acts_one one (announce {A = A} x c l) (too_deep {A = B} x' c' l') =
        absurd (omega (arith, l, l', ap length (same_choice (one A B x x') c c').stack))
    acts_one one (too_deep {A = A} x c l) (take {a = a} x' i e) = absurd (c.no_token (subst (IsToken g) (one a A x' x) i))
    acts_one one (too_deep {A = A} x c l) (announce {A = B} x' c' l') =
        absurd (omega (arith, l, l', ap length (same_choice (one A B x x') c c').stack))
    acts_one one (too_deep x c l) (too_deep x' c' l') = refl

    same_ok : {x y : Entry Token} → ◌≡◌ {A = Answer F} (Ok x) (Ok y) → x ≡ y
    same_ok e = cc

    same_err : {x y : Faulted F} → ◌≡◌ {A = Answer F} (Err x) (Err y) → x ≡ y
    same_err e = cc

    halts_one : {q : ℕ} {s : State} {m : Meaning F} {d d' : Done F} → Halts q s m d → Halts q s m d' → d ≡ d'
    halts_one {s = s} {m = m} (refuse {e = e} h n) (refuse {e = e'} h' n') =
        ap
        (λ (z : Entry Token). record { gave = Ok z ∷ []; answers = Err (Unfit (place_of z)); state = ended s ending_by.Unfit; meaning = rest m })
        (same_ok (sym h ∙ h'))
    halts_one (refuse h n) (fail h') = absurd cc
    halts_one (fail h) (refuse h' n') = absurd cc
    halts_one {s = s} {m = m} (fail {f = f} h) (fail {f = f'} h') =
        ap
        (λ (z : Faulted F). record { gave = Err z ∷ []; answers = Err (Source z); state = ended s ending_by.SourceFault; meaning = rest m })
        (same_err (sym h ∙ h'))

    abbrev Does : ℕ → List ℕ → State → Meaning F → Done F → Type 0
    Does q below s m d = (Full g (symbols_of s.window) × Acts q below s m d) ⊎ (Wants g (symbols_of s.window) × Halts q s m d)

    does_one : {q : ℕ} {below : List ℕ} {s : State} {m : Meaning F} {d d' : Done F} → ((A B : ℕ) → AfterDots g T q A → AfterDots g T q B → A ≡ B)
        → Does q below s m d → Does q below s m d' → d ≡ d'
    does_one one (inl (f, a)) (inl (f', a')) = acts_one one a a'
    does_one one (inl (f, a)) (inr (w, h)) = absurd (full_wants g f w)
    does_one one (inr (w, h)) (inl (f, a)) = absurd (full_wants g f w)
    does_one one (inr (w, h)) (inr (w', h')) = halts_one h h'

    -- no more entries can be let in then
    abbrev Stops : ℕ → List ℕ → Meaning F → Type 0
    Stops q w m = Full g w ⊎ ((e : Entry Token) → answer m ≡ Ok e → CanEnter g T q w e → ⊥)

    does_stop : {q : ℕ} {below : List ℕ} {s : State} {m : Meaning F} {d : Done F} → Does q below s m d → Stops q (symbols_of s.window) m
    does_stop (inl (f, a)) = inl f
    does_stop {q} {s = s} (inr (w, refuse h n)) = inr (λ e h' c. n (subst (CanEnter g T q (symbols_of s.window)) (same_ok (sym h' ∙ h)) c))
    does_stop (inr (w, fail h)) = inr (λ e h' c. absurd cc)

    no_more : (q : ℕ) (w : List ℕ) (m m' : Meaning F) (e : Entry Token) → Stops q (w ++ []) m' → m' ≡ m → Wants g w
        → CanEnter g T q w e → Ok e ≡ answer m → ⊥
    no_more q w m m' e (inl f) same wants c h = full_wants g (subst (Full g) (append-nil w) f) wants
    no_more q w m m' e (inr none) same wants c h =
        none e (ap (λ (z : Meaning F). answer z) same ∙ sym h) (subst (λ (z : List ℕ). CanEnter g T q z e) (sym (append-nil w)) c)

    -- what a source gave until then
    record Let (q : ℕ) (w : List ℕ) (m : Meaning F) (es : List (Entry Token)) (m' : Meaning F) : Type 0 where
      entered : Enter g T q w es
      gave : Gave m (as_answers es) m'
      stops : Stops q (w ++ symbols_of es) m'

    let_behind : {q : ℕ} {w : List ℕ} {m m' : Meaning F} {e : Entry Token} {es : List (Entry Token)} → Let q w m (e ∷ es) m'
        → Let q (w ++ symbol_of e ∷ []) (rest m) es m'
    let_behind {q} {w} {m' = m'} {e = e} {es = es} x =
        record {
          entered = x.entered.2;
          gave = x.gave.1;
          stops = subst (λ (z : List ℕ). Stops q z m') (sym (append_assoc w (symbol_of e ∷ []) (symbols_of es))) x.stops;
        }

    entries_one : (q : ℕ) (w : List ℕ) (m m₁ m₂ : Meaning F) (es fs : List (Entry Token)) → Let q w m es m₁ → Let q w m fs m₂ → (es ≡ fs) × (m₁ ≡ m₂)
    entries_one q w m m₁ m₂ [] [] x y = (refl, x.gave ∙ sym y.gave)
    entries_one q w m m₁ m₂ [] (f ∷ fs) x y = absurd (no_more q w m m₁ f x.stops x.gave y.entered.0 y.entered.1 y.gave.0)
    entries_one q w m m₁ m₂ (e ∷ es) [] x y = absurd (no_more q w m m₂ e y.stops y.gave x.entered.0 x.entered.1 x.gave.0)
    entries_one q w m m₁ m₂ (e ∷ es) (f ∷ fs) x y =
        let same : e ≡ f = same_ok (x.gave.0 ∙ sym y.gave.0) in
        let z = subst (λ (h : Entry Token). Let q w m (h ∷ fs) m₂) (sym same) y in
        let (more, meaning) = entries_one q (w ++ symbol_of e ∷ []) (rest m) m₁ m₂ es fs (let_behind x) (let_behind z) in
        (ap₂ (λ (h : Entry Token) (t : List (Entry Token)). h ∷ t) same more, meaning)

    -- a step is its requests and what is done then, or it makes none
    record Asking (s : State) (m : Meaning F) (d : Done F) : Type 0 where
      top : ℕ
      below : List ℕ
      entries : List (Entry Token)
      meaning : Meaning F
      asks : Asks g T s m top below entries meaning
      done : Done F
      does : Does top below (filled s entries) meaning done
      is : d ≡ after entries done

    data Idle (s : State) (m : Meaning F) : Done F → Type 0 where
      spent : s.standing ≡ standing.Running → s.moves ≡ most_moves
          → Idle s m (record { gave = []; answers = Err MovesSpent; state = ended s ending_by.MovesSpent; meaning = m })
      over : {e : Ending} → s.standing ≡ standing.Over e → Idle s m (record { gave = []; answers = Err (Over e); state = s; meaning = m })

    -- where the source gave nothing more
    given_all : (es : List (Entry Token)) (a : Result Move (ReadRefusal F)) (s : State) (m : Meaning F)
        → ◌≡◌ {A = Done F} (record { gave = as_answers es; answers = a; state = s; meaning = m })
        (after es (record { gave = []; answers = a; state = s; meaning = m }))
    given_all es a s m = ap (λ (z : List (Answer F)). record { gave = z; answers = a; state = s; meaning = m }) (sym (append-nil (as_answers es)))

    filling : {s : State} {m m' : Meaning F} {q : ℕ} {below : List ℕ} {es : List (Entry Token)} {a : Result Move (ReadRefusal F)} {s' : State}
        → Fills g T s m q below es m' → Acts q below (filled s es) m' (record { gave = []; answers = a; state = s'; meaning = m' })
        → Asking s m (record { gave = as_answers es; answers = a; state = s'; meaning = m' })
    filling {m' = m'} {q} {below} {es} {a} {s'} f x =
        record {
          top = q;
          below = below;
          entries = es;
          meaning = m';
          asks = f.asks;
          done = record { gave = []; answers = a; state = s'; meaning = m' };
          does = inl (f.full, x);
          is = given_all es a s' m';
        }

    lacking : {s : State} {m m' : Meaning F} {q : ℕ} {below : List ℕ} {es : List (Entry Token)} {d : Done F} → Lacks g T s m q below es m'
        → Halts q (filled s es) m' d → Asking s m (after es d)
    lacking {m' = m'} {q} {below} {es} {d} l x =
        record { top = q; below = below; entries = es; meaning = m'; asks = l.asks; done = d; does = inr (l.wants, x); is = refl }

    see : {s s' : State} {m m' : Meaning F} {gave : List (Answer F)} {a : Result Move (ReadRefusal F)} → Step g T s m gave a s' m'
        → let d : Done F = record { gave = gave; answers = a; state = s'; meaning = m' } in Asking s m d ⊎ Idle s m d
    see (step.finish f) = inl (filling f finish)
    see (step.take f x i e) = inl (filling f (take x i e))
    see (step.announce f x c l) = inl (filling f (announce x c l))
    see (step.too_deep f x c l) = inl (filling f (too_deep x c l))
    see (step.refuse l h n) = inl (lacking l (refuse h n))
    see (step.fail l h) = inl (lacking l (fail h))
    see (step.spend r e) = inr (spent r e)
    see (step.late e) = inr (over e)

    asked : {s : State} {m : Meaning F} {d : Done F} (x : Asking s m d) → Let x.top (symbols_of s.window) m x.entries x.meaning
    asked {s} x =
        record {
          entered = x.asks.entered;
          gave = x.asks.gave;
          stops = subst (λ (z : List ℕ). Stops x.top z x.meaning) (symbols_more s.window x.entries) (does_stop x.does);
        }

    -- at any state of the table one symbol stands after the dots
    module _ (one : (q A B : ℕ) → q < T.size → AfterDots g T q A → AfterDots g T q B → A ≡ B) where
      asking_one : {s : State} {m : Meaning F} {d d' : Done F} (x : Asking s m d) (y : Asking s m d') → x.top < T.size → d ≡ d'
      asking_one {s} {m} x y h =
          let stack : y.top ∷ y.below ≡ x.top ∷ x.below = sym y.asks.stack_is ∙ x.asks.stack_is in
          let asked_y = subst (λ (z : ℕ). Let z (symbols_of s.window) m y.entries y.meaning) (head_is stack) (asked y) in
          let (entries, meaning) = entries_one x.top (symbols_of s.window) m x.meaning y.meaning x.entries y.entries (asked x) asked_y in
          let at_stack =
          subst₂ (λ (q : ℕ) (below : List ℕ). Does q below (filled s y.entries) y.meaning y.done) (head_is stack) (tail_is stack) y.does in
          let does =
          subst₂ (λ (es : List (Entry Token)) (z : Meaning F). Does x.top x.below (filled s es) z y.done) (sym entries) (sym meaning) at_stack in
          x.is ∙ ap₂ after entries (does_one (λ A B. one x.top A B h) x.does does) ∙ sym y.is

      idle_one : {s : State} {m : Meaning F} {d d' : Done F} → Idle s m d → Idle s m d' → d ≡ d'
      idle_one (spent r e) (spent r' e') = refl
      idle_one (spent r e) (over h) = absurd cc
      idle_one (over h) (spent r e) = absurd cc
      idle_one {s} {m} (over {e = e} h) (over {e = e'} h') =
          ap (λ (z : Ending). record { gave = []; answers = Err (Over z); state = s; meaning = m }) (same_ending h h')

      asks_or_not : {s : State} {m : Meaning F} {d d' : Done F} → Asking s m d → Idle s m d' → ⊥
      asks_or_not x (spent r e) = omega (arith, x.asks.moves_left, e)
      asks_or_not x (over h) = let r = x.asks.runs in absurd cc

pub steps_are_one : {F : Type 0} → StepsAreOne F
steps_are_one {F} g T sound ok s m p gave₁ gave₂ a₁ a₂ s₁ s₂ m₁ m₂ x y =
    let e = by (see g T x) (see g T y) in (
      ap (λ (d : Done F). d.gave) e,
      (ap (λ (d : Done F). d.answers) e, (ap (λ (d : Done F). d.state) e, ap (λ (d : Done F). d.meaning) e)),
    )
  where
    one : (q A B : ℕ) → q < T.size → AfterDots g T q A → AfterDots g T q B → A ≡ B
    one q A B h = after_dots_one g sound T (collection→map g sound T ok.collection) h

    top_there : {d : Done F} (z : Asking g T s m d) → z.top < T.size
    top_there z = placed_top g sound T ok (placed_filled g sound T ok p z.asks)

    by : {d d' : Done F} → Asking g T s m d ⊎ Idle g T s m d → Asking g T s m d' ⊎ Idle g T s m d' → d ≡ d'
    by (inl x) (inl y) = asking_one g T one x y (top_there x)
    by (inl x) (inr y) = absurd (asks_or_not g T one x y)
    by (inr x) (inl y) = absurd (asks_or_not g T one y x)
    by (inr x) (inr y) = idle_one g T one x y

-- a move is made by a reading that runs
move_runs : {F : Type 0} {g : Grammar} {T : Table} {s s' : State} {m m' : Meaning F} {gave : List (Answer F)} {v : Move}
    → Step g T s m gave (Ok v) s' m' → s.standing ≡ standing.Running
move_runs (step.finish f) = f.asks.runs
move_runs (step.take f x i e) = f.asks.runs
move_runs (step.announce f x c l) = f.asks.runs

runs_or_over : {x : Standing} {e : Ending} → x ≡ standing.Running → x ≡ standing.Over e → ⊥
runs_or_over r h = absurd cc

module _ {F : Type 0} (g : Grammar) (T : Table) (sound : Sound g) (ok : Accepted g T) where
  same_move : {v w : Move} → ◌≡◌ {A = Result Move (ReadRefusal F)} (Ok v) (Ok w) → v ≡ w
  same_move e = cc

  same_refusal : {e f : ReadRefusal F} → ◌≡◌ {A = Result Move (ReadRefusal F)} (Err e) (Err f) → e ≡ f
  same_refusal e = cc

  move_or_not : {v : Move} {e : ReadRefusal F} → ◌≡◌ {A = Result Move (ReadRefusal F)} (Ok v) (Err e) → ⊥
  move_or_not e = absurd cc

  abbrev stopped : List (Answer F) → ReadRefusal F → State → Meaning F → Course F
  stopped gave e s m = record { gave = gave; moves = 0; rules = []; refusal = Some e; state = s; meaning = m }

  moves_one : {n : ℕ} {s : State} {m : Meaning F} {c₁ c₂ : Course F} → PlacedState g T s → Moves g T n s m c₁ → Moves g T n s m c₂ → c₁ ≡ c₂
  moves_one p enough enough = refl
  moves_one p enough (over_move h) = refl
  moves_one p (over_move h) enough = refl
  moves_one p (over_move h) (over_move h') = refl
  moves_one p (over_move h) (move x more) = absurd (runs_or_over (move_runs x) h)
  moves_one p (over_move h) (stop r x) = absurd (runs_or_over r h)
  moves_one p (move x more) (over_move h) = absurd (runs_or_over (move_runs x) h)
  moves_one p (stop r x) (over_move h) = absurd (runs_or_over r h)
  moves_one p (move x more) (stop r y) = absurd (move_or_not (steps_are_one g T sound ok _ _ p _ _ _ _ _ _ _ _ x y).1.0)
  moves_one p (stop r x) (move y more) = absurd (move_or_not (sym (steps_are_one g T sound ok _ _ p _ _ _ _ _ _ _ _ x y).1.0))
  moves_one p (stop {s' = s₁} {m' = m₁} {gave = gave} {e = e} r x) (stop {s' = s₂} {m' = m₂} {gave = gave'} {e = e'} r' y) =
      let (d, (a, (t, w))) = steps_are_one g T sound ok _ _ p gave gave' (Err e) (Err e') s₁ s₂ m₁ m₂ x y in
      ap₂ (λ (z : List (Answer F)) (i : ReadRefusal F). stopped z i s₁ m₁) d (same_refusal a)
      ∙ ap₂ (λ (z : State) (i : Meaning F). stopped gave' e' z i) t w
  moves_one {n = suc n} p (move {s' = s₁} {m' = m₁} {gave = gave} {v = v} x more)
      (move {s' = s₂} {m' = m₂} {gave = gave'} {v = v'} {c = c'} y others) =
      let (d, (a, (t, w))) = steps_are_one g T sound ok _ _ p gave gave' (Ok v) (Ok v') s₁ s₂ m₁ m₂ x y in
      let others' = subst₂ (λ (z : State) (i : Meaning F). Moves g T n z i c') (sym t) (sym w) others in
      ap (move_first gave v) (moves_one (placed_step g sound T ok p x) more others')
      ∙ ap₂ (λ (z : List (Answer F)) (i : Move). move_first z i c') d (same_move a)

pub moves_are_one : {F : Type 0} → MovesAreOne F
moves_are_one g T sound ok n s m p c₁ c₂ x y = moves_one g T sound ok p x y

pub runs_are_one : {F : Type 0} → RunsAreOne F
runs_are_one {F} g T sound ok n places s m p c₁ c₂ x y = by x y
  where
    by : {c₁ c₂ : Course F} → Run g T n places s m c₁ → Run g T n places s m c₂ → c₁ ≡ c₂
    by (late h) (late h') =
        ap (λ (z : Ending). record { gave = []; moves = 0; rules = []; refusal = Some (Over z); state = s; meaning = m }) (same_ending h h')
    by (late h) (short r l) = absurd (runs_or_over r h)
    by (late h) (runs r l z) = absurd (runs_or_over r h)
    by (short r l) (late h) = absurd (runs_or_over r h)
    by (short r l) (short r' l') = refl
    by (short r l) (runs r' l' z) = absurd (omega (arith, l, l'))
    by (runs r l z) (late h) = absurd (runs_or_over r h)
    by (runs r l z) (short r' l') = absurd (omega (arith, l, l'))
    by (runs r l z) (runs r' l' z') = moves_one g T sound ok p z z'
