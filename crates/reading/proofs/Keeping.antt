-- What holds after any steps from the opening, of the state and of all that was let in, given and announced on the way: the invariant, the counts,
-- and how the reading came to its end. Each step keeps it, and so each run does.
use Rattle.std.proofs.Common.{◌≡◌, ℕ, ◌+◌, List, [], ◌∷◌, ◌++◌, length, drop, Some, Ok, Err, Result, sym, refl, ap, ◌∙◌, subst, subst₂, append_assoc, append-nil, arith, length-append}
use Rattle.source.specs.declared.token.Entry.{Entry}
use Rattle.source.specs.declared.token.Place.{Place}
use Rattle.source.specs.declared.token.Token.{Token}
use Rattle.source.specs.Meaning.{Meaning}
use Rattle.std.proofs.Math.Option.{some}
use Rattle.grammar.specs.Grammar.{Grammar, IsToken, start_symbol}
use Rattle.grammar.specs.Sound.{Sound}
use Rattle.grammar.specs.Table.{Table, Accepted}
use Rattle.table.specs.LookUps.{AfterDots}
use Rattle.reading.specs.Stack.{Chosen}
use Rattle.reading.specs.declared.answer.Ending.{Ending}
use Rattle.reading.specs.declared.answer.Ending.TheVariants as ending
use Rattle.reading.specs.declared.answer.Move.{Move}
use Rattle.reading.specs.declared.answer.ReadRefusal.{ReadRefusal}
use Rattle.reading.specs.declared.answer.ReadRefusal.TheVariants.{Unfit}
use Rattle.reading.specs.declared.answer.Standing.{Standing}
use Rattle.reading.specs.declared.answer.Standing.TheVariants as standing
use Rattle.reading.specs.Given.{Answer, as_answers, symbols_of, tokens_in, place_of}
use Rattle.reading.specs.State.{State, opening, filled, finished, taken, announced, ended}
use Rattle.reading.specs.Window.{Wants, Full, CanEnter}
use Rattle.reading.specs.Step.{Step, Asks, Fills, Lacks, finish, take, announce, too_deep, refuse, fail, spend, late}
use Rattle.reading.specs.Run.{Course, rules_of, Moves, Run, enough, over, move, stop, runs, late as late_run, short}
use Rattle.reading.specs.History.{rules_in, refusal_in}
use Rattle.reading.specs.Sentences.{entries_in, let_in_by}
use Rattle.reading.proofs.Traces.{tokens_more, answers_more}
use Rattle.reading.proofs.Entering.{let_in_first, moves_end, entered, step_lets_in}
use Rattle.reading.proofs.Invariant.{opening as opening_inv, symbols_more, symbols_drop, Inv, enter_all, take_one, announce_one}

-- the last move of a reading that has finished is neither a rule nor a token
abbrev pub last_move : Standing → ℕ
last_move standing.Running = 0
last_move (standing.Over ending.Finished) = 1
last_move (standing.Over ending.Unfit) = 0
last_move (standing.Over ending.StackFull) = 0
last_move (standing.Over ending.MovesSpent) = 0
last_move (standing.Over ending.SourceFault) = 0

-- Behind those let in an entry was given that cannot be let in, and P holds of its place.
pub record Refusing {F : Type 0} (g : Grammar) (T : Table) (P : Place → Type 0) (s : State) (li : List (Entry Token)) (gave : List (Answer F))
    : Type 0 where
  pub entry : Entry Token
  pub gave_is : gave ≡ as_answers (li ++ entry ∷ [])
  pub there : P (place_of entry)
  pub top : ℕ
  pub below : List ℕ
  pub stack_is : s.stack ≡ top ∷ below
  pub wants : Wants g (symbols_of s.window)
  pub cannot : CanEnter g T top (symbols_of s.window) entry → ⊥

-- What is known by where the reading stands.
abbrev pub Closing : {F : Type 0} → Grammar → Table → (Place → Type 0) → State → List (Entry Token) → List (Answer F) → Standing → Type 0
Closing g T P s li gave standing.Running = gave ≡ as_answers li
Closing g T P s li gave (standing.Over ending.Finished) = (gave ≡ as_answers li) × (s.stack ≡ 0 ∷ []) × Full g (symbols_of s.window)
Closing g T P s li gave (standing.Over ending.Unfit) = Refusing g T P s li gave
Closing g T P s li gave (standing.Over ending.StackFull) = Unit {0}
Closing g T P s li gave (standing.Over ending.MovesSpent) = Unit {0}
Closing g T P s li gave (standing.Over ending.SourceFault) = Unit {0}

-- it holds by any P that more places have
closing_widen : {F : Type 0} (g : Grammar) (T : Table) (P Q : Place → Type 0) (s : State) (li : List (Entry Token)) (gave : List (Answer F))
    → ((p : Place) → P p → Q p) → (x : Standing) → Closing g T P s li gave x → Closing g T Q s li gave x
closing_widen g T P Q s li gave f standing.Running c = c
closing_widen g T P Q s li gave f (standing.Over ending.Finished) c = c
closing_widen g T P Q s li gave f (standing.Over ending.Unfit) c =
    record {
      entry = c.entry;
      gave_is = c.gave_is;
      there = f (place_of c.entry) c.there;
      top = c.top;
      below = c.below;
      stack_is = c.stack_is;
      wants = c.wants;
      cannot = c.cannot;
    }
closing_widen g T P Q s li gave f (standing.Over ending.StackFull) c = tt
closing_widen g T P Q s li gave f (standing.Over ending.MovesSpent) c = tt
closing_widen g T P Q s li gave f (standing.Over ending.SourceFault) c = tt

-- This was let in, given and announced since the opening, and P holds of the place of a refused entry.
pub record Good {F : Type 0} (g : Grammar) (T : Table) (P : Place → Type 0) (s : State) (li : List (Entry Token)) (gave : List (Answer F))
    (rules : List ℕ) : Type 0 where
  pub taken : List ℕ
  pub inv : Inv g T s.stack (symbols_of s.window) li rules taken
  pub count : s.moves ≡ length rules + length taken + last_move s.standing
  pub tokens_are : s.tokens ≡ tokens_in li
  pub rules_are : s.rules ≡ length rules
  pub closing : Closing g T P s li gave s.standing

-- where nothing comes to it
nothing_more : {F : Type 0} {g : Grammar} {T : Table} {P : Place → Type 0} {s : State} {li : List (Entry Token)} {gave : List (Answer F)}
    {rules : List ℕ} → Good g T P s li gave rules → Good g T P s (li ++ []) (gave ++ []) (rules ++ [])
nothing_more {F} {g} {T} {P} {s} {li} {gave} {rules} h =
    subst (λ (x : List (Entry Token)). Good g T P s x (gave ++ []) (rules ++ [])) (sym (append-nil li))
    (subst₂ (λ (x : List (Answer F)) (y : List ℕ). Good g T P s li x y) (sym (append-nil gave)) (sym (append-nil rules)) h)

module _ {F : Type 0} {g : Grammar} {T : Table} {P Q : Place → Type 0} {s : State} {li : List (Entry Token)} {gave : List (Answer F)} {rules : List ℕ}
    (h : Good g T P s li gave rules) (wider : (p : Place) → P p → Q p) where
  good_still : Good g T Q s (li ++ []) (gave ++ []) (rules ++ [])
  good_still =
      nothing_more
      (record {
        taken = h.taken;
        inv = h.inv;
        count = h.count;
        tokens_are = h.tokens_are;
        rules_are = h.rules_are;
        closing = closing_widen g T P Q s li gave wider s.standing h.closing;
      })

  counted : s.standing ≡ standing.Running → s.moves ≡ length rules + length h.taken
  counted r = let z : last_move s.standing ≡ 0 = ap last_move r in omega (arith, h.count)

  tokens_with : (es : List (Entry Token)) → s.tokens + tokens_in es ≡ tokens_in (li ++ es)
  tokens_with es = omega (arith, h.tokens_are, tokens_more li es)

  gave_with : (es : List (Entry Token)) → s.standing ≡ standing.Running → gave ++ as_answers es ≡ as_answers (li ++ es)
  gave_with es r =
      let all : gave ≡ as_answers li = subst (Closing g T P s li gave) r h.closing in
      ap (λ (x : List (Answer F)). x ++ as_answers es) all ∙ sym (answers_more li es)

  no_rule : {s' : State} {es : List (Entry Token)} {x : List (Answer F)} → Good g T Q s' es x rules → Good g T Q s' es x (rules ++ [])
  no_rule {s'} {es} {x} = subst (Good g T Q s' es x) (sym (append-nil rules))

  module _ (sound : Sound g) (ok : Accepted g T) where
    -- a step that lets in es
    module _ {m m' : Meaning F} {q : ℕ} {below : List ℕ} {es : List (Entry Token)} (a : Asks g T s m q below es m') where
      filled_inv : Inv g T (q ∷ below) (symbols_of (filled s es).window) (li ++ es) rules h.taken
      filled_inv =
          let before = subst (λ (x : List ℕ). Inv g T x (symbols_of s.window) li rules h.taken) a.stack_is h.inv in
          subst (λ (w : List ℕ). Inv g T (q ∷ below) w (li ++ es) rules h.taken) (sym (symbols_more s.window es))
          (enter_all g sound T ok es before a.entered)

      stays_inv : Inv g T s.stack (symbols_of (filled s es).window) (li ++ es) rules h.taken
      stays_inv = subst (λ (x : List ℕ). Inv g T x (symbols_of (filled s es).window) (li ++ es) rules h.taken) (sym a.stack_is) filled_inv

      -- without a move
      good_ended : (x : List (Answer F)) (e : Ending) → last_move (standing.Over e) ≡ 0
          → Closing g T Q (ended (filled s es) e) (li ++ es) (gave ++ x) (standing.Over e)
          → Good g T Q (ended (filled s es) e) (li ++ es) (gave ++ x) rules
      good_ended x e n c =
          record {
            taken = h.taken;
            inv = stays_inv;
            count = omega (arith, counted a.runs, n);
            tokens_are = tokens_with es;
            rules_are = h.rules_are;
            closing = c;
          }

    good_finish : {m m' : Meaning F} (es : List (Entry Token)) → Fills g T s m 0 [] es m'
        → Good g T Q (finished (filled s es)) (li ++ es) (gave ++ as_answers es) rules
    good_finish es f =
        record {
          taken = h.taken;
          inv = stays_inv f.asks;
          count = omega (arith, counted f.asks.runs);
          tokens_are = tokens_with es;
          rules_are = h.rules_are;
          closing = (gave_with es f.asks.runs, f.asks.stack_is, f.full);
        }

    module _ {m m' : Meaning F} {q p : ℕ} {below : List ℕ} {es : List (Entry Token)} (f : Fills g T s m q (p ∷ below) es m') where
      still_runs : (s' : State) → s'.standing ≡ s.standing → Closing g T Q s' (li ++ es) (gave ++ as_answers es) s'.standing
      still_runs s' e = subst (Closing g T Q s' (li ++ es) (gave ++ as_answers es)) (sym (e ∙ f.asks.runs)) (gave_with es f.asks.runs)

      no_last : last_move s.standing ≡ 0
      no_last = ap last_move f.asks.runs

      good_take : {a : ℕ} → AfterDots g T q a → IsToken g a → Good g T Q (taken (filled s es)) (li ++ es) (gave ++ as_answers es) rules
      good_take {a} x t =
          let window = (filled s es).window in
          let stack_is : drop 1 s.stack ≡ p ∷ below = ap (drop 1) f.asks.stack_is in
          let next = (take_one g sound T ok (filled_inv f.asks) f.full x t).0 in
          record {
            taken = h.taken ++ a ∷ [];
            inv = subst₂ (λ (y z : List ℕ). Inv g T y z (li ++ es) rules (h.taken ++ a ∷ [])) (sym stack_is) (sym (symbols_drop window)) next;
            count = omega (arith, counted f.asks.runs, no_last, length-append h.taken (a ∷ []));
            tokens_are = tokens_with es;
            rules_are = h.rules_are;
            closing = still_runs (taken (filled s es)) refl;
          }

      good_announce : {A r : ℕ} {stack : List ℕ} → AfterDots g T q A → Chosen g T p below A (symbols_of (filled s es).window) r stack
          → Good g T Q (announced (filled s es) stack) (li ++ es) (gave ++ as_answers es) (rules ++ r ∷ [])
      good_announce {r = r} {stack = stack} x c =
          record {
            taken = h.taken;
            inv = announce_one g sound T ok (filled_inv f.asks) f.full x c;
            count = omega (arith, counted f.asks.runs, no_last, length-append rules (r ∷ []));
            tokens_are = tokens_with es;
            rules_are = omega (arith, h.rules_are, length-append rules (r ∷ []));
            closing = still_runs (announced (filled s es) stack) refl;
          }

    good_refuse : {m m' : Meaning F} {q : ℕ} {below : List ℕ} {es : List (Entry Token)} (e : Entry Token) → Lacks g T s m q below es m'
        → (CanEnter g T q (symbols_of (filled s es).window) e → ⊥) → Q (place_of e)
        → Good g T Q (ended (filled s es) ending.Unfit) (li ++ es) (gave ++ (as_answers es ++ Ok e ∷ [])) rules
    good_refuse {q = q} {below = below} {es = es} e l n there =
        good_ended l.asks (as_answers es ++ Ok e ∷ []) ending.Unfit refl
        (record {
          entry = e;
          gave_is =
              sym (append_assoc gave (as_answers es) (Ok e ∷ []))
              ∙ ap (λ (x : List (Answer F)). x ++ Ok e ∷ []) (gave_with es l.asks.runs)
              ∙ sym (answers_more (li ++ es) (e ∷ []));
          there = there;
          top = q;
          below = below;
          stack_is = l.asks.stack_is;
          wants = l.wants;
          cannot = n;
        })

    good_entered : {s' : State} {m m' : Meaning F} {x : List (Answer F)} {a : Result Move (ReadRefusal F)} (t : Step g T s m x a s' m')
        → ((p : Place) → a ≡ Err (Unfit p) → Q p) → Good g T Q s' (li ++ entered t) (gave ++ x) (rules ++ rules_in a)
    good_entered (finish {es = es} f) r = no_rule (good_finish es f)
    good_entered (take f x t e) r = no_rule (good_take f x t)
    good_entered (announce f x c l) r = good_announce f x c
    good_entered (too_deep {es = es} f x c l) r = no_rule (good_ended f.asks (as_answers es) ending.StackFull refl tt)
    good_entered (refuse {e = e} l a n) r = no_rule (good_refuse e l n (r (place_of e) refl))
    good_entered (fail {es = es} {f = f} l a) r = no_rule (good_ended l.asks (as_answers es ++ Err f ∷ []) ending.SourceFault refl tt)
    good_entered (spend r e) _ =
        nothing_more
        (record { taken = h.taken; inv = h.inv; count = omega (arith, counted r); tokens_are = h.tokens_are; rules_are = h.rules_are; closing = tt })
    good_entered (late e) r = good_still

    pub good_step : {s' : State} {m m' : Meaning F} {x : List (Answer F)} {a : Result Move (ReadRefusal F)} → Step g T s m x a s' m'
        → ((p : Place) → a ≡ Err (Unfit p) → Q p) → Good g T Q s' (li ++ let_in_by (refusal_in a) x) (gave ++ x) (rules ++ rules_in a)
    good_step {s'} {x = x} {a = a} t r =
        subst (λ (y : List (Entry Token)). Good g T Q s' (li ++ y) (gave ++ x) (rules ++ rules_in a)) (sym (step_lets_in t)) (good_entered t r)

module _ {F : Type 0} {g : Grammar} {T : Table} (sound : Sound g) (ok : Accepted g T) where
  pub good_opening : {P : Place → Type 0} {q : ℕ} → T.next 0 start_symbol ≡ some q → Good {F = F} g T P (opening q) [] [] []
  good_opening n =
      record { taken = []; inv = opening_inv g sound T ok n; count = omega arith; tokens_are = refl; rules_are = refl; closing = refl }

  pub good_moves : {P Q : Place → Type 0} {n : ℕ} {s : State} {li : List (Entry Token)} {gave : List (Answer F)} {rules : List ℕ} {m : Meaning F}
      {c : Course F} → Good g T P s li gave rules → ((p : Place) → P p → Q p) → Moves g T n s m c → ((p : Place) → c.refusal ≡ Some (Unfit p) → Q p)
      → Good g T Q c.state (li ++ let_in_by c.refusal c.gave) (gave ++ c.gave) (rules ++ c.rules)
  good_moves h w enough r = good_still h w
  good_moves h w (over e) r = good_still h w
  good_moves {P = P} {Q = Q} {li = li} {gave = gave} {rules = rules} h w (move {gave = x} {v = v} {c = c} t d) r =
      let es = let_in_by c.refusal c.gave in
      let first = good_step h w sound ok t (λ p e. absurd (no_refusal v p e)) in
      let lets : (li ++ entries_in x) ++ es ≡ li ++ let_in_by c.refusal (x ++ c.gave) =
      append_assoc li (entries_in x) es ∙ ap (λ (y : List (Entry Token)). li ++ y) (sym (let_in_first c.refusal x c.gave (moves_end d))) in
      subst (λ (y : List (Entry Token)). Good g T Q c.state y (gave ++ (x ++ c.gave)) (rules ++ (rules_of v ++ c.rules))) lets
      (subst₂ (λ (y : List (Answer F)) (z : List ℕ). Good g T Q c.state ((li ++ entries_in x) ++ es) y z)
      (append_assoc gave x c.gave)
      (append_assoc rules (rules_of v) c.rules)
      (good_moves {P = Q} first (λ p q. q) d r))
    where
      no_refusal : (v : Move) (p : Place) → ◌≡◌ {A = Result Move (ReadRefusal F)} (Ok v) (Err (Unfit p)) → ⊥
      no_refusal v p e = absurd cc
  good_moves h w (stop {e = x} r t) f = good_step h w sound ok t (λ p e. f p (ap Some (same_refusal x p e)))
    where
      same_refusal : (x : ReadRefusal F) (p : Place) → ◌≡◌ {A = Result Move (ReadRefusal F)} (Err x) (Err (Unfit p)) → x ≡ Unfit p
      same_refusal x p e = cc

  pub good_run : {P Q : Place → Type 0} {n places : ℕ} {s : State} {li : List (Entry Token)} {gave : List (Answer F)} {rules : List ℕ} {m : Meaning F}
      {c : Course F} → Good g T P s li gave rules → ((p : Place) → P p → Q p) → Run g T n places s m c
      → ((p : Place) → c.refusal ≡ Some (Unfit p) → Q p)
      → Good g T Q c.state (li ++ let_in_by c.refusal c.gave) (gave ++ c.gave) (rules ++ c.rules)
  good_run h w (late_run e) r = good_still h w
  good_run h w (short p l) r = good_still h w
  good_run h w (runs p l d) r = good_moves h w d r
