-- Steps and moves by computation. A procedure lets in what can be let in, and then does what the stack, the window and the source tell. It answers
-- nothing where it finds no such step; what it answers is a step, and what it comes to move by move are the moves of a run.
use Rattle.std.proofs.Common.{◌≡◌, ℕ, zero, suc, ◌≤◌, true, cond, ltb, List, [], ◌∷◌, ◌++◌, length, Some, Ok, Err, Result, sym, refl, subst, arith}
use mathlib.Core.Option.{Option, none, some}
use Rattle.std.proofs.lemmas.Bool.{cond_both, ltb-true, ltb-false}
use Rattle.source.specs.declared.token.Entry.{Entry}
use Rattle.source.specs.declared.token.Entry.TheVariants.{Given, End}
use Rattle.source.specs.declared.token.Token.{Token}
use Rattle.source.specs.Meaning.{Meaning, answer, rest}
use Rattle.grammar.specs.Grammar.{Grammar, rule_at, IsToken}
use Rattle.grammar.specs.Table.{Table}
use Rattle.table.specs.LookUps.{AfterDots}
use Rattle.reading.specs.declared.answer.Ending.{Ending}
use Rattle.reading.specs.declared.answer.Ending.TheVariants as ending_by
use Rattle.reading.specs.declared.answer.Move.{Move}
use Rattle.reading.specs.declared.answer.ReadRefusal.{ReadRefusal}
use Rattle.reading.specs.declared.answer.Move.TheVariants.{Announce, Take, Finish}
use Rattle.reading.specs.declared.answer.ReadRefusal.TheVariants.{Unfit, StackFull, Source}
use Rattle.reading.specs.declared.answer.Standing.{Standing}
use Rattle.reading.specs.declared.answer.Standing.TheVariants.{Running, Over}
use Rattle.reading.specs.Given.{Answer, Gave, as_answers, symbol_of, symbols_of, place_of}
use Rattle.reading.specs.State.{State, most_moves, most_states, filled, finished, taken, announced, ended}
use Rattle.reading.specs.Window.{Wants, Enter}
use Rattle.reading.specs.Stack.{Pushes, Chosen}
use Rattle.reading.specs.Step.{Step, Asks, Fills, finish, take, announce, too_deep, refuse, fail}
use Rattle.reading.specs.Run.{Course, stays, move_first, Moves, enough, over, move, stop}
use Rattle.cases.proofs.Windows.{wants, wants_is, is_full, is_token, token_is, no_token, after_first, after_first_is, enters, enters_is, no_entry}

-- What a part answers goes on to the next.
abbrev pub then : {A B : Type 0} → Option A → (A → Option B) → Option B
then none f = none
then (some a) f = f a

then_both : {A B : Type 0} (o : Option A) (f : A → Option B) (P : Option B → Type 0) → P none → ((a : A) → o ≡ some a → P (f a)) → P (then o f)
then_both none f P n h = n
then_both (some a) f P n h = h a refl

-- Entries that are let in, and the source behind them.
pub record Let (F : Type 0) : Type 0 where
  pub entries : List (Entry Token)
  pub meaning : Meaning F

-- What a step came to.
pub record Done (F : Type 0) : Type 0 where
  pub gave : List (Answer F)
  pub answers : Result Move (ReadRefusal F)
  pub state : State
  pub meaning : Meaning F

module _ (g : Grammar) (T : Table) where
  -- A state by a symbol, pushed.
  abbrev pub push : ℕ → List ℕ → Option (List ℕ)
  push X [] = none
  push X (p ∷ below) = then (T.next p X) (λ q. some (q ∷ p ∷ below))

  -- The states by some symbols, pushed, the last first.
  abbrev pub push_all : List ℕ → List ℕ → Option (List ℕ)
  push_all [] s = some s
  push_all (X ∷ ω) s = then (push_all ω s) (push X)

  push_all_is : (ω s s' : List ℕ) → push_all ω s ≡ some s' → Pushes T ω s s'
  push_all_is [] s s' e = cc
  push_all_is (X ∷ ω) s s' e = by (push_all ω s) (λ s₁ h. push_all_is ω s s₁ h) refl e
    where
      by : (o : Option (List ℕ)) → ((s₁ : List ℕ) → push_all ω s ≡ some s₁ → Pushes T ω s s₁) → push_all ω s ≡ o → then o (push X) ≡ some s'
          → Pushes T (X ∷ ω) s s'
      by none so h e = absurd cc
      by (some []) so h e = absurd cc
      by (some (p ∷ below)) so h e = on (T.next p X) refl e
        where
          on : (o : Option ℕ) → T.next p X ≡ o → then o (λ q. some (q ∷ p ∷ below)) ≡ some s' → Pushes T (X ∷ ω) s s'
          on none n e = absurd cc
          on (some q) n e = (p, q, (below, (so (p ∷ below) h, (n, cc))))

  module _ {F : Type 0} where
    -- Nothing is let in.
    abbrev pub no_more : Meaning F → Let F
    no_more m = record { entries = []; meaning = m }

    -- What the source answers is let in if it can be, before others.
    abbrev pub let_next : ℕ → List ℕ → Meaning F → Answer F → (Entry Token → Let F) → Let F
    let_next q w m (Err f) others = no_more m
    let_next q w m (Ok e) others = cond (enters g T q w e) (record { entries = e ∷ (others e).entries; meaning = (others e).meaning }) (no_more m)

    -- Entries are let in while they are wanted and can be, so many at most.
    abbrev pub let_in : ℕ → ℕ → List ℕ → Meaning F → Let F
    let_in zero q w m = no_more m
    let_in (suc n) q w m = cond (wants g w) (let_next q w m (answer m) (λ e. let_in n q (w ++ symbol_of e ∷ []) (rest m))) (no_more m)

    record LetIn (q : ℕ) (w : List ℕ) (m : Meaning F) (l : Let F) : Type 0 where
      entered : Enter g T q w l.entries
      gave : Gave m (as_answers l.entries) l.meaning

    let_in_is : (n q : ℕ) (w : List ℕ) (m : Meaning F) → LetIn q w m (let_in n q w m)
    let_in_is zero q w m = record { entered = tt; gave = refl }
    let_in_is (suc n) q w m =
        let others : Entry Token → Let F = λ e. let_in n q (w ++ symbol_of e ∷ []) (rest m) in
        cond_both (wants g w) (let_next q w m (answer m) others) (no_more m) (LetIn q w m)
        (λ h. by (answer m) refl others h (λ e. let_in_is n q (w ++ symbol_of e ∷ []) (rest m)))
        (λ h. record { entered = tt; gave = refl })
      where
        by : (a : Answer F) → answer m ≡ a → (others : Entry Token → Let F) → wants g w ≡ true
            → ((e : Entry Token) → LetIn q (w ++ symbol_of e ∷ []) (rest m) (others e)) → LetIn q w m (let_next q w m a others)
        by (Err f) s others h so = record { entered = tt; gave = refl }
        by (Ok e) s others h so =
            cond_both (enters g T q w e) (record { entries = e ∷ (others e).entries; meaning = (others e).meaning }) (no_more m) (LetIn q w m)
            (λ c. record { entered = (wants_is g w h, enters_is g T q w e c, (so e).entered); gave = (sym s, (so e).gave) })
            (λ c. record { entered = tt; gave = refl })

    -- Where the source gave some entries, the step answers this, and leaves a state and the source.
    abbrev pub done : List (Entry Token) → Result Move (ReadRefusal F) → State → Meaning F → Done F
    done es a s m = record { gave = as_answers es; answers = a; state = s; meaning = m }

    -- The token at the front of the window is taken.
    abbrev pub take_by : List (Entry Token) → State → Meaning F → List (Entry Token) → Option (Done F)
    take_by es s m [] = none
    take_by es s m (End p ∷ behind) = none
    take_by es s m (Given t ∷ behind) = some (done es (Ok (Take t)) (taken s) m)

    -- The rule r is announced with this stack, if it is not too long.
    abbrev pub announce_with : List (Entry Token) → State → Meaning F → ℕ → List ℕ → Option (Done F)
    announce_with es s m r stack =
        cond (ltb most_states (length stack))
        (some (done es (Err StackFull) (ended s ending_by.StackFull) m))
        (some (done es (Ok (Announce r)) (announced s stack) m))

    -- The choice for A at p is announced.
    abbrev pub announce_by : List (Entry Token) → State → Meaning F → ℕ → List ℕ → ℕ → Option (Done F)
    announce_by es s m p below A =
        then (T.choice p A (symbols_of s.window))
        (λ r. then (rule_at g.rules r) (λ ρ. then (push_all ρ.right (p ∷ below)) (announce_with es s m r)))

    -- What the symbol X after the dots asks for is done.
    abbrev pub move_by : List (Entry Token) → State → Meaning F → ℕ → List ℕ → ℕ → Option (Done F)
    move_by es s m p below X = cond (is_token g X) (take_by es s m s.window) (announce_by es s m p below X)

    -- With q on top and a full window, a move is made.
    abbrev pub moves_on : List (Entry Token) → State → Meaning F → ℕ → List ℕ → Option (Done F)
    moves_on es s m q (p ∷ below) = then (after_first g (T.kernel q)) (move_by es s m p below)
    moves_on es s m zero [] = some (done es (Ok Finish) (finished s) m)
    moves_on es s m (suc q) [] = none

    -- What the source answers cannot be let in.
    abbrev pub halts : List (Entry Token) → State → Meaning F → ℕ → Answer F → Option (Done F)
    halts es s m q (Err f) =
        some (record { gave = as_answers es ++ Err f ∷ []; answers = Err (Source f); state = ended s ending_by.SourceFault; meaning = rest m })
    halts es s m q (Ok e) =
        cond (enters g T q (symbols_of s.window) e) none
        (some (record { gave = as_answers es ++ Ok e ∷ []; answers = Err (Unfit (place_of e)); state = ended s ending_by.Unfit; meaning = rest m }))

    -- With what was let in, the step goes on or halts.
    abbrev pub goes_on : State → ℕ → List ℕ → Let F → Option (Done F)
    goes_on s q below l =
        cond (wants g (symbols_of (filled s l.entries).window))
        (halts l.entries (filled s l.entries) l.meaning q (answer l.meaning))
        (moves_on l.entries (filled s l.entries) l.meaning q below)

    -- A step of a reading that runs, if it has moves left.
    abbrev pub step_from : State → Meaning F → List ℕ → Option (Done F)
    step_from s m [] = none
    step_from s m (q ∷ below) = cond (ltb s.moves most_moves) (goes_on s q below (let_in g.k q (symbols_of s.window) m)) none

    abbrev pub step_of : State → Meaning F → Option (Done F)
    step_of s m = step_from s m s.stack

    module _ (s : State) (m : Meaning F) where
      -- what is answered is a step
      abbrev IsStep : Option (Done F) → Type 0
      IsStep none = Unit {0}
      IsStep (some d) = Step g T s m d.gave d.answers d.state d.meaning

      module _ (q : ℕ) (below : List ℕ) (es : List (Entry Token)) (m' : Meaning F) (asks : Asks g T s m q below es m') where
        halts_is : Wants g (symbols_of (filled s es).window) → IsStep (halts es (filled s es) m' q (answer m'))
        halts_is w = by (answer m') refl
          where
            by : (a : Answer F) → answer m' ≡ a → IsStep (halts es (filled s es) m' q a)
            by (Err f) h = fail (record { asks = asks; wants = w }) h
            by (Ok e) h =
                cond_both (enters g T q (symbols_of (filled s es).window) e) none
                (some (record {
                  gave = as_answers es ++ Ok e ∷ [];
                  answers = Err (Unfit (place_of e));
                  state = ended (filled s es) ending_by.Unfit;
                  meaning = rest m';
                }))
                IsStep
                (λ c. tt)
                (λ c. refuse (record { asks = asks; wants = w }) h (no_entry g T q (symbols_of (filled s es).window) e c))

      module _ (q p : ℕ) (below : List ℕ) (es : List (Entry Token)) (m' : Meaning F) (fills : Fills g T s m q (p ∷ below) es m')
          (X : ℕ) (dots : AfterDots g T q X) where
        abbrev now : State
        now = filled s es

        take_by_is : IsToken g X → IsStep (take_by es now m' now.window)
        take_by_is i = by now.window refl
          where
            by : (w : List (Entry Token)) → now.window ≡ w → IsStep (take_by es now m' w)
            by [] h = tt
            by (End p ∷ behind) h = tt
            by (Given t ∷ behind) h = take fills dots i h

        announce_with_is : (r : ℕ) (stack : List ℕ) → Chosen g T p below X (symbols_of now.window) r stack → IsStep (announce_with es now m' r stack)
        announce_with_is r stack c =
            cond_both (ltb most_states (length stack))
            (some (done es (Err StackFull) (ended now ending_by.StackFull) m'))
            (some (done es (Ok (Announce r)) (announced now stack) m'))
            IsStep
            (λ l. too_deep fills dots c (ltb-true most_states (length stack) l))
            (λ l. announce fills dots c (ltb-false most_states (length stack) l))

        announce_by_is : (IsToken g X → ⊥) → IsStep (announce_by es now m' p below X)
        announce_by_is none_of =
            then_both (T.choice p X (symbols_of now.window))
            (λ r. then (rule_at g.rules r) (λ ρ. then (push_all ρ.right (p ∷ below)) (announce_with es now m' r))) IsStep tt
            (λ r c. then_both (rule_at g.rules r) (λ ρ. then (push_all ρ.right (p ∷ below)) (announce_with es now m' r)) IsStep tt
            (λ ρ i. then_both (push_all ρ.right (p ∷ below)) (announce_with es now m' r) IsStep tt
            (λ stack h. announce_with_is r stack
            (record { no_token = none_of; choice_is = c; rule = ρ; is_rule = i; pushed = push_all_is ρ.right (p ∷ below) stack h }))))

        move_by_is : IsStep (move_by es now m' p below X)
        move_by_is =
            cond_both (is_token g X) (take_by es now m' now.window) (announce_by es now m' p below X) IsStep
            (λ t. take_by_is (token_is g X t))
            (λ f. announce_by_is (no_token g X f))

      moves_on_is : (q : ℕ) (below : List ℕ) (es : List (Entry Token)) (m' : Meaning F) → Fills g T s m q below es m'
          → IsStep (moves_on es (filled s es) m' q below)
      moves_on_is q (p ∷ below) es m' fills =
          then_both (after_first g (T.kernel q)) (move_by es (filled s es) m' p below) IsStep tt
          (λ X h. move_by_is q p below es m' fills X (after_first_is g T q X h))
      moves_on_is zero [] es m' fills = finish fills
      moves_on_is (suc q) [] es m' fills = tt

      goes_on_is : (q : ℕ) (below : List ℕ) (l : Let F) → Asks g T s m q below l.entries l.meaning → IsStep (goes_on s q below l)
      goes_on_is q below l asks =
          let w : List ℕ = symbols_of (filled s l.entries).window in
          cond_both (wants g w)
          (halts l.entries (filled s l.entries) l.meaning q (answer l.meaning))
          (moves_on l.entries (filled s l.entries) l.meaning q below)
          IsStep
          (λ h. halts_is q below l.entries l.meaning asks (wants_is g w h))
          (λ h. moves_on_is q below l.entries l.meaning (record { asks = asks; full = is_full g w h }))

      step_is : s.standing ≡ Running → IsStep (step_of s m)
      step_is r = by s.stack refl
        where
          by : (stack : List ℕ) → s.stack ≡ stack → IsStep (step_from s m stack)
          by [] h = tt
          by (q ∷ below) h =
              let l : Let F = let_in g.k q (symbols_of s.window) m in
              let x = let_in_is g.k q (symbols_of s.window) m in
              cond_both (ltb s.moves most_moves) (goes_on s q below l) none IsStep
              (λ t. goes_on_is q below l
              (record { runs = r; moves_left = ltb-true s.moves most_moves t; stack_is = h; entered = x.entered; gave = x.gave }))
              (λ f. tt)

    -- A step that answered a comes before others, or ends the moves.
    abbrev pub go_with : Done F → Result Move (ReadRefusal F) → (State → Meaning F → Option (Course F)) → Option (Course F)
    go_with d (Ok v) others = then (others d.state d.meaning) (λ c. some (move_first d.gave v c))
    go_with d (Err e) others = some (record { gave = d.gave; moves = 0; rules = []; refusal = Some e; state = d.state; meaning = d.meaning })

    abbrev pub go_by : State → Meaning F → Standing → (State → Meaning F → Option (Course F)) → Option (Course F)
    go_by s m (Over e) others = some (stays s m)
    go_by s m Running others = then (step_of s m) (λ d. go_with d d.answers others)

    -- At most n moves.
    abbrev pub moves_of : ℕ → State → Meaning F → Option (Course F)
    moves_of zero s m = some (stays s m)
    moves_of (suc n) s m = go_by s m s.standing (moves_of n)

    -- what is answered are the moves
    abbrev AreMoves : ℕ → State → Meaning F → Option (Course F) → Type 0
    AreMoves n s m none = Unit {0}
    AreMoves n s m (some c) = Moves g T n s m c

    go_with_are : (n : ℕ) (s : State) (m : Meaning F) (d : Done F) (a : Result Move (ReadRefusal F)) (others : State → Meaning F → Option (Course F))
        → ((s : State) (m : Meaning F) → AreMoves n s m (others s m)) → s.standing ≡ Running → Step g T s m d.gave a d.state d.meaning
        → AreMoves (suc n) s m (go_with d a others)
    go_with_are n s m d (Ok v) others so r x =
        then_both (others d.state d.meaning) (λ c. some (move_first d.gave v c)) (AreMoves (suc n) s m) tt
        (λ c e. move x (subst (AreMoves n d.state d.meaning) e (so d.state d.meaning)))
    go_with_are n s m d (Err e) others so r x = stop r x

    go_by_are : (n : ℕ) (s : State) (m : Meaning F) (t : Standing) (others : State → Meaning F → Option (Course F))
        → ((s : State) (m : Meaning F) → AreMoves n s m (others s m)) → s.standing ≡ t → AreMoves (suc n) s m (go_by s m t others)
    go_by_are n s m (Over e) others so h = over h
    go_by_are n s m Running others so h =
        then_both (step_of s m) (λ d. go_with d d.answers others) (AreMoves (suc n) s m) tt
        (λ d e. go_with_are n s m d d.answers others so h (subst (IsStep s m) e (step_is s m h)))

    moves_are : (n : ℕ) (s : State) (m : Meaning F) → AreMoves n s m (moves_of n s m)
    moves_are zero s m = enough
    moves_are (suc n) s m = go_by_are n s m s.standing (moves_of n) (moves_are n) refl

    pub moves_told : (n : ℕ) (s : State) (m : Meaning F) (c : Course F) → moves_of n s m ≡ some c → Moves g T n s m c
    moves_told n s m c e = subst (AreMoves n s m) e (moves_are n s m)

    -- moves that end a reading are those of any longer run
    pub longer : {s : State} {m : Meaning F} {c : Course F} {e : Ending} (n n' : ℕ) → Moves g T n s m c → c.state.standing ≡ Over e → n ≤ n'
        → Moves g T n' s m c
    longer n n' enough h l = over h
    longer n n' (over h) h' l = over h
    longer n zero (move x more) h l = absurd (omega (arith, l))
    longer (suc n) (suc n') (move x more) h l = move x (longer n n' more h (omega (arith, l)))
    longer n zero (stop r x) h l = absurd (omega (arith, l))
    longer n (suc n') (stop r x) h l = stop r x
