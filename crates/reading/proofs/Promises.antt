-- The promise of a reading. What steps and runs keep holds after any calls, by recursion on the history: each call adds what it let in, gave and
-- announced to what the calls before it did. From that come the counts, the sentences and the outcome.
use Rattle.std.proofs.Common.{◌≡◌, ℕ, ◌+◌, List, [], ◌∷◌, ◌++◌, length, drop, Some, Result, sym, refl, ap, ◌∙◌, subst, subst₂, arith}
use Rattle.std.proofs.Math.Seq.{take-append_seam}
use mathlib.Core.List.{Memᴰ}
use mathlib.Core.List.Memᴰ
use mathlib.Core.Logic.{∥∥₁_map}
use mathlib.Core.Option.{some}
use Rattle.source.specs.declared.token.Place.{Place}
use Rattle.source.specs.declared.token.Entry.{Entry}
use Rattle.source.specs.declared.token.Token.{Token}
use Rattle.source.specs.Meaning.{Meaning}
use Rattle.grammar.specs.Grammar.{Grammar, start_symbol}
use Rattle.grammar.specs.Sound.{Sound}
use Rattle.grammar.specs.Table.{Table, Accepted}
use Rattle.frames.specs.Raw.{Raw}
use Rattle.table.specs.Checked.{contents, is_accepted}
use Rattle.table.specs.Contents.{grammar_of, table_of}
use Rattle.table.specs.Rows.{AcceptedFile}
use Rattle.reading.specs.declared.answer.Move.{Move}
use Rattle.reading.specs.declared.answer.Ran.{Ran}
use Rattle.reading.specs.declared.answer.ReadRefusal.{ReadRefusal}
use Rattle.reading.specs.declared.answer.ReadRefusal.TheVariants.{Unfit}
use Rattle.reading.specs.declared.reading.Reading.{Reading}
use Rattle.reading.specs.Given.{Answer, Gave}
use Rattle.reading.specs.State.{State, opening}
use Rattle.reading.specs.Step.{Step}
use Rattle.reading.specs.Run.{Course, Run, answer_of, at_front}
use Rattle.reading.specs.Model.{model, view_of}
use Rattle.reading.specs.History.{Call, step_call, run_call, refusal_in, History, opened, stepped, ran, looked}
use Rattle.reading.specs.Sentences.{let_in_by}
use Rattle.reading.specs.Trace.{FromSources, let_in, given, announced, moves, asked, RefusedAt}
use Rattle.reading.specs.Outcome.{Outcome}
use Rattle.reading.specs.Promise.{Kept, Promise}
use Rattle.table.proofs.Files.{sound_grammar, accepted_table}
use Rattle.reading.proofs.Traces.{let_in_one, given_one, announced_one, moves_more, asked_more, honest_one, from_one}
use Rattle.reading.proofs.Courses.{over_if, step_gave, run_gave, step_made, run_made, Bounded, bounded_step, bounded_run}
use Rattle.reading.proofs.Keeping.{Good, good_opening, good_step, good_run}
use Rattle.reading.proofs.Sentences.{on_the_way}
use Rattle.reading.proofs.Outcomes.{outcome}

-- These calls have led to this state.
record Led {F : Type 0} (g : Grammar) (T : Table) (at : State) (calls : List (Call F)) : Type 0 where
  good : Good g T (RefusedAt calls) at (let_in calls) (given calls) (announced calls)
  made : at.moves ≡ moves calls
  bounded : Bounded at (asked calls)
  honest : FromSources calls

-- a call more
module _ {F : Type 0} {g : Grammar} {T : Table} {at : State} {calls : List (Call F)} (h : Led g T at calls) (c : Call F) where
  wider : (p : Place) → RefusedAt calls p → RefusedAt (calls ++ c ∷ []) p
  wider p (d, (m, e)) = (d, (Memᴰ.append_left (c ∷ []) m, e))

  refused_here : (p : Place) → c.refusal ≡ Some (Unfit p) → RefusedAt (calls ++ c ∷ []) p
  refused_here p e = (c, (Memᴰ.append_right calls (Memᴰ.head refl), e))

  led_one : {at' : State}
      → Good g T (RefusedAt (calls ++ c ∷ [])) at' (let_in calls ++ let_in_by c.refusal c.gave) (given calls ++ c.gave) (announced calls ++ c.rules)
      → at'.moves ≡ at.moves + c.made → Bounded at' (asked calls + c.asked) → Gave c.before c.gave c.after → Led g T at' (calls ++ c ∷ [])
  led_one {at'} good made b gave =
      let P = RefusedAt (calls ++ c ∷ []) in
      let with_gave =
      subst₂ (λ (x : List (Answer F)) (y : List ℕ). Good g T P at' (let_in calls ++ let_in_by c.refusal c.gave) x y)
      (sym (given_one calls c))
      (sym (announced_one calls c))
      good in
      record {
        good =
            subst (λ (x : List (Entry Token)). Good g T P at' x (given (calls ++ c ∷ [])) (announced (calls ++ c ∷ [])))
            (sym (let_in_one calls c)) with_gave;
        made = omega (arith, made, h.made, moves_more calls (c ∷ []));
        bounded = subst (Bounded at') (omega (arith, asked_more calls (c ∷ []))) b;
        honest = honest_one calls c h.honest gave;
      }

module _ {F : Type 0} {g : Grammar} {T : Table} (s : Sound g) (ok : Accepted g T) where
  kept_of : {at : State} {calls : List (Call F)} → Led g T at calls → Kept g (view_of at) calls
  kept_of {at} {calls} h =
      record {
        tokens = h.good.tokens_are;
        rules = h.good.rules_are;
        moves_made = h.made;
        gave = h.honest;
        on_the_way = on_the_way g s T ok h.good.inv;
        outcome = λ m o d.
            let (m', gave) = from_one m calls h.honest o in
            subst (λ (n : ℕ). Outcome g m at.standing (given calls) (let_in calls) (announced calls) n (RefusedAt calls)) h.made
            (outcome g s T ok h.good m m' gave d);
        ends = λ l. over_if at.standing (λ r. omega (arith, h.bounded.most, h.bounded.while_running r));
      }

  led_opening : {q : ℕ} → T.next 0 start_symbol ≡ some q → Led {F = F} g T (opening q) []
  led_opening n =
      record {
        good = good_opening s ok n;
        made = refl;
        bounded = record { most = omega arith; while_running = λ r. refl };
        honest = tt;
      }

  led_step : {at at' : State} {calls : List (Call F)} {m m' : Meaning F} {x : List (Answer F)} {a : Result Move (ReadRefusal F)} → Led g T at calls
      → Step g T at m x a at' m' → Led g T at' (calls ++ step_call m x a m' ∷ [])
  led_step {calls = calls} {m = m} {m' = m'} {x = x} {a = a} h t =
      let c = step_call m x a m' in
      let good = good_step h.good (wider h c) s ok t (λ p e. refused_here h c p (ap refusal_in e)) in
      led_one h c good (step_made t) (bounded_step (asked calls) h.bounded t) (step_gave t)

  led_run : {at : State} {calls : List (Call F)} {n : ℕ} (list : List ℕ) {m : Meaning F} {c : Course F} → Led g T at calls
      → Run g T n (length list) at m c → Led g T c.state (calls ++ run_call n m c.gave (answer_of c) (at_front c.rules list) c.meaning ∷ [])
  led_run {calls = calls} {n = n} list {m = m} {c = c} h t =
      let d = run_call n m c.gave (answer_of c) (at_front c.rules list) c.meaning in
      let P = RefusedAt (calls ++ d ∷ []) in
      let written : d.rules ≡ c.rules = take-append_seam c.rules (drop (length c.rules) list) in
      let es = let_in calls ++ let_in_by c.refusal c.gave in
      let good =
      subst (λ (x : List ℕ). Good g T P c.state es (given calls ++ c.gave) (announced calls ++ x)) (sym written)
      (good_run s ok h.good (wider h d) t (refused_here h d)) in
      led_one h d good (run_made t) (bounded_run (asked calls) h.bounded t) (run_gave t)

-- a reading keeps its table
table_stays : {R : Raw} {F : Type 0} {r : Reading F} {calls : List (Call F)} → History R r calls → contents r.table ≡ R
table_stays (opened o) = o.table
table_stays (stepped h x) = x.table ∙ table_stays h
table_stays (ran h x) = x.table ∙ table_stays h
table_stays (looked h e) = table_stays h

module _ (R : Raw) (good : AcceptedFile R) where
  sound : Sound (grammar_of R)
  sound = sound_grammar R good

  ok : Accepted (grammar_of R) (table_of R)
  ok = accepted_table R good

  module _ {F : Type 0} where
    led : {r : Reading F} {calls : List (Call F)} → History R r calls → Led (grammar_of R) (table_of R) (model r) calls
    led (opened o) = subst (λ (x : State). Led {F = F} (grammar_of R) (table_of R) x []) (sym o.state) (led_opening sound ok o.next)
    led (stepped {r = r} {r' = r'} h {m = m} {m' = m'} {a = a} x) =
        let step = subst (λ (X : Raw). Step (grammar_of X) (table_of X) (model r) m x.gave a (model r') m') (table_stays h) x.step in
        led_step sound ok (led h) step
    led (ran {r = r} {calls = calls} h {m = m} {m' = m'} {n = n} {list = list} {list' = list'} {a = a} x) =
        let c = x.course in
        let run = subst (λ (X : Raw). Run (grammar_of X) (table_of X) n (length list) (model r) m c) (table_stays h) x.run in
        let call_is : run_call n m c.gave (answer_of c) (at_front c.rules list) c.meaning ≡ run_call n m c.gave a list' m' =
        ap (λ (y : Ran F). run_call n m c.gave y (at_front c.rules list) c.meaning) (sym x.answers)
        ∙ ap (λ (y : List ℕ). run_call n m c.gave a y c.meaning) (sym x.written)
        ∙ ap (λ (y : Meaning F). run_call n m c.gave a list' y) (sym x.source) in
        subst₂ (λ (y : State) (z : Call F). Led (grammar_of R) (table_of R) y (calls ++ z ∷ [])) (sym x.leaves) call_is
        (led_run sound ok list (led h) run)
    led (looked h e) = led h

    pub kept : (r : Reading F) (calls : List (Call F)) → History R r calls → Kept (grammar_of R) (view_of (model r)) calls
    kept r calls h = kept_of sound ok (led h)

pub promise : {F : Type 0} (r : Reading F) → Promise r
promise r R calls h = ∥∥₁_map (subst (λ (X : Raw). ∥ AcceptedFile X ∥₁) (table_stays h) (is_accepted r.table)) (λ good. kept R good r calls h)
