-- The calls make a history, and what is promised of it is what was wanted: at the look of the steps alone, at the close of all calls.
use Rattle.std.proofs.Common.{◌≡◌, ℕ, suc, List, [], ◌∷◌, ◌++◌, take, None, Result, sym, refl, ap, ◌∙◌, subst, append-nil}
use mathlib.Core.Logic.{∥∥₁_elim, ∥∥₁_map, ∥∥₁_prop}
use Rattle.source.specs.Meaning.{Meaning}
use Rattle.frames.specs.Raw.{Raw}
use Rattle.grammar.specs.Grammar.{Grammar}
use Rattle.grammar.specs.Table.{Table}
use Rattle.table.specs.Contents.{grammar_of}
use Rattle.reading.specs.declared.answer.Move.{Move}
use Rattle.reading.specs.declared.answer.Ran.{Ran}
use Rattle.reading.specs.declared.answer.ReadRefusal.{ReadRefusal}
use Rattle.reading.specs.declared.answer.Ending.{Ending}
use Rattle.reading.specs.declared.answer.Standing.TheVariants as standing
use Rattle.reading.specs.declared.answer.View.{View}
use Rattle.reading.specs.declared.reading.Reading.{Reading}
use Rattle.reading.specs.Calls.{Opened, Stepped, RunBy}
use Rattle.reading.specs.History.{Call, step_call, run_call, History, opened, stepped, ran, looked, rules_in}
use Rattle.reading.specs.Model.{model, view_of}
use Rattle.reading.specs.Outcome.{OnTheWay, Decided, Outcome}
use Rattle.reading.specs.Run.{Course, Moves, Run, enough, over, move, stop, runs, late, short}
use Rattle.reading.specs.State.{State}
use Rattle.reading.specs.Promise.{Promise, Kept}
use Rattle.reading.specs.Trace.{let_in, given, announced, RefusedAt}
use Rattle.cases.specs.Histories.{Used, rules_stepped, rules_told}

over_apart : (e : Ending) → standing.Over e ≡ standing.Running → ⊥
over_apart e q = absurd cc

-- a run that is not refused, and after which the reading runs on, has made all its moves
module _ {F : Type 0} {g : Grammar} {T : Table} where
  moves_whole : {n : ℕ} {s : State} {m : Meaning F} {c : Course F} → Moves g T n s m c → c.refusal ≡ None → c.state.standing ≡ standing.Running
      → c.moves ≡ n
  moves_whole enough e r = refl
  moves_whole (over {e = x} o) e r = absurd (over_apart x (sym o ∙ r))
  moves_whole (move t d) e r = ap suc (moves_whole d e r)
  moves_whole (stop o t) e r = absurd cc

  run_whole : {n places : ℕ} {s : State} {m : Meaning F} {c : Course F} → Run g T n places s m c → c.refusal ≡ None → c.state.standing ≡ standing.Running
      → c.moves ≡ n
  run_whole (late o) e r = absurd cc
  run_whole (short o l) e r = absurd cc
  run_whole (runs o l d) e r = moves_whole d e r

module _ {F : Type 0} {R : Raw} {r0 r1 r2 r3 : Reading F} {m0 m1 m2 m3 : Meaning F} {a b : Result Move (ReadRefusal F)}
    {list list' : List ℕ} {c : Ran F} {e v : View}
    (o : Opened R r0) (s : Stepped r0 m0 a r1 m1) (t : Stepped r1 m1 b r2 m2) (l : e ≡ view_of (model r2)) (early : Promise r2)
    (u : RunBy r2 m2 20 list c r3 m3 list') (shows : v ≡ view_of (model r3)) (promise : Promise r3) where
  abbrev steps : List (Call F)
  steps = step_call m0 s.gave a m1 ∷ step_call m1 t.gave b m2 ∷ []

  abbrev calls : List (Call F)
  calls = step_call m0 s.gave a m1 ∷ step_call m1 t.gave b m2 ∷ run_call 20 m2 u.course.gave c list' m3 ∷ []

  at_look : History R r2 steps
  at_look = looked (stepped (stepped (opened o) s) t) l

  at_close : History R r3 calls
  at_close = ran at_look u

  told_early : announced steps ≡ rules_stepped a b
  told_early = ap (λ (x : List ℕ). rules_in a ++ x) (append-nil (rules_in b))

  told : announced calls ≡ rules_told a b c list'
  told = ap (λ (x : List ℕ). rules_in a ++ (rules_in b ++ x)) (append-nil (take c.rules list'))

  whole : c.refusal ≡ None → c.standing ≡ standing.Running → c.moves ≡ 20
  whole e r =
      ap (λ (x : Ran F). x.moves) u.answers
      ∙ run_whole u.run (sym (ap (λ (x : Ran F). x.refusal) u.answers) ∙ e) (sym (ap (λ (x : Ran F). x.standing) u.answers) ∙ r)

  of_kept : Kept (grammar_of R) (view_of (model r2)) steps → Kept (grammar_of R) (view_of (model r3)) calls → Used (grammar_of R) m0 a b c list' v
  of_kept j k =
      record {
        early = let_in steps;
        at_look = subst (OnTheWay (grammar_of R) (let_in steps)) told_early j.on_the_way;
        whole = whole;
        let_in = let_in calls;
        at_close = subst (OnTheWay (grammar_of R) (let_in calls)) told k.on_the_way;
        gave = given calls;
        calls = calls;
        outcome = λ d.
            let d' = subst (λ (w : View). Decided w.standing) shows d in
            let known = k.outcome m0 (refl, (refl, (refl, tt))) d' in
            let counted =
            subst (λ (i : ℕ). Outcome (grammar_of R) m0 (model r3).standing (given calls) (let_in calls) (announced calls) i (RefusedAt calls))
            (sym k.moves_made) known in
            let written =
            subst (λ (x : List ℕ). Outcome (grammar_of R) m0 (model r3).standing (given calls) (let_in calls) x (model r3).moves (RefusedAt calls)) told
            counted in
            subst (λ (w : View). Outcome (grammar_of R) m0 w.standing (given calls) (let_in calls) (rules_told a b c list') w.moves (RefusedAt calls))
            (sym shows) written;
      }

  pub used : ∥ Used (grammar_of R) m0 a b c list' v ∥₁
  used = ∥∥₁_elim (early R steps at_look) ∥∥₁_prop (λ j. ∥∥₁_map (promise R calls at_close) (of_kept j))
