-- What steps and runs give and count. The answers that a step or a run has from its source are the source's, in turn; it counts its moves; while the
-- reading runs on, it has made every move that it was asked for; and there are never more moves than the bound.
use Rattle.std.proofs.Common.{◌≡◌, ℕ, suc, ◌+◌, ◌≤◌, List, None, Err, Option, Result, sym, refl, ap, ◌∙◌, subst, arith}
use Rattle.source.specs.Meaning.{Meaning}
use Rattle.grammar.specs.Grammar.{Grammar}
use Rattle.grammar.specs.Table.{Table}
use Rattle.reading.specs.declared.answer.Ending.{Ending}
use Rattle.reading.specs.declared.answer.Move.{Move}
use Rattle.reading.specs.declared.answer.ReadRefusal.{ReadRefusal}
use Rattle.reading.specs.declared.answer.Standing.{Standing}
use Rattle.reading.specs.declared.answer.Standing.TheVariants as standing
use Rattle.reading.specs.Given.{Answer, Gave, as_answers}
use Rattle.reading.specs.State.{State, most_moves}
use Rattle.reading.specs.Step.{Step, finish, take as take_step, announce, too_deep, refuse, fail, spend, late}
use Rattle.reading.specs.Run.{Course, Moves, Run, enough, over, move, stop, runs, late as late_run, short}
use Rattle.reading.specs.History.{moves_in, asked_by}
use Rattle.reading.specs.Outcome.{IsOver}
use Rattle.reading.proofs.Traces.{gave_append, gave_one}

-- so many moves were asked for
pub record Bounded (s : State) (n : ℕ) : Type 0 where
  pub most : s.moves ≤ most_moves
  pub while_running : s.standing ≡ standing.Running → n ≡ s.moves

over_apart : (e : Ending) → standing.Over e ≡ standing.Running → ⊥
over_apart e q = absurd cc

-- what does not run is over
pub over_if : (s : Standing) → (s ≡ standing.Running → ⊥) → IsOver s
over_if standing.Running n = absurd (n refl)
over_if (standing.Over e) n = (e, refl)

bounded_over : (s : State) (n : ℕ) (e : Ending) → s.moves ≤ most_moves → s.standing ≡ standing.Over e → Bounded s n
bounded_over s n e m p = record { most = m; while_running = λ r. absurd (over_apart e (sym p ∙ r)) }

module _ {F : Type 0} {g : Grammar} {T : Table} where
  -- the answers
  pub step_gave : {s s' : State} {m m' : Meaning F} {gave : List (Answer F)} {a : Result Move (ReadRefusal F)} → Step g T s m gave a s' m'
      → Gave m gave m'
  step_gave (finish f) = f.asks.gave
  step_gave (take_step f x t w) = f.asks.gave
  step_gave (announce f x c l) = f.asks.gave
  step_gave (too_deep f x c l) = f.asks.gave
  step_gave {m = m} (refuse {es = es} {m' = m'} l e x) = gave_one (as_answers es) m m' _ l.asks.gave e
  step_gave {m = m} (fail {es = es} {m' = m'} l e) = gave_one (as_answers es) m m' _ l.asks.gave e
  step_gave (spend r e) = refl
  step_gave (late e) = refl

  pub moves_gave : {n : ℕ} {s : State} {m : Meaning F} {c : Course F} → Moves g T n s m c → Gave m c.gave c.meaning
  moves_gave enough = refl
  moves_gave (over e) = refl
  moves_gave {m = m} (move {m' = m'} {gave = gave} {c = c} t d) = gave_append gave c.gave m m' c.meaning (step_gave t) (moves_gave d)
  moves_gave (stop r t) = step_gave t

  pub run_gave : {n places : ℕ} {s : State} {m : Meaning F} {c : Course F} → Run g T n places s m c → Gave m c.gave c.meaning
  run_gave (late_run e) = refl
  run_gave (short r l) = refl
  run_gave (runs r l d) = moves_gave d

  -- the moves
  pub step_made : {s s' : State} {m m' : Meaning F} {gave : List (Answer F)} {a : Result Move (ReadRefusal F)} → Step g T s m gave a s' m'
      → s'.moves ≡ s.moves + moves_in a
  step_made (finish f) = refl
  step_made (take_step f x t w) = refl
  step_made (announce f x c l) = refl
  step_made (too_deep f x c l) = omega arith
  step_made (refuse l e x) = omega arith
  step_made (fail l e) = omega arith
  step_made (spend r e) = omega arith
  step_made (late e) = omega arith

  pub moves_made : {n : ℕ} {s : State} {m : Meaning F} {c : Course F} → Moves g T n s m c → c.state.moves ≡ s.moves + c.moves
  moves_made enough = omega arith
  moves_made (over e) = omega arith
  moves_made (move t d) = omega (arith, step_made t, moves_made d)
  moves_made (stop r t) = step_made t

  pub run_made : {n places : ℕ} {s : State} {m : Meaning F} {c : Course F} → Run g T n places s m c → c.state.moves ≡ s.moves + c.moves
  run_made (late_run e) = omega arith
  run_made (short r l) = omega arith
  run_made (runs r l d) = moves_made d

  -- a refusal ends the reading
  step_over : {s s' : State} {m m' : Meaning F} {gave : List (Answer F)} {x : ReadRefusal F} → Step g T s m gave (Err x) s' m'
      → (e : Ending) × (s'.standing ≡ standing.Over e)
  step_over (too_deep f x c l) = (_, refl)
  step_over (refuse l e x) = (_, refl)
  step_over (fail l e) = (_, refl)
  step_over (spend r e) = (_, refl)
  step_over (late e) = (_, e)

  pub bounded_step : {s s' : State} {m m' : Meaning F} {gave : List (Answer F)} {a : Result Move (ReadRefusal F)} (n : ℕ) → Bounded s n
      → Step g T s m gave a s' m' → Bounded s' (n + 1)
  bounded_step n b (finish f) = bounded_over _ _ _ (omega (arith, f.asks.moves_left)) refl
  bounded_step n b (take_step f x t w) = record { most = omega (arith, f.asks.moves_left); while_running = λ r. omega (arith, b.while_running r) }
  bounded_step n b (announce f x c l) = record { most = omega (arith, f.asks.moves_left); while_running = λ r. omega (arith, b.while_running r) }
  bounded_step n b (too_deep f x c l) = bounded_over _ _ _ b.most refl
  bounded_step n b (refuse l e x) = bounded_over _ _ _ b.most refl
  bounded_step n b (fail l e) = bounded_over _ _ _ b.most refl
  bounded_step n b (spend r e) = bounded_over _ _ _ b.most refl
  bounded_step n b (late e) = bounded_over _ _ _ b.most e

  pub bounded_moves : {n : ℕ} {s : State} {m : Meaning F} {c : Course F} (k : ℕ) → Bounded s k → Moves g T n s m c → Bounded c.state (k + n)
  bounded_moves {s = s} k b enough = subst (Bounded s) (omega arith) b
  bounded_moves k b (over e) = bounded_over _ _ _ b.most e
  bounded_moves k b (move {n = n} {c = c} t d) = subst (Bounded c.state) (omega arith) (bounded_moves (k + 1) (bounded_step k b t) d)
  bounded_moves k b (stop {n = n} r t) = let (e, p) = step_over t in bounded_over _ (k + suc n) e (bounded_step k b t).most p

  -- so while it runs none was refused
  pub none_refused : {n : ℕ} {s : State} {m : Meaning F} {c : Course F} → Moves g T n s m c → c.state.standing ≡ standing.Running → c.refusal ≡ None
  none_refused enough r = refl
  none_refused (over e) r = refl
  none_refused (move t d) r = none_refused d r
  none_refused (stop _ t) r = let (e, p) = step_over t in absurd (over_apart e (sym p ∙ r))

  pub bounded_run : {n places : ℕ} {s : State} {m : Meaning F} {c : Course F} (k : ℕ) → Bounded s k → Run g T n places s m c
      → Bounded c.state (k + asked_by n c.refusal)
  bounded_run {n} k b (late_run e) = bounded_over _ (k + n) _ b.most e
  bounded_run {s = s} k b (short r l) = subst (Bounded s) (omega arith) b
  bounded_run {n} k b (runs r l d) =
      let h = bounded_moves k b d in
      record { most = h.most; while_running = λ r. ap (λ (x : Option (ReadRefusal F)). k + asked_by n x) (none_refused d r) ∙ h.while_running r }
