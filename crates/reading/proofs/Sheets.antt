-- The reading of a whole sheet. Its moves start from the opening, so what holds after any moves holds of them; the list has the rules at its front.
use Rattle.std.proofs.Common.{subst₂, ◌≡◌, ℕ, ◌+◌, ◌<◌, List, length, take, drop, Some, Option, sym, refl, ap, ◌∙◌, subst, arith, ◌≤◌}
use Rattle.std.proofs.Math.Nat.{min-le_left, min-eq_right}
use Rattle.std.proofs.Math.Seq.{take-append_seam}
use Rattle.source.specs.declared.token.Entry.{Entry}
use Rattle.source.specs.declared.token.Place.{Place}
use Rattle.source.specs.declared.token.Token.{Token}
use Rattle.source.specs.Meaning.{Meaning}
use Rattle.grammar.specs.Grammar.{Grammar}
use Rattle.grammar.specs.Sound.{Sound}
use Rattle.grammar.specs.Table.{Table, Accepted}
use Rattle.frames.specs.Raw.{Raw}
use Rattle.table.specs.Contents.{grammar_of, table_of}
use Rattle.table.specs.Rows.{AcceptedFile}
use Rattle.reading.specs.declared.answer.Ending.{Ending}
use Rattle.reading.specs.declared.answer.ReadRefusal.{ReadRefusal}
use Rattle.reading.specs.declared.answer.ReadRefusal.TheVariants.{Unfit}
use Rattle.reading.specs.declared.answer.Ran.{Ran}
use Rattle.reading.specs.declared.reading.Reading.{Reading}
use Rattle.reading.specs.declared.answer.Sheet.{Sheet}
use Rattle.reading.specs.declared.answer.Standing.TheVariants.{Running, Over}
use Rattle.reading.specs.declared.answer.View.{View}
use Rattle.reading.specs.Given.{Gave, tokens_in}
use Rattle.reading.specs.State.{State, most_moves, opening}
use Rattle.reading.specs.Run.{Course, Moves, Run, late, short, runs}
use Rattle.reading.specs.Model.{model, view_of}
use Rattle.reading.specs.Calls.{Opened, RunBy}
use Rattle.reading.specs.Sentences.{let_in_by}
use Rattle.reading.specs.Outcome.{OnTheWay, Decided, Outcome}
use Rattle.reading.specs.Sheet.{moves_for, SheetRead, SheetKept}
use Rattle.table.proofs.Files.{sound_grammar, accepted_table}
use Rattle.reading.proofs.Courses.{over_if, moves_gave, Bounded, bounded_moves}
use Rattle.reading.proofs.Keeping.{Good, good_opening, good_moves}
use Rattle.reading.proofs.Sentences.{on_the_way}
use Rattle.reading.proofs.Outcomes.{outcome}

-- a run of a running reading with a list that is long enough is its moves
run_moves : {F : Type 0} {g : Grammar} {T : Table} {n places : ℕ} {s : State} {m : Meaning F} {c : Course F} → s.standing ≡ Running → n ≤ places
    → Run g T n places s m c → Moves g T n s m c
run_moves r l (late e) = absurd (running_apart (sym r ∙ e))
  where
    running_apart : {e : Ending} → Running ≡ Over e → ⊥
    running_apart p = absurd cc
run_moves r l (short e k) = absurd (omega (arith, l, k))
run_moves r l (runs e k d) = d

-- an opened reading's run of as many moves as there is room for, and what is told of it
pub sheet_read : {F : Type 0} {R : Raw} {r r' : Reading F} {m m' : Meaning F} {n : ℕ} {list list' : List ℕ} {ran : Ran F} {view : View}
    {refusal : Option (ReadRefusal F)} → Opened R r → n ≡ moves_for (length list) → RunBy r m n list ran r' m' list' → view ≡ view_of (model r')
    → refusal ≡ ran.refusal → SheetRead R m list (record { view = view; refusal = refusal }) m' list'
sheet_read {R = R} {r = r} {m = m} {n = n} {list = list} {ran = ran} {view = view} o k x v f =
    let c = x.course in
    let start : model r ≡ opening o.top = o.state in
    let run = subst₂ (λ (X : Raw) (s : State). Run (grammar_of X) (table_of X) n (length list) s m c) o.table start x.run in
    let few : n ≤ length list = omega (arith, k, min-le_left (length list) (most_moves + 1)) in
    let shown : view ≡ view_of c.state = v ∙ ap view_of x.leaves in
    record {
      top = o.top;
      next = o.next;
      course = c;
      moves = subst (λ (j : ℕ). Moves (grammar_of R) (table_of R) j (opening o.top) m c) k (run_moves refl few run);
      view = shown;
      refusal = f ∙ ap (λ (y : Ran _). y.refusal) x.answers;
      source = x.source;
      written = x.written;
    }

module _ {F : Type 0} (R : Raw) (good : AcceptedFile R) {m m' : Meaning F} {list list' : List ℕ} {a : Sheet F} (h : SheetRead R m list a m' list') where
  abbrev g : Grammar
  g = grammar_of R

  abbrev T : Table
  T = table_of R

  sound : Sound g
  sound = sound_grammar R good

  ok : Accepted g T
  ok = accepted_table R good

  abbrev c : Course F
  c = h.course

  abbrev end : State
  end = c.state

  abbrev P : Place → Type 0
  P p = a.refusal ≡ Some (Unfit p)

  abbrev es : List (Entry Token)
  es = let_in_by a.refusal c.gave

  es_is : let_in_by c.refusal c.gave ≡ es
  es_is = ap (λ (x : Option (ReadRefusal F)). let_in_by x c.gave) (sym h.refusal)

  kept : Good g T P end (let_in_by c.refusal c.gave) c.gave c.rules
  kept = good_moves sound ok (good_opening sound ok {P = P} h.next) (λ p q. q) h.moves (λ p e. h.refusal ∙ e)

  rules_are : take a.view.rules list' ≡ c.rules
  rules_are =
      let n : a.view.rules ≡ length c.rules = ap (λ (v : View). v.rules) h.view ∙ kept.rules_are in
      ap (λ (k : ℕ). take k list') n ∙ ap (take (length c.rules)) h.written ∙ take-append_seam c.rules (drop (length c.rules) list)

  bounded : Bounded end (moves_for (length list))
  bounded = subst (Bounded end) (omega arith) (bounded_moves 0 (record { most = omega arith; while_running = λ r. refl }) h.moves)

  abbrev standing_is : a.view.standing ≡ end.standing
  standing_is = ap (λ (v : View). v.standing) h.view

  comes_out : Decided a.view.standing → Outcome g m a.view.standing c.gave es (take a.view.rules list') a.view.moves P
  comes_out d =
      let o = outcome g sound T ok kept m c.meaning (moves_gave h.moves) (subst Decided standing_is d) in
      let at_view = subst (λ (v : View). Outcome g m v.standing c.gave (let_in_by c.refusal c.gave) c.rules v.moves P) (sym h.view) o in
      subst (λ (x : List (Entry Token)). Outcome g m a.view.standing c.gave x (take a.view.rules list') a.view.moves P) es_is
      (subst (λ (x : List ℕ). Outcome g m a.view.standing c.gave (let_in_by c.refusal c.gave) x a.view.moves P) (sym rules_are) at_view)

  pub sheet_kept : SheetKept g m list a m' list'
  sheet_kept =
      record {
        gave = c.gave;
        source = subst (Gave m c.gave) (sym h.source) (moves_gave h.moves);
        tokens = ap (λ (v : View). v.tokens) h.view ∙ kept.tokens_are ∙ ap tokens_in es_is;
        on_the_way =
            subst (λ (x : List (Entry Token)). OnTheWay g x (take a.view.rules list')) es_is
            (subst (OnTheWay g (let_in_by c.refusal c.gave)) (sym rules_are) (on_the_way g sound T ok kept.inv));
        outcome = comes_out;
        ends = λ l. over_if a.view.standing (λ r. omega (arith, bounded.most, bounded.while_running (sym standing_is ∙ r), min_of l));
      }
    where
      min_of : most_moves < length list → moves_for (length list) ≡ most_moves + 1
      min_of l = min-eq_right (omega (arith, l))
