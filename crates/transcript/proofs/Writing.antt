-- A transcript, move after move: whatever tells of the rest, behind what is written so far, tells of the whole.
use Rattle.std.proofs.Common.{◌≡◌, ℕ, ◌+◌, ◌-◌, ◌<◌, true, false, List, [], ◌++◌, Some, None, Ok, Err, Option, Result, IsSome, IfSome, option_map}
use Rattle.std.proofs.Common.{refl, sym, ◌∙◌, subst, append_assoc, arith}
use Rattle.std.specs.Fmt.{with_newline}
use Rattle.std.specs.Io.KnownBytes.{Appends}
use Rattle.std.proofs.KnownBytes.{Appends-nil, Appends-trans}
use Rattle.source.specs.Meaning.{Meaning}
use Rattle.grammar.specs.Grammar.{Grammar}
use Rattle.grammar.specs.Table.{Table}
use Rattle.frames.specs.Raw.{Raw}
use Rattle.table.specs.Checked.{contents}
use Rattle.table.specs.Contents.{grammar_of, table_of}
use Rattle.reading.specs.declared.answer.Move.{Move}
use Rattle.reading.specs.declared.answer.Move.TheVariants.{Announce, Take, Finish}
use Rattle.reading.specs.declared.answer.ReadRefusal.{ReadRefusal}
use Rattle.reading.specs.declared.answer.ReadRefusal.TheVariants.{Unfit, StackFull, MovesSpent, Source, Over, ListTooShort}
use Rattle.reading.specs.declared.answer.View.{View}
use Rattle.reading.specs.declared.reading.Reading.{Reading}
use Rattle.reading.specs.Calls.{Opened, Stepped}
use Rattle.reading.specs.Given.{Answer}
use Rattle.reading.specs.Model.{model, grammar_in, table_in, view_of}
use Rattle.reading.specs.State.{State, most_moves}
use Rattle.reading.specs.Step.{Step, finish, take, announce, too_deep, refuse, fail, spend, late}
use Rattle.transcript.specs.Lines.{move_line, last, refused_text, shown_closing}
use Rattle.transcript.specs.Transcripts.{Told, rule, token, finished, refused, Closes, MovesWritten, Transcribed, ShowsAll}

-- A move is counted, and there was one left.
counted : {F : Type 0} {g : Grammar} {T : Table} {s s' : State} {m m' : Meaning F} {gave : List (Answer F)} {a : Result Move (ReadRefusal F)} (v : Move)
    → Step g T s m gave a s' m' → a ≡ Ok v → (s'.moves ≡ s.moves + 1) × (s.moves < most_moves)
counted v (finish fills) is = (refl, fills.asks.moves_left)
counted v (take fills after kind window) is = (refl, fills.asks.moves_left)
counted v (announce fills after chosen short) is = (refl, fills.asks.moves_left)
counted v (too_deep fills after chosen long) is = absurd cc
counted v (refuse lacks next cannot) is = absurd cc
counted v (fail lacks next) is = absurd cc
counted v (spend runs all) is = absurd cc
counted v (late over) is = absurd cc

-- So one fewer is left.
pub fewer_left : {F : Type 0} {r r' : Reading F} {m m' : Meaning F} {a : Result Move (ReadRefusal F)} (v : Move) → Stepped r m a r' m' → a ≡ Ok v
    → most_moves - r'.moves < most_moves - r.moves
fewer_left v stepped is = omega (arith, counted v stepped.step is)

-- A writer that held `before` holds `known` now, and the reading went from r₀ and m₀ to r and m.
pub record SoFar {F : Type 0} (number : F → ℕ) (shown : F → Option (List ℕ)) (before : Option (List ℕ)) (r₀ : Reading F) (m₀ : Meaning F)
    (known : Option (List ℕ)) (r : Reading F) (m : Meaning F) : Type 0 where
  pub table : contents r.table ≡ contents r₀.table
  pub written : List ℕ
  pub put : Appends before known written
  pub rest : (text : List ℕ) → Told number shown (grammar_in r₀) (table_in r₀) (model r) m text
      → Told number shown (grammar_in r₀) (table_in r₀) (model r₀) m₀ (written ++ text)

module _ {F : Type 0} {number : F → ℕ} {shown : F → Option (List ℕ)} {before : Option (List ℕ)} {r₀ : Reading F} {m₀ : Meaning F} where
  pub nothing_yet : SoFar number shown before r₀ m₀ before r₀ m₀
  nothing_yet = record { table = refl; written = []; put = Appends-nil before; rest = λ text told. told }

  module _ {known : Option (List ℕ)} {r r' : Reading F} {m m' : Meaning F} {a : Result Move (ReadRefusal F)}
      (so_far : SoFar number shown before r₀ m₀ known r m) (stepped : Stepped r m a r' m') where
    -- What the step does by a table with these contents.
    StepBy : Raw → Result Move (ReadRefusal F) → Type 0
    StepBy R b = Step (grammar_of R) (table_of R) (model r) m stepped.gave b (model r') m'

    -- It is the table of the first reading.
    step_by : (b : Result Move (ReadRefusal F)) → a ≡ b → Step (grammar_in r₀) (table_in r₀) (model r) m stepped.gave b (model r') m'
    unfolding StepBy
    step_by b is = subst (StepBy (contents r₀.table)) is (subst (λ (R : Raw). StepBy R a) so_far.table stepped.step)

    -- A move that has a line was made, and its line was written.
    pub one_more : (v : Move) → last v ≡ false → a ≡ Ok v → {known' : Option (List ℕ)} → Appends known known' (move_line v)
        → SoFar number shown before r₀ m₀ known' r' m'
    one_more v goes_on is {known'} put = record {
      table = stepped.table ∙ so_far.table;
      written = so_far.written ++ move_line v;
      put = Appends-trans before known known' so_far.written (move_line v) so_far.put put;
      rest = λ text told.
          subst (Told number shown (grammar_in r₀) (table_in r₀) (model r₀) m₀) (sym (append_assoc so_far.written (move_line v) text))
          (so_far.rest _ (told_more v goes_on (step_by (Ok v) is) text told));
    }
      where
        told_more : (w : Move) → last w ≡ false → Step (grammar_in r₀) (table_in r₀) (model r) m stepped.gave (Ok w) (model r') m' → (text : List ℕ)
            → Told number shown (grammar_in r₀) (table_in r₀) (model r') m' text
            → Told number shown (grammar_in r₀) (table_in r₀) (model r) m (move_line w ++ text)
        told_more (Announce r) _ made text told = rule made told
        told_more (Take t) _ made text told = token made told
        told_more Finish more made text told = absurd cc

    -- The reading has finished, or is refused: its closing line ends the transcript.
    pub when_finished : (v : Move) → last v ≡ true → a ≡ Ok v → MovesWritten number shown before known r₀ m₀ (Ok tt) r'
    when_finished Finish done is = record {
      text = so_far.written;
      put = so_far.put;
      closed = λ closing closes. so_far.rest closing (finished (step_by (Ok Finish) is) closes);
    }
    when_finished (Announce r) done is = absurd cc
    when_finished (Take t) done is = absurd cc

    pub when_refused : (e : ReadRefusal F) → a ≡ Err e → MovesWritten number shown before known r₀ m₀ (Err e) r'
    when_refused e is = record {
      text = so_far.written;
      put = so_far.put;
      closed = λ closing closes. so_far.rest closing (refused (step_by (Err e) is) closes);
    }

module _ {F : Type 0} (number : F → ℕ) (shown : F → Option (List ℕ)) (all : ShowsAll shown) where
  -- There is a closing line of every outcome.
  closing : (outcome : Result (Unit {0}) (ReadRefusal F)) (s : State) → (text : List ℕ) × Closes number shown outcome s text
  closing (Ok done) s = (_, refl)
  closing (Err (Unfit p)) s = (_, refl)
  closing (Err StackFull) s = (_, refl)
  closing (Err MovesSpent) s = (_, refl)
  closing (Err (Source f)) s = by_fault (shown f.fault) (all f.fault)
    where
      by_fault : (o : Option (List ℕ)) → IsSome o
          → (text : List ℕ) × (with_newline (option_map (λ reason. refused_text number (Source f) (view_of s) reason) o) ≡ Some text)
      by_fault (Some reason) is = (_, refl)
      by_fault None is = absurd cc
  closing (Err (Over e)) s = (_, refl)
  closing (Err ListTooShort) s = (_, refl)

-- Where it is written behind the moves, all is.
pub transcribed : {F : Type 0} {number : F → ℕ} {shown : F → Option (List ℕ)} → ShowsAll shown → {known known₁ known₂ : Option (List ℕ)} {R : Raw}
    {r₀ r : Reading F} {m₀ : Meaning F} {outcome : Result (Unit {0}) (ReadRefusal F)} {v : View} → Opened R r₀
    → MovesWritten number shown known known₁ r₀ m₀ outcome r → v ≡ view_of (model r)
    → IfSome (with_newline (shown_closing number shown outcome v)) (Appends known₁ known₂)
    → Transcribed number shown known known₂ R m₀
transcribed {F} {number} {shown} all {known} {known₁} {known₂} {R} {r₀} {r} {m₀} {outcome} opened moves view wrote =
    let line = closing number shown all outcome (model r) in
    let text : List ℕ = moves.text ++ line.0 in
    let by_view : IfSome (with_newline (shown_closing number shown outcome (view_of (model r)))) (Appends known₁ known₂) =
    subst (λ (w : View). IfSome (with_newline (shown_closing number shown outcome w)) (Appends known₁ known₂)) view wrote in
    let by_table : Told number shown (grammar_of R) (table_of R) (model r₀) m₀ text =
    subst (λ (Q : Raw). Told number shown (grammar_of Q) (table_of Q) (model r₀) m₀ text) opened.table (moves.closed line.0 line.1) in record {
      text = text;
      put =
          Appends-trans known known₁ known₂ moves.text line.0 moves.put
          (subst (λ (o : Option (List ℕ)). IfSome o (Appends known₁ known₂)) line.1 by_view);
      is = record {
        top = opened.top;
        next = opened.next;
        told = subst (λ (s : State). Told number shown (grammar_of R) (table_of R) s m₀ text) opened.state by_table;
      };
    }
