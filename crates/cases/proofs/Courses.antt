-- The readings of the examples, by computation. Every run of one comes to what was computed, since there is but one run.
use Rattle.std.proofs.Common.{◌≡◌, ℕ, ◌≤◌, length, Ok, refl, subst, arith}
use Rattle.std.specs.List.{AllByRecursion}
use mathlib.Core.Option.{Option, none, some}
use Rattle.std.specs.declared.convert.Infallible.{Infallible}
use Rattle.source.specs.Meaning.{Meaning}
use Rattle.source.specs.Stored.{stored}
use Rattle.grammar.specs.Grammar.{Grammar, start_symbol}
use Rattle.grammar.specs.Table.{Table}
use Rattle.frames.specs.Raw.{Raw}
use Rattle.table.specs.Contents.{grammar_of, table_of}
use Rattle.table.specs.Rows.{Verdict, AcceptedFile}
use Rattle.table.proofs.Verdicts.{ok_accepts}
use Rattle.reading.specs.declared.answer.Ending.{Ending}
use Rattle.reading.specs.declared.answer.Ending.TheVariants.{Finished, Unfit}
use Rattle.reading.specs.declared.answer.Standing.TheVariants.{Over}
use Rattle.reading.specs.State.{opening}
use Rattle.reading.specs.Run.{Course, runs}
use Rattle.table.proofs.Files.{sound_grammar, accepted_table}
use Rattle.reading.proofs.Placing.{placed_opening}
use Rattle.reading.proofs.Unique.{runs_are_one}
use Rattle.cases.specs.Tables.{file}
use Rattle.cases.specs.Readings.{Example, ComesTo, RunOf, Reads, a_sentence, nothing, second_unfit, closed_wrongly, readings}
use Rattle.cases.proofs.Followed.{moves_of, moves_told, longer}
use Rattle.cases.proofs.Examples.{accepted_is, enclosing_is}

module _ (e : Example) where
  abbrev R : Raw
  R = file e.frames

  abbrev g : Grammar
  g = grammar_of R

  abbrev T : Table
  T = table_of R

  abbrev m : Meaning Infallible
  m = stored e.kinds

  -- What 20 moves come to, by computation.
  abbrev computed : ℕ → Option (Course Infallible)
  computed q = moves_of g T 20 (opening q) m

  -- That is what the example says, and the reading is over then.
  abbrev Told : Ending → Option (Course Infallible) → Type 0
  Told x none = ⊥
  Told x (some c) = ComesTo e c × (c.state.standing ≡ Over x)

  reads : Verdict R (Ok tt) → length e.kinds ≤ 60000 → (q : ℕ) → T.next 0 start_symbol ≡ some q → (x : Ending) → Told x (computed q) → Reads e
  reads v f q n x told = by (computed q) refl told
    where
      ok : AcceptedFile R
      ok = (ok_accepts R).0 v

      by : (o : Option (Course Infallible)) → computed q ≡ o → Told x o → Reads e
      by none h t = absurd t
      by (some c) h (t, o) =
          let moves = moves_told g T 20 (opening q) m c h in
          let run : (k places : ℕ) → 20 ≤ k → k ≤ places → RunOf e q k places c = λ k places l l'. runs refl l' (longer g T 20 k moves o l) in
          let sound = sound_grammar R ok in
          let accepted = accepted_table R ok in
          record {
            accepted = v;
            few = f;
            top = q;
            next = n;
            some_run = λ k places l l'. (c, run k places l l');
            each_run = λ k places l l' c' y.
                subst (ComesTo e)
                (runs_are_one g T sound accepted k places (opening q) m (placed_opening g sound T accepted n) c c' (run k places l l') y) t;
          }

a_sentence_reads : Reads a_sentence
a_sentence_reads = reads a_sentence accepted_is (omega arith) 1 refl Finished (record { rules = refl; moves = refl; refusal = refl; view = refl }, refl)

nothing_reads : Reads nothing
nothing_reads = reads nothing accepted_is (omega arith) 1 refl Unfit (record { rules = refl; moves = refl; refusal = refl; view = refl }, refl)

second_unfit_reads : Reads second_unfit
second_unfit_reads = reads second_unfit accepted_is (omega arith) 1 refl Unfit (record { rules = refl; moves = refl; refusal = refl; view = refl }, refl)

closed_wrongly_reads : Reads closed_wrongly
closed_wrongly_reads = reads closed_wrongly enclosing_is (omega arith) 3 refl Unfit (record { rules = refl; moves = refl; refusal = refl; view = refl }, refl)

pub all_read : AllByRecursion Reads readings
all_read = (a_sentence_reads, (nothing_reads, (second_unfit_reads, (closed_wrongly_reads, tt))))
