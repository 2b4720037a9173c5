-- A step whose window is full. It is the one that the definition of a step has for what the stack and the window show: the reading finishes, a
-- token is taken, a rule is announced, or the stack would become too long.
use Rattle.std.proofs.Common.{◌≡◌, ℕ, ◌<◌, ◌≤◌, List, [], ◌∷◌, length, Ok, Err, Result, sym, ap, ◌∙◌, subst, subst₂}
use Rattle.source.specs.declared.token.Entry.{Entry}
use Rattle.source.specs.declared.token.Entry.TheVariants.{Given}
use Rattle.source.specs.declared.token.Token.{Token}
use Rattle.source.specs.Meaning.{Meaning}
use Rattle.grammar.specs.Grammar.{IsToken}
use Rattle.frames.specs.Raw.{Raw}
use Rattle.table.specs.Checked.{contents}
use Rattle.table.specs.Contents.{grammar_of, table_of}
use Rattle.table.specs.LookUps.{AfterDots}
use Rattle.grammar.proofs.Lists.{head_is, tail_is}
use Rattle.reading.specs.declared.answer.Ending.TheVariants as ending_by
use Rattle.reading.specs.declared.answer.Move.TheVariants.{Announce, Take, Finish}
use Rattle.reading.specs.declared.answer.ReadRefusal.TheVariants.{StackFull}
use Rattle.reading.specs.Given.{as_answers, symbols_of}
use Rattle.reading.specs.State.{State, most_states, filled, finished, taken, announced, ended}
use Rattle.reading.specs.Step.{Asks, Fills, Step, finish, take, announce, too_deep}
use Rattle.reading.specs.Stack.{Chosen}
use Rattle.reading.specs.declared.reading.Reading.{Reading}
use Rattle.reading.specs.Calls.{Stepped}
use Rattle.reading.specs.Filling.{Faces, Filling}
use Rattle.reading.specs.Model.{model, grammar_in, table_in}
use Rattle.reading.specs.Parts.{states, entries}
use Rattle.reading.specs.declared.answer.Move.{Move}
use Rattle.reading.specs.declared.answer.ReadRefusal.{ReadRefusal}
use Rattle.reading.specs.Window.{Full}

module _ {F : Type 0} {r r' : Reading F} {m m' : Meaning F} {q : ℕ} (so_far : Filling r m q r' m') where
  abbrev es : List (Entry Token)
  es = so_far.let_in

  -- by the table of r
  by : (P : Raw → Type 0) → P (contents r'.table) → P (contents r.table)
  by P = subst P so_far.table

  fills : (q' : ℕ) (below : List ℕ) → states r'.stack ≡ q' ∷ below → Full (grammar_in r') (symbols_of (entries r'.window))
      → Fills (grammar_in r) (table_in r) (model r) m q' below es m'
  fills q' below e full =
      let stack : q ∷ so_far.below ≡ q' ∷ below = sym so_far.asks.stack_is ∙ sym (ap (λ (s : State). s.stack) so_far.state) ∙ e in
      let full_here = by (λ R. Full (grammar_of R) (symbols_of (entries r'.window))) full in
      record {
        asks = subst₂ (λ (x : ℕ) (b : List ℕ). Asks (grammar_in r) (table_in r) (model r) m x b es m') (head_is stack) (tail_is stack) so_far.asks;
        full = subst (λ (s : State). Full (grammar_in r) (symbols_of s.window)) so_far.state full_here;
      }

  module _ (r'' : Reading F) (table : r''.table ≡ r'.table) where
    -- a step that leaves this state
    stepped : {a : Result Move (ReadRefusal F)} (leave : State → State) → model r'' ≡ leave (model r')
        → Step (grammar_in r) (table_in r) (model r) m (as_answers es) a (leave (filled (model r) es)) m' → Stepped r m a r'' m'
    stepped {a} leave state step =
        record {
          table = ap contents table ∙ so_far.table;
          gave = as_answers es;
          step = subst (λ (s : State). Step (grammar_in r) (table_in r) (model r) m (as_answers es) a s m')
              (sym (state ∙ ap leave so_far.state)) step;
        }

    pub finishes : states r'.stack ≡ 0 ∷ [] → Full (grammar_in r') (symbols_of (entries r'.window)) → model r'' ≡ finished (model r')
        → Stepped r m (Ok Finish) r'' m'
    finishes e full state = stepped finished state (finish (fills 0 [] e full))

    module _ {p A q' : ℕ} (faces : Faces r' q' p A) where
      filling : Fills (grammar_in r) (table_in r) (model r) m q' (p ∷ faces.below) es m'
      filling = fills q' (p ∷ faces.below) faces.stack_is faces.full

      dots : AfterDots (grammar_in r) (table_in r) q' A
      dots = by (λ R. AfterDots (grammar_of R) (table_of R) q' A) faces.dots

      pub takes : {t : Token} {behind : List (Entry Token)} → IsToken (grammar_in r') A → entries r'.window ≡ Given t ∷ behind
          → model r'' ≡ taken (model r') → Stepped r m (Ok (Take t)) r'' m'
      takes token first state =
          stepped taken state
          (take filling dots (by (λ R. IsToken (grammar_of R) A) token) (sym (ap (λ (s : State). s.window) so_far.state) ∙ first))

      module _ {n : ℕ} {stack : List ℕ} (chosen : Chosen (grammar_in r') (table_in r') p faces.below A (symbols_of (entries r'.window)) n stack) where
        choice : Chosen (grammar_in r) (table_in r) p faces.below A (symbols_of (filled (model r) es).window) n stack
        choice =
            subst (λ (s : State). Chosen (grammar_in r) (table_in r) p faces.below A (symbols_of s.window) n stack) so_far.state
            (by (λ R. Chosen (grammar_of R) (table_of R) p faces.below A (symbols_of (entries r'.window)) n stack) chosen)

        pub announces : length stack ≤ most_states → model r'' ≡ announced (model r') stack → Stepped r m (Ok (Announce n)) r'' m'
        announces few state = stepped (λ (s : State). announced s stack) state (announce filling dots choice few)

        pub deepens : most_states < length stack → model r'' ≡ ended (model r') ending_by.StackFull → Stepped r m (Err StackFull) r'' m'
        deepens many state = stepped (λ (s : State). ended s ending_by.StackFull) state (too_deep filling dots choice many)
