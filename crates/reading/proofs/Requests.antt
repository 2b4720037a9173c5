-- A step that has let in some entries and asks for one more. That one is let in behind the others, or the step ends as the definition of a step
-- says: the entry cannot be let in, or the source has a fault.
use Rattle.std.proofs.Common.{◌≡◌, ℕ, ◌+◌, ◌<◌, List, [], ◌∷◌, ◌++◌, Ok, Err, OnOk, MatchResult, Result, refl, sym, ap, ap₂, ◌∙◌, subst, subst₂, append_assoc, append-nil, arith}
use Rattle.source.specs.declared.fault.Faulted.{Faulted}
use Rattle.source.specs.declared.token.Entry.{Entry}
use Rattle.source.specs.declared.token.Entry.TheVariants.{Given, End}
use Rattle.source.specs.declared.token.Token.{Token}
use Rattle.source.specs.Meaning.{Meaning, answer, rest}
use Rattle.grammar.specs.Grammar.{Grammar}
use Rattle.source.specs.declared.token.Place.{Place}
use Rattle.grammar.specs.Table.{Table}
use Rattle.frames.specs.Raw.{Raw}
use Rattle.table.specs.Checked.{contents}
use Rattle.table.specs.Contents.{grammar_of, table_of}
use Rattle.reading.specs.declared.answer.Ending.TheVariants as ending_by
use Rattle.reading.specs.declared.answer.ReadRefusal.TheVariants.{Unfit, Source}
use Rattle.reading.specs.declared.answer.Standing.TheVariants.{Running}
use Rattle.reading.specs.Given.{Answer, Gave, as_answers, symbol_of, symbols_of, tokens_in, place_of}
use Rattle.reading.specs.State.{State, filled, ended}
use Rattle.reading.specs.Step.{Lacks, Step, refuse, fail}
use Rattle.reading.specs.declared.reading.Reading.{Reading}
use Rattle.reading.specs.Calls.{Stepped}
use Rattle.reading.specs.Filling.{Filling}
use Rattle.reading.specs.Model.{model, grammar_in, table_in}
use Rattle.reading.specs.Parts.{states, entries}
use Rattle.reading.specs.Window.{Wants, CanEnter, Enter}
use Rattle.reading.proofs.Invariant.{symbols_more}

tokens_more : (es : List (Entry Token)) (e : Entry Token) → tokens_in (es ++ e ∷ []) ≡ tokens_in es + tokens_in (e ∷ [])
tokens_more [] e = omega arith
tokens_more (Given t ∷ es) e = omega (arith, tokens_more es e)
tokens_more (End p ∷ es) e = tokens_more es e

pub filled_none : (s : State) → s ≡ filled s []
filled_none s =
    let same : s.tokens ≡ s.tokens + 0 = omega arith in
    ap₂ (λ (w : List (Entry Token)) (n : ℕ). record s { window = w; tokens = n }) (sym (append-nil s.window)) same

filled_more : (s : State) (es : List (Entry Token)) (e : Entry Token) → filled (filled s es) (e ∷ []) ≡ filled s (es ++ e ∷ [])
filled_more s es e =
    let same : s.tokens + tokens_in es + tokens_in (e ∷ []) ≡ s.tokens + tokens_in (es ++ e ∷ []) = omega (arith, tokens_more es e) in
    ap₂ (λ (w : List (Entry Token)) (n : ℕ). record s { window = w; tokens = n }) (append_assoc s.window es (e ∷ [])) same

gave_more : {F : Type 0} (m : Meaning F) (es : List (Entry Token)) (m' : Meaning F) (e : Entry Token) → Gave m (as_answers es) m' → Ok e ≡ answer m'
    → Gave m (as_answers (es ++ e ∷ [])) (rest m')
gave_more m [] m' e g a = (a ∙ ap answer g, ap rest g)
gave_more m (f ∷ es) m' e (b, g) a = (b, gave_more (rest m) es m' e g a)

module _ (g : Grammar) (T : Table) (q : ℕ) where
  enter_more : (w : List ℕ) (es : List (Entry Token)) (e : Entry Token) → Enter g T q w es → Wants g (w ++ symbols_of es)
      → CanEnter g T q (w ++ symbols_of es) e → Enter g T q w (es ++ e ∷ [])
  enter_more w [] e t wants can =
      let none = append-nil w in
      (subst (Wants g) none wants, subst (λ (x : List ℕ). CanEnter g T q x e) none can, tt)
  enter_more w (f ∷ es) e (h, i, t) wants can =
      let same = sym (append_assoc w (symbol_of f ∷ []) (symbols_of es)) in
      (h, i, enter_more (w ++ symbol_of f ∷ []) es e t (subst (Wants g) same wants) (subst (λ (x : List ℕ). CanEnter g T q x e) same can))

-- what follows where a request goes well
pub ok_both : {T E P Q : Type 0} (A : T → Type 0) (B : E → Type 0) (r : Result T E) → ((x : T) → P → A x → Q) → OnOk r P → MatchResult r A B
    → OnOk r Q
ok_both A B (Ok x) f p a = f x p a
ok_both A B (Err e) f p a = tt

-- nothing is let in yet
pub none_yet : {F : Type 0} (r : Reading F) (m : Meaning F) {q : ℕ} → (below : List ℕ) × (states r.stack ≡ q ∷ below) → r.standing ≡ Running
    → r.moves < 1000000 → Filling r m q r m
none_yet r m (below, top) running moves =
    record {
      table = refl;
      below = below;
      let_in = [];
      asks = record { runs = running; moves_left = moves; stack_is = top; entered = tt; gave = refl };
      state = filled_none (model r);
    }

module _ {F : Type 0} {r r' : Reading F} {m m' : Meaning F} {q : ℕ} (so_far : Filling r m q r' m') where
  -- by the table of r
  by : (P : Raw → Type 0) → P (contents r'.table) → P (contents r.table)
  by P = subst P so_far.table

  window : symbols_of (entries r'.window) ≡ symbols_of (entries r.window) ++ symbols_of so_far.let_in
  window = ap (λ (s : State). symbols_of s.window) so_far.state ∙ symbols_more (entries r.window) so_far.let_in

  module _ (wants : Wants (grammar_in r') (symbols_of (entries r'.window))) (r'' : Reading F) (table : r''.table ≡ r'.table) {m'' : Meaning F}
      (leaves : m'' ≡ rest m') where
    wants_here : Wants (grammar_in r) (symbols_of (entries r'.window))
    wants_here = by (λ R. Wants (grammar_of R) (symbols_of (entries r'.window))) wants

    lacks : Lacks (grammar_in r) (table_in r) (model r) m q so_far.below so_far.let_in m'
    lacks = record { asks = so_far.asks; wants = subst (λ (s : State). Wants (grammar_in r) (symbols_of s.window)) so_far.state wants_here }

    table_stays : contents r''.table ≡ contents r.table
    table_stays = ap contents table ∙ so_far.table

    -- an entry is let in
    pub fills_more : {e : Entry Token} → Ok e ≡ answer m' → CanEnter (grammar_in r') (table_in r') q (symbols_of (entries r'.window)) e
        → model r'' ≡ filled (model r') (e ∷ []) → Filling r m q r'' m''
    fills_more {e} a can state =
        let es = so_far.let_in in
        let can_here = by (λ R. CanEnter (grammar_of R) (table_of R) q (symbols_of (entries r'.window)) e) can in
        let can_behind = subst (λ (x : List ℕ). CanEnter (grammar_in r) (table_in r) q x e) window can_here in
        let wants_behind = subst (Wants (grammar_in r)) window wants_here in
        record {
          table = table_stays;
          below = so_far.below;
          let_in = es ++ e ∷ [];
          asks = record {
            runs = so_far.asks.runs;
            moves_left = so_far.asks.moves_left;
            stack_is = so_far.asks.stack_is;
            entered = enter_more (grammar_in r) (table_in r) q (symbols_of (entries r.window)) es e so_far.asks.entered wants_behind can_behind;
            gave = subst (Gave m (as_answers (es ++ e ∷ []))) (sym leaves) (gave_more m es m' e so_far.asks.gave a);
          };
          state = state ∙ ap (λ (s : State). filled s (e ∷ [])) so_far.state ∙ filled_more (model r) es e;
        }

    -- an entry cannot be let in
    pub refuses : {e : Entry Token} {p : Place} → Ok e ≡ answer m'
        → (CanEnter (grammar_in r') (table_in r') q (symbols_of (entries r'.window)) e → ⊥) → p ≡ place_of e
        → model r'' ≡ ended (model r') ending_by.Unfit → Stepped r m (Err (Unfit p)) r'' m''
    refuses {e} {p} a cannot place state =
        let gave : List (Answer F) = as_answers so_far.let_in ++ Ok e ∷ [] in
        let cannot_here = by (λ R. CanEnter (grammar_of R) (table_of R) q (symbols_of (entries r'.window)) e → ⊥) cannot in
        let never = subst (λ (s : State). CanEnter (grammar_in r) (table_in r) q (symbols_of s.window) e → ⊥) so_far.state cannot_here in
        let left = state ∙ ap (λ (s : State). ended s ending_by.Unfit) so_far.state in
        record {
          table = table_stays;
          gave = gave;
          step = subst₂ (λ (x : Place) (s : State). Step (grammar_in r) (table_in r) (model r) m gave (Err (Unfit x)) s m'') (sym place) (sym left)
              (subst (Step (grammar_in r) (table_in r) (model r) m gave (Err (Unfit (place_of e))) _) (sym leaves) (refuse lacks (sym a) never));
        }

    -- the source has a fault
    pub fails : {f : Faulted F} → Err f ≡ answer m' → model r'' ≡ ended (model r') ending_by.SourceFault → Stepped r m (Err (Source f)) r'' m''
    fails {f} a state =
        let gave : List (Answer F) = as_answers so_far.let_in ++ Err f ∷ [] in
        let left = state ∙ ap (λ (s : State). ended s ending_by.SourceFault) so_far.state in
        record {
          table = table_stays;
          gave = gave;
          step = subst₂ (Step (grammar_in r) (table_in r) (model r) m gave (Err (Source f))) (sym left) (sym leaves) (fail lacks (sym a));
        }
