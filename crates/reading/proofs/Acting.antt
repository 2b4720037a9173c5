-- The moves of a reading are the actions of the canonical parser. A stack stands for a string, and its states are those of the string with the end
-- mark and of all that lie below its top; there the parser shifts with the window's words and produces by the table's choices.
-- The parser acts on words of the top alone, so an entry that is refused, since with the window it begins none, leaves it no action.
use Rattle.std.proofs.Common.{◌≡◌, ℕ, List, [], ◌∷◌, ◌++◌, drop, Ok, Result, refl, sym, ap, ◌∙◌, subst, subst₂, ap₂, append_assoc}
use Rattle.source.specs.declared.token.Entry.{Entry}
use Rattle.source.specs.declared.token.Entry.TheVariants.{Given, End}
use Rattle.source.specs.declared.token.Token.{Token}
use Rattle.source.specs.Meaning.{Meaning, answer, rest}
use Rattle.grammar.specs.Grammar.{Rule, Grammar, IsToken, IsRule, end_mark}
use Rattle.grammar.specs.Sound.{Sound}
use Rattle.grammar.specs.Table.{Table, Word, Accepted}
use Rattle.grammar.specs.Derivation.{Step as DerivationStep}
use Rattle.grammar.specs.Item.{augmented}
use Rattle.grammar.specs.Viable.{Viable, SuffixWord, Suffix}
use Rattle.grammar.specs.Parser.{Shifts}
use Rattle.grammar.specs.Canonical.{Canonical}
use Rattle.grammar.proofs.Lists.{head_is}
use Rattle.grammar.proofs.Actions.{class_word}
use Rattle.grammar.proofs.Augmented.{rule_augmented}
use Rattle.grammar.proofs.Suffixes.{cons_nonempty, replaced, mark_words}
use Rattle.grammar.proofs.Runs.{run_tokens, derived→run}
use Rattle.table.specs.LookUps.{AfterDots, BeginsWord}
use Rattle.reading.specs.declared.answer.Ending.TheVariants as ending_by
use Rattle.reading.specs.declared.answer.Move.{Move}
use Rattle.reading.specs.declared.answer.ReadRefusal.{ReadRefusal}
use Rattle.reading.specs.Given.{Answer, as_answers, symbols_of, place_of}
use Rattle.reading.specs.State.{State, filled, taken, announced, finished, ended}
use Rattle.reading.specs.Window.{Full, CanEnter}
use Rattle.reading.specs.Stack.{Chosen, Path, lowest, upon, Placed}
use Rattle.reading.specs.Step.{Step, Fills, Lacks, finish, take, announce, too_deep, refuse, fail, spend, late}
use Rattle.reading.specs.Actions.{states_along, StandsFor, Announces, Takes, Finishes, HasAction, shift, produce, accept, ActsOn, GoesOn, Refuses, Acts}
use Rattle.reading.specs.Theorems.{StepsAct}
use Rattle.reading.proofs.Fronts.{full_is_cut}
use Rattle.reading.proofs.Pathways.{marked, pushed_path, path_suffix, path_word, topped}
use Rattle.reading.proofs.Placing.{placed_take, placed_full_finish}
use Rattle.reading.proofs.Invariant.{symbols_drop}
use Rattle.reading.proofs.Stepping.{PlacedState, placed_filled}
use Rattle.reading.proofs.Traces.{gave_one}

module _ (g : Grammar) (sound : Sound g) where
  -- a word of a rule's right side, with σ behind it, is a word of its left side
  produced_word : (A r : ℕ) (ρ : Rule) (σ y : List ℕ) → IsRule g r ρ → ρ.left ≡ A → SuffixWord g (ρ.right ++ σ) y → SuffixWord g (A ∷ σ) y
  produced_word A r ρ σ y i l (u, ((t, (rs, d)), e)) =
      let step : DerivationStep (augmented g) r (A ∷ σ) (ρ.right ++ σ) = record {
        rule = ρ;
        is_rule = rule_augmented g r ρ i;
        before = [];
        after = σ;
        from = ap (λ (z : ℕ). z ∷ σ) (sym l);
        to = refl;
      } in
      (u, ((t, (r ∷ rs, (ρ.right ++ σ, step, d))), e))

  -- the parser acts for words of what is on its stack alone
  action_word : {σ y : List ℕ} → HasAction g σ y → SuffixWord g σ y
  action_word (shift {a = a} {σ = σ} {y = y} h) = (class_word g sound (a ∷ σ) (a ∷ y) h.viable).0 h.word
  action_word (produce {A = A} {r = r} {σ = σ} {y = y} p) =
      let v : Viable g (p.rule.right ++ σ) = replaced g sound A σ p.viable r p.rule p.is_rule p.left_is in
      produced_word A r p.rule σ y p.is_rule p.left_is ((class_word g sound (p.rule.right ++ σ) y v).0 p.word)
  action_word accept = (mark_words g sound (end_mark ∷ [])).1 refl

module _ (g : Grammar) (sound : Sound g) (T : Table) (ok : Accepted g T) (c : Canonical g T) where
  -- a path's stack stands for its string with the end mark
  along : {stack σ : List ℕ} → Path T stack σ → stack ≡ states_along c.collection.map.state (marked σ)
  along lowest = ap (λ (z : ℕ). z ∷ []) (sym c.collection.map.first)
  along (upon d n) = ap₂ (λ (z : ℕ) (x : List ℕ). z ∷ x) (sym (path_suffix g sound T c.collection.map (upon d n)).1) (along d)

  pub stands : {stack σ : List ℕ} → Path T stack σ → StandsFor c stack (marked σ)
  stands lowest = ((path_suffix g sound T c.collection.map lowest).0.0, along lowest)
  stands (upon d n) = ((path_suffix g sound T c.collection.map (upon d n)).0.0, along (upon d n))

  -- a full window is a word of the top
  window_word : {q : ℕ} {below w : List ℕ} → Placed g T (q ∷ below) w → Full g w → Word T q w
  window_word {w = w} p f =
      let (rs, run) = derived→run g p.derived in
      let cut = full_is_cut g sound.well_formed w p.tokens (run_tokens g run) p.short f p.begins in
      path_word g sound T c.collection.map p.path w (record { rules = rs; string = p.tokens; run = run; cut = cut })

  -- these are words of the top, so an entry with which the parser can go on can be let in
  begins_word : {q : ℕ} {below σ w : List ℕ} → Path T (q ∷ below) σ → ActsOn g (marked σ) w → BeginsWord T q w
  begins_word {σ = σ} d (y, (h, b)) =
      let (f, e) = path_suffix g sound T c.collection.map d in
      let word = (c.collection.map.words (marked σ) f y).1 (action_word g sound h) in
      (y, (subst (λ (z : ℕ). Word T z y) e word, b))

  can_enter : {q : ℕ} {below σ : List ℕ} → Path T (q ∷ below) σ → (w : List ℕ) (e : Entry Token) → GoesOn g (marked σ) w e → CanEnter g T q w e
  can_enter d w (Given t) (i, o) = (i, begins_word d o)
  can_enter d w (End p) o = begins_word d o

  module _ {F : Type 0} {s : State} {m m' : Meaning F} (placed : PlacedState g T s) where
    announces : {q p A r : ℕ} {below stack : List ℕ} {es : List (Entry Token)} → Fills g T s m q (p ∷ below) es m' → AfterDots g T q A
        → Chosen g T p below A (symbols_of (filled s es).window) r stack → Announces g T c s r (announced (filled s es) stack)
    announces {q} {p} {A} {r} {below} {stack} {es} f x ch =
        let w : List ℕ = symbols_of (filled s es).window in
        let pl = placed_filled g sound T ok placed f.asks in
        let y = topped g sound T c.collection.map pl.path x in
        let (suffix, state_is) = path_suffix g sound T c.collection.map y.path in
        let d : Path T stack (ch.rule.right ++ y.rest) = pushed_path T ch.rule.right y.path ch.pushed in
        record {
          nonterminal = A;
          below = marked y.rest;
          rule = ch.rule;
          stands = subst₂ (StandsFor c) (sym f.asks.stack_is) (ap marked y.string_is) (stands pl.path);
          is_rule = ch.is_rule;
          produces = (c.produces (marked y.rest) suffix A w r).0 (ap (λ (z : ℕ). T.choice z A w) state_is ∙ ch.choice_is);
          leads = subst (StandsFor c stack) (append_assoc ch.rule.right y.rest (end_mark ∷ [])) (stands d);
        }

    takes : {q p a : ℕ} {below : List ℕ} {es : List (Entry Token)} {t : Token} {behind : List (Entry Token)} → Fills g T s m q (p ∷ below) es m'
        → AfterDots g T q a → IsToken g a → (filled s es).window ≡ Given t ∷ behind → Takes g T c s t (taken (filled s es))
    takes {q} {p} {a} {below} {es} {t} {behind} f x i e =
        let w : List ℕ = symbols_of (filled s es).window in
        let pl = placed_filled g sound T ok placed f.asks in
        let first : w ≡ a ∷ drop 1 w = (placed_take g sound T ok pl f.full x i).1 in
        let same : a ≡ t.kind = head_is (sym first ∙ ap symbols_of e) in
        let y = topped g sound T c.collection.map pl.path (subst (AfterDots g T q) same x) in
        let on_top : StandsFor c (q ∷ p ∷ below) (t.kind ∷ marked y.rest) =
        subst (StandsFor c (q ∷ p ∷ below)) (ap marked y.string_is) (stands pl.path) in
        let suffix : Suffix g (t.kind ∷ marked y.rest) = (on_top.0, cons_nonempty t.kind (marked y.rest)) in
        let front : w ≡ t.kind ∷ drop 1 w = first ∙ ap (λ (z : ℕ). z ∷ drop 1 w) same in
        let word : Word T (c.collection.map.state (t.kind ∷ marked y.rest)) (t.kind ∷ drop 1 w) =
        subst₂ (Word T) (head_is on_top.1) front (window_word pl f.full) in
        let shifts = (c.shifts t.kind (marked y.rest) suffix (drop 1 w)).0 (subst (IsToken g) same i, word) in
        record {
          below = marked y.rest;
          stands = subst (λ (z : List ℕ). StandsFor c z (t.kind ∷ marked y.rest)) (sym f.asks.stack_is) on_top;
          shifts = subst (Shifts g (marked y.rest) t.kind) (sym (symbols_drop (filled s es).window)) shifts;
          leads = subst (λ (z : List ℕ). StandsFor c z (marked y.rest)) (sym (ap (drop 1) f.asks.stack_is)) (stands y.path);
        }

    finishes : {es : List (Entry Token)} → Fills g T s m 0 [] es m' → Finishes g T c s (finished (filled s es))
    finishes f =
        let pl = placed_filled g sound T ok placed f.asks in (
          subst (λ (z : List ℕ). StandsFor c z (end_mark ∷ [])) (sym f.asks.stack_is) (stands lowest),
          placed_full_finish g sound T ok pl f.full,
        )

    refuses : {q : ℕ} {below : List ℕ} {es : List (Entry Token)} {e : Entry Token} → Lacks g T s m q below es m' → answer m' ≡ Ok e
        → (CanEnter g T q (symbols_of (filled s es).window) e → ⊥)
        → Refuses g T c s m (place_of e) (ended (filled s es) ending_by.Unfit) (rest m')
    refuses {q} {es = es} {e = e} l h n =
        let pl = placed_filled g sound T ok placed l.asks in
        record {
          let_in = es;
          entry = e;
          gave = gave_one (as_answers es) m m' (Ok e) l.asks.gave h;
          window_is = refl;
          place_is = refl;
          suffix = marked pl.string;
          stands = subst (λ (z : List ℕ). StandsFor c z (marked pl.string)) (sym l.asks.stack_is) (stands pl.path);
          no_action = λ o. n (can_enter pl.path (symbols_of (filled s es).window) e o);
        }

pub steps_act : {F : Type 0} → StepsAct F
steps_act {F} g T sound ok c s s' m m' gave a p x = by x
  where
    by : {gave : List (Answer F)} {a : Result Move (ReadRefusal F)} {s' : State} {m' : Meaning F} → Step g T s m gave a s' m'
        → Acts g T c s m a s' m'
    by (finish f) = finishes g sound T ok c p f
    by (take f x i e) = takes g sound T ok c p f x i e
    by (announce f x ch l) = announces g sound T ok c p f x ch
    by (too_deep f x ch l) = tt
    by (refuse l h n) = refuses g sound T ok c p l h n
    by (fail l h) = tt
    by (spend r e) = tt
    by (late e) = tt
