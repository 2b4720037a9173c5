-- What steps and runs let in: all the entries that the source gave, without the one that was refused. A refused entry is the last that was given, so
-- a run lets in what its steps do.
use Rattle.std.proofs.Common.{◌≡◌, ℕ, List, [], ◌∷◌, ◌++◌, Some, None, Ok, Err, Option, Result, sym, refl, ap, ◌∙◌, append_assoc, append-nil}
use Rattle.source.specs.declared.token.Entry.{Entry}
use Rattle.source.specs.declared.token.Token.{Token}
use Rattle.source.specs.Meaning.{Meaning}
use Rattle.grammar.specs.Grammar.{Grammar}
use Rattle.grammar.specs.Table.{Table}
use Rattle.reading.specs.declared.answer.Move.{Move}
use Rattle.reading.specs.declared.answer.ReadRefusal.{ReadRefusal}
use Rattle.reading.specs.declared.answer.ReadRefusal.TheVariants.{Unfit, StackFull, MovesSpent, Source, Over, ListTooShort}
use Rattle.reading.specs.Given.{Answer, as_answers}
use Rattle.reading.specs.State.{State}
use Rattle.reading.specs.Step.{Step, finish, take, announce, too_deep, refuse, fail, spend, late}
use Rattle.reading.specs.Run.{Course, Moves, enough, over, move, stop}
use Rattle.reading.specs.History.{refusal_in}
use Rattle.reading.specs.Sentences.{entries_in, but_last, let_in_by}
use Rattle.reading.proofs.Traces.{entries_more, entries_of, but_last_is}

-- where an entry was refused it is the last that was given
abbrev Ends : {F : Type 0} → Option (ReadRefusal F) → List (Answer F) → Type 0
Ends {F} (Some (Unfit p)) gave = (x : List (Answer F)) × ((e : Entry Token) × (gave ≡ x ++ Ok e ∷ []))
Ends (Some StackFull) gave = Unit {0}
Ends (Some MovesSpent) gave = Unit {0}
Ends (Some (Source f)) gave = Unit {0}
Ends (Some (Over e)) gave = Unit {0}
Ends (Some ListTooShort) gave = Unit {0}
Ends None gave = Unit {0}

module _ {F : Type 0} where
  ends_more : (r : Option (ReadRefusal F)) (x y : List (Answer F)) → Ends r y → Ends r (x ++ y)
  ends_more (Some (Unfit p)) x y (z, (e, h)) = (x ++ z, (e, ap (λ (w : List (Answer F)). x ++ w) h ∙ sym (append_assoc x z (Ok e ∷ []))))
  ends_more (Some StackFull) x y h = tt
  ends_more (Some MovesSpent) x y h = tt
  ends_more (Some (Source f)) x y h = tt
  ends_more (Some (Over e)) x y h = tt
  ends_more (Some ListTooShort) x y h = tt
  ends_more None x y h = tt

  -- without the last entry
  all_but : (x : List (Answer F)) (e : Entry Token) → but_last (entries_in (x ++ Ok e ∷ [])) ≡ entries_in x
  all_but x e = ap but_last (entries_more x (Ok e ∷ [])) ∙ but_last_is (entries_in x) e

  -- what is let in when other answers came first
  pub let_in_first : (r : Option (ReadRefusal F)) (x y : List (Answer F)) → Ends r y → let_in_by r (x ++ y) ≡ entries_in x ++ let_in_by r y
  let_in_first (Some (Unfit p)) x y (z, (e, h)) =
      let kept = λ (w : List (Answer F)). but_last (entries_in w) in
      let whole : x ++ y ≡ (x ++ z) ++ Ok e ∷ [] = ap (λ (w : List (Answer F)). x ++ w) h ∙ sym (append_assoc x z (Ok e ∷ [])) in
      let last : kept y ≡ entries_in z = ap kept h ∙ all_but z e in
      ap kept whole ∙ all_but (x ++ z) e ∙ entries_more x z ∙ ap (λ (w : List (Entry Token)). entries_in x ++ w) (sym last)
  let_in_first (Some StackFull) x y h = entries_more x y
  let_in_first (Some MovesSpent) x y h = entries_more x y
  let_in_first (Some (Source f)) x y h = entries_more x y
  let_in_first (Some (Over e)) x y h = entries_more x y
  let_in_first (Some ListTooShort) x y h = entries_more x y
  let_in_first None x y h = entries_more x y

  module _ {g : Grammar} {T : Table} where
    step_ends : {s s' : State} {m m' : Meaning F} {gave : List (Answer F)} {x : ReadRefusal F} → Step g T s m gave (Err x) s' m'
        → Ends (Some x) gave
    step_ends (too_deep f x c l) = tt
    step_ends (refuse {es = es} {e = e} l a x) = (as_answers es, (e, refl))
    step_ends (fail l e) = tt
    step_ends (spend r e) = tt
    step_ends (late e) = tt

    pub moves_end : {n : ℕ} {s : State} {m : Meaning F} {c : Course F} → Moves g T n s m c → Ends c.refusal c.gave
    moves_end enough = tt
    moves_end (over e) = tt
    moves_end (move {gave = gave} {c = c} t d) = ends_more c.refusal gave c.gave (moves_end d)
    moves_end (stop r t) = step_ends t

    -- what a step lets in
    abbrev pub entered : {s s' : State} {m m' : Meaning F} {gave : List (Answer F)} {a : Result Move (ReadRefusal F)}
        → Step g T s m gave a s' m' → List (Entry Token)
    entered (finish {es = es} f) = es
    entered (take {es = es} f x t w) = es
    entered (announce {es = es} f x c l) = es
    entered (too_deep {es = es} f x c l) = es
    entered (refuse {es = es} l a x) = es
    entered (fail {es = es} l e) = es
    entered (spend r e) = []
    entered (late e) = []

    pub step_lets_in : {s s' : State} {m m' : Meaning F} {gave : List (Answer F)} {a : Result Move (ReadRefusal F)}
        (t : Step g T s m gave a s' m') → let_in_by (refusal_in a) gave ≡ entered t
    step_lets_in (finish {es = es} f) = entries_of F es
    step_lets_in (take {es = es} f x t w) = entries_of F es
    step_lets_in (announce {es = es} f x c l) = entries_of F es
    step_lets_in (too_deep {es = es} f x c l) = entries_of F es
    step_lets_in (refuse {es = es} {e = e} l a x) = all_but (as_answers es) e ∙ entries_of F es
    step_lets_in (fail {es = es} {f = f} l e) = entries_more (as_answers es) (Err f ∷ []) ∙ append-nil (entries_in (as_answers es)) ∙ entries_of F es
    step_lets_in (spend r e) = refl
    step_lets_in (late e) = refl
