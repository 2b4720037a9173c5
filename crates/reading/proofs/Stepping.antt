-- A step keeps what holds of the stack and the window of every reading: the entries that it lets in do, and then what it does with them.
use Rattle.std.proofs.Common.{ℕ, List, [], ◌∷◌, ◌++◌, drop, Result, sym, ap, subst, subst₂, append_assoc, append-nil}
use Rattle.source.specs.declared.token.Entry.{Entry}
use Rattle.source.specs.declared.token.Token.{Token}
use Rattle.source.specs.Meaning.{Meaning}
use Rattle.grammar.specs.Grammar.{Grammar}
use Rattle.grammar.specs.Sound.{Sound}
use Rattle.grammar.specs.Table.{Table, Accepted}
use Rattle.reading.specs.declared.answer.Move.{Move}
use Rattle.reading.specs.declared.answer.ReadRefusal.{ReadRefusal}
use Rattle.reading.specs.Given.{Answer, symbol_of, symbols_of}
use Rattle.reading.specs.State.{State, filled}
use Rattle.reading.specs.Window.{Enter}
use Rattle.reading.specs.Stack.{Placed}
use Rattle.reading.specs.Step.{Asks, Step, finish, take, announce, too_deep, refuse, fail, spend, late}
use Rattle.reading.proofs.Placing.{placed_enter, placed_take, placed_announce}
use Rattle.reading.proofs.Invariant.{symbols_more, symbols_drop}

-- what holds of a state of every reading
abbrev pub PlacedState : Grammar → Table → State → Type 0
PlacedState g T s = Placed g T s.stack (symbols_of s.window)

module _ (g : Grammar) (sound : Sound g) (T : Table) (ok : Accepted g T) where
  pub placed_enter_all : {q : ℕ} {below w : List ℕ} (es : List (Entry Token)) → Placed g T (q ∷ below) w → Enter g T q w es
      → Placed g T (q ∷ below) (w ++ symbols_of es)
  placed_enter_all {q} {below} {w} [] p h = subst (Placed g T (q ∷ below)) (sym (append-nil w)) p
  placed_enter_all {q} {below} {w} (e ∷ es) p h =
      subst (Placed g T (q ∷ below)) (append_assoc w (symbol_of e ∷ []) (symbols_of es))
      (placed_enter_all es (placed_enter g sound T ok e p h.0 h.1) h.2)

  module _ {F : Type 0} {s : State} {m : Meaning F} where
    pub placed_filled : {q : ℕ} {below : List ℕ} {es : List (Entry Token)} {m' : Meaning F} → PlacedState g T s → Asks g T s m q below es m'
        → Placed g T (q ∷ below) (symbols_of (filled s es).window)
    placed_filled {q} {below} {es} p a =
        subst (Placed g T (q ∷ below)) (sym (symbols_more s.window es))
        (placed_enter_all es (subst (λ (z : List ℕ). Placed g T z (symbols_of s.window)) a.stack_is p) a.entered)

    -- where a step makes no move, the stack is as it was
    stays : {q : ℕ} {below : List ℕ} {es : List (Entry Token)} {m' : Meaning F} → PlacedState g T s → Asks g T s m q below es m'
        → PlacedState g T (filled s es)
    stays {es = es} p a = subst (λ (z : List ℕ). Placed g T z (symbols_of (filled s es).window)) (sym a.stack_is) (placed_filled p a)

    pub placed_step : {gave : List (Answer F)} {a : Result Move (ReadRefusal F)} {s' : State} {m' : Meaning F} → PlacedState g T s
        → Step g T s m gave a s' m' → PlacedState g T s'
    placed_step p (finish f) = stays p f.asks
    placed_step p (take {es = es} f x t h) =
        let after = (placed_take g sound T ok (placed_filled p f.asks) f.full x t).0 in
        subst₂ (Placed g T) (sym (ap (drop 1) f.asks.stack_is)) (sym (symbols_drop (filled s es).window)) after
    placed_step p (announce f x c l) = placed_announce g sound T ok (placed_filled p f.asks) c
    placed_step p (too_deep f x c l) = stays p f.asks
    placed_step p (refuse l h n) = stays p l.asks
    placed_step p (fail l h) = stays p l.asks
    placed_step p (spend r e) = p
    placed_step p (late e) = p
