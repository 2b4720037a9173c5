-- Entries and their symbols and signs, and what one source gave. Among the entries of a sentence only the end has the end mark, since a token of
-- the grammar has another symbol: so entries that are the grammar's begin a sentence with its end mark just when their symbols do.
use Rattle.std.proofs.Common.{◌≡◌, ℕ, ◌⊎◌, List, [], ◌∷◌, ◌++◌, Ok, sym, refl, ap, ◌∙◌, subst, ap₂, inl, inr}
use Rattle.source.specs.declared.token.Entry.{Entry}
use Rattle.source.specs.declared.token.Entry.TheVariants.{Given, End}
use Rattle.source.specs.declared.token.Place.{Place}
use Rattle.source.specs.declared.token.Token.{Token}
use Rattle.source.specs.Meaning.{Last, Meaning, ends, faults, first}
use Rattle.grammar.specs.Grammar.{Grammar, IsToken, Every, WellFormed, end_mark}
use Rattle.table.specs.LookUps.{BeginsWith}
use Rattle.grammar.proofs.Lists.{head_is, tail_is}
use Rattle.grammar.proofs.First.{token_no_mark}
use Rattle.reading.specs.Given.{Answer, Gave, as_answers, listed, symbol_of, symbols_of, kinds}
use Rattle.reading.specs.Window.{EndsInMark}
use Rattle.reading.proofs.Invariant.{ValidEntry, Valid}
use Rattle.reading.specs.Sentences.{Sign, token, end, with_end, sign_of, signs, Continues}

pub signs_more : (es fs : List (Entry Token)) → signs (es ++ fs) ≡ signs es ++ signs fs
signs_more [] fs = refl
signs_more (e ∷ es) fs = ap (λ (y : List Sign). sign_of e ∷ y) (signs_more es fs)

-- the symbol of a sign
abbrev symbol_in : Sign → ℕ
symbol_in (token a) = a
symbol_in end = end_mark

abbrev symbols_in : List Sign → List ℕ
symbols_in [] = []
symbols_in (x ∷ xs) = symbol_in x ∷ symbols_in xs

symbol_same : (e : Entry Token) → symbol_in (sign_of e) ≡ symbol_of e
symbol_same (Given t) = refl
symbol_same (End p) = refl

symbols_with_end : (v : List ℕ) → symbols_in (with_end v) ≡ v ++ end_mark ∷ []
symbols_with_end [] = refl
symbols_with_end (a ∷ v) = ap (λ y. a ∷ y) (symbols_with_end v)

-- the symbols of signs behind those of entries
symbols_behind : (es : List (Entry Token)) (xs : List Sign) → symbols_in (signs es ++ xs) ≡ symbols_of es ++ symbols_in xs
symbols_behind [] xs = refl
symbols_behind (Given t ∷ es) xs = ap (λ y. t.kind ∷ y) (symbols_behind es xs)
symbols_behind (End p ∷ es) xs = ap (λ y. end_mark ∷ y) (symbols_behind es xs)

pub begins_symbols : (v : List ℕ) (es : List (Entry Token)) → Continues v es → BeginsWith (v ++ end_mark ∷ []) (symbols_of es)
begins_symbols v es b =
    record { rest = symbols_in b.rest; splits = sym (symbols_with_end v) ∙ ap symbols_in b.splits ∙ symbols_behind es b.rest }

module _ (g : Grammar) (wf : WellFormed g) where
  pub begins_signs : (v : List ℕ) (es : List (Entry Token)) → Every (IsToken g) v → Valid g es
      → BeginsWith (v ++ end_mark ∷ []) (symbols_of es) → Continues v es
  begins_signs v [] t x b = record { rest = with_end v; splits = refl }
  begins_signs [] (Given a ∷ es) t x b = absurd (token_no_mark g wf a.kind x.0 (sym (head_is b.splits)))
  begins_signs [] (End p ∷ []) t x b = record { rest = []; splits = refl }
  begins_signs [] (End p ∷ e ∷ es) t x b = absurd cc
  begins_signs (c ∷ v) (Given a ∷ es) t x b =
      let below = begins_signs v es t.1 x.1 (record { rest = b.rest; splits = tail_is b.splits }) in
      record { rest = below.rest; splits = ap₂ (λ (y : ℕ) (z : List Sign). token y ∷ z) (head_is b.splits) below.splits }
  begins_signs (c ∷ v) (End p ∷ es) t x b = absurd (token_no_mark g wf c t.0 (head_is b.splits))

  pub signs_are : (v : List ℕ) (es : List (Entry Token)) → Every (IsToken g) v → Valid g es → symbols_of es ≡ v ++ end_mark ∷ []
      → signs es ≡ with_end v
  signs_are [] [] t x e = absurd cc
  signs_are (c ∷ v) [] t x e = absurd cc
  signs_are [] (Given a ∷ es) t x e = absurd (token_no_mark g wf a.kind x.0 (head_is e))
  signs_are [] (End p ∷ []) t x e = refl
  signs_are [] (End p ∷ d ∷ es) t x e = absurd cc
  signs_are (c ∷ v) (Given a ∷ es) t x e = ap₂ (λ (y : ℕ) (z : List Sign). token y ∷ z) (head_is e) (signs_are v es t.1 x.1 (tail_is e))
  signs_are (c ∷ v) (End p ∷ es) t x e = absurd (token_no_mark g wf c t.0 (sym (head_is e)))

  -- an entry of a sentence
  pub entry_valid : (v : List ℕ) (es : List (Entry Token)) (e : Entry Token) → Every (IsToken g) v → Continues v (es ++ e ∷ []) → ValidEntry g e
  entry_valid v es (End p) t b = tt
  entry_valid [] [] (Given a) t b = absurd cc
  entry_valid (c ∷ v) [] (Given a) t b = subst (IsToken g) (ap symbol_in (head_is b.splits)) t.0
  entry_valid [] (d ∷ []) (Given a) t b = absurd cc
  entry_valid [] (d ∷ f ∷ es) (Given a) t b = absurd cc
  entry_valid (c ∷ v) (d ∷ es) (Given a) t b = entry_valid v es (Given a) t.1 (record { rest = b.rest; splits = tail_is b.splits })

  -- where tokens and then more end in the end mark, more does
  pub ends_behind : (u w z : List ℕ) → Every (IsToken g) u → u ++ w ≡ z ++ end_mark ∷ [] → EndsInMark w
  ends_behind [] w z t e = (z, e)
  ends_behind (a ∷ u) w [] t e = absurd (token_no_mark g wf a t.0 (head_is e))
  ends_behind (a ∷ u) w (b ∷ z) t e = ends_behind u w z t.1 (tail_is e)

-- only tokens
abbrev pub AllTokens : List (Entry Token) → Type 0
AllTokens [] = Unit {0}
AllTokens (Given t ∷ es) = AllTokens es
AllTokens (End p ∷ es) = ⊥

abbrev pub EndsInEnd : List (Entry Token) → Type 0
EndsInEnd es = (x : List (Entry Token)) × ((p : Place) × (es ≡ x ++ End p ∷ []))

-- what a sentence with its end mark begins with is tokens, or ends in the end
pub tokens_or_end : (v : List ℕ) (es : List (Entry Token)) → Continues v es → AllTokens es ⊎ EndsInEnd es
tokens_or_end v [] b = inl tt
tokens_or_end [] (Given a ∷ es) b = absurd cc
tokens_or_end [] (End p ∷ []) b = inr ([], (p, refl))
tokens_or_end [] (End p ∷ e ∷ es) b = absurd cc
tokens_or_end (c ∷ v) (End p ∷ es) b = absurd cc
tokens_or_end (c ∷ v) (Given a ∷ es) b = more (tokens_or_end v es (record { rest = b.rest; splits = tail_is b.splits }))
  where
    more : AllTokens es ⊎ EndsInEnd es → AllTokens es ⊎ EndsInEnd (Given a ∷ es)
    more (inl t) = inl t
    more (inr (x, (p, e))) = inr (Given a ∷ x, (p, ap (λ (y : List (Entry Token)). Given a ∷ y) e))

module _ {F : Type 0} where
  given_same : {t u : Token} → ◌≡◌ {A = Answer F} (Ok (Given t)) (Ok (Given u)) → t ≡ u
  given_same e = cc

  no_given : (t : Token) (l : Last F) → Ok (Given t) ≡ first [] l → ⊥
  no_given t (ends p) e = absurd cc
  no_given t (faults f) e = absurd cc

  -- tokens and one entry more, from one source, begin its list
  pub gave_tokens : (es : List (Entry Token)) (e : Entry Token) (ts : List Token) (l : Last F) (m' : Meaning F) → AllTokens es
      → Gave (record { tokens = ts; last = l }) (as_answers (es ++ e ∷ [])) m' → BeginsWith (listed ts l) (as_answers (es ++ e ∷ []))
  gave_tokens [] e [] l m' t h = record { rest = []; splits = ap (λ (y : Answer F). y ∷ []) (sym h.0) }
  gave_tokens [] e (u ∷ ts) l m' t h = record { rest = listed ts l; splits = ap (λ (y : Answer F). y ∷ listed ts l) (sym h.0) }
  gave_tokens (Given c ∷ es) e [] l m' t h = absurd (no_given c l h.0)
  gave_tokens (Given c ∷ es) e (u ∷ ts) l m' t h =
      let b = gave_tokens es e ts l m' t h.1 in
      record { rest = b.rest; splits = ap₂ (λ (y : Answer F) (z : List (Answer F)). y ∷ z) (sym h.0) b.splits }
  gave_tokens (End p ∷ es) e ts l m' t h = absurd t

  -- a source that gave a whole sentence with its end has no other list
  pub gave_whole : (v : List ℕ) (es : List (Entry Token)) (ts : List Token) (l : Last F) (m' : Meaning F) → signs es ≡ with_end v
      → Gave (record { tokens = ts; last = l }) (as_answers es) m'
      → (kinds ts ≡ v) × (as_answers es ≡ listed ts l) × ((p : Place) × (l ≡ ends p))
  gave_whole [] [] ts l m' e h = absurd cc
  gave_whole (c ∷ v) [] ts l m' e h = absurd cc
  gave_whole [] (Given a ∷ es) ts l m' e h = absurd cc
  gave_whole [] (End p ∷ d ∷ es) ts l m' e h = absurd cc
  gave_whole (c ∷ v) (End p ∷ es) ts l m' e h = absurd cc
  gave_whole [] (End p ∷ []) [] (ends q) m' e h = (refl, ap (λ (y : Answer F). y ∷ []) h.0, (q, refl))
  gave_whole [] (End p ∷ []) [] (faults f) m' e h = absurd cc
  gave_whole [] (End p ∷ []) (u ∷ ts) l m' e h = absurd cc
  gave_whole (c ∷ v) (Given a ∷ es) [] l m' e h = absurd (no_given a l h.0)
  gave_whole (c ∷ v) (Given a ∷ es) (u ∷ ts) l m' e h =
      let (k, s, q) = gave_whole v es ts l m' (tail_is e) h.1 in
      let same : u.kind ≡ c = ap (λ (t : Token). t.kind) (sym (given_same h.0)) ∙ ap symbol_in (head_is e) in
      (ap₂ (λ (y : ℕ) (z : List ℕ). y ∷ z) same k, ap₂ (λ (y : Answer F) (z : List (Answer F)). y ∷ z) h.0 s, q)

  -- what begins a list that ends
  pub list_continues : (ts : List Token) (p : Place) (es : List (Entry Token)) → BeginsWith (listed {F = F} ts (ends p)) (as_answers es)
      → Continues (kinds ts) es
  list_continues ts p [] b = record { rest = with_end (kinds ts); splits = refl }
  list_continues [] p (Given a ∷ es) b = absurd cc
  list_continues [] p (End q ∷ []) b = record { rest = []; splits = refl }
  list_continues [] p (End q ∷ d ∷ es) b = absurd cc
  list_continues (t ∷ ts) p (End q ∷ es) b = absurd cc
  list_continues (t ∷ ts) p (Given a ∷ es) b =
      let below = list_continues ts p es (record { rest = b.rest; splits = tail_is b.splits }) in
      let same : t.kind ≡ a.kind = ap (λ (u : Token). u.kind) (given_same (head_is b.splits)) in
      record { rest = below.rest; splits = ap₂ (λ (y : ℕ) (z : List Sign). token y ∷ z) same below.splits }
