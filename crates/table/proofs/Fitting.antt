-- A rule fits the words of one state: look-ups find just the state after its right side, and every state on the way is one of the table. So a set
-- with that state's words has the words that the rule fits, and two rules fit one word just when their sets meet.
use Rattle.std.proofs.Common.{◌≡◌, ℕ, ◌+◌, ◌<◌, ◌≤◌, true, ◌⊎◌, List, [], ◌∷◌, length, get_or, drop, set, Some, None, Option, sym, refl, ap, ◌∙◌, subst, ap₂, inl, inr, arith}
use mathlib.Core.List.Memᴰ
use mathlib.Core.Option as math
use Rattle.std.proofs.lemmas.List.{get_or-set_same, get_or-set_other}
use Rattle.std.proofs.lemmas.Bool.{cases_eq, cases_lt}
use Rattle.grammar.specs.Grammar.{Rule}
use Rattle.grammar.specs.Table.{Table, After, Fits, TwoFit}
use Rattle.words.specs.Codes.{cut}
use Rattle.words.specs.Sets.{member, no_words}
use Rattle.words.specs.declared.set.Words.{Words}
use Rattle.frames.specs.declared.header.Header.{Header}
use Rattle.frames.specs.declared.header.Section as section
use Rattle.frames.specs.Form.{is_word}
use Rattle.frames.specs.Raw.{Raw, frame, header_of, left_of, right_of, section_of}
use Rattle.lookahead.specs.Entries.{WordIn, strip}
use Rattle.lookahead.specs.Stored.{Stores, StandsFor, with_entries}
use Rattle.lookahead.proofs.Comparing.{stored_meet}
use Rattle.lookahead.proofs.Entering.{words_stored}
use Rattle.table.specs.Contents.{rule_in, grammar_of, table_of}
use Rattle.table.specs.Drafts.{Formed}
use Rattle.table.specs.States.{answered, onwards, after_in}
use Rattle.table.specs.Fitted.{if_successor, fitting_state, words_at, fitting_words, set_of, FitWords, Share, MeetsLower}
use Rattle.table.proofs.Numbering.{rule_there, rule_found, right_is}
use Rattle.table.proofs.Formed.{ranges, left_good}
use Rattle.table.proofs.Sections.{state_words, found_successor}
use Rattle.table.proofs.Defining.{answered_some}

-- the set has the words that rule r fits at q.
abbrev pub Fitting : {K : ℕ} → Raw → ℕ → ℕ → Words K → Type 0
Fitting R q r W = Stores (header_of R) W (λ y. Fits (grammar_of R) (table_of R) q (left_of R r) y r)

-- each rule has its set of the words that it fits at q
pub record Fitted {K : ℕ} (R : Raw) (q : ℕ) (Ws : List (Words K)) : Type 0 where
  pub many : length Ws ≡ 60
  pub each : (r : ℕ) → r < (header_of R).p → Fitting R q r (set_of Ws r)

onwards_some : (T : Table) (X : ℕ) (o : Option ℕ) (p : ℕ) → onwards T X o ≡ Some p → (s : ℕ) × (o ≡ Some s) × (T.next s X ≡ math.some p)
onwards_some T X None p e = absurd cc
onwards_some T X (Some s) p e = (s, refl, answered_some (T.next s X) p e)

-- the look-ups find after(q, ω)
pub after_found : (T : Table) (q : ℕ) (ω : List ℕ) (p : ℕ) → after_in T q ω ≡ Some p → After T q ω p
after_found T q [] p e = let s : q ≡ p = cc in s
after_found T q (X ∷ ω) p e = let (s, f, n) = onwards_some T X (after_in T q ω) p e in (s, after_found T q ω s f, n)

pub after_named : (T : Table) (q : ℕ) (ω : List ℕ) (p : ℕ) → After T q ω p → after_in T q ω ≡ Some p
after_named T q [] p e = ap (λ (x : ℕ). Some x) e
after_named T q (X ∷ ω) p (s, a, n) = ap (onwards T X) (after_named T q ω s a) ∙ ap answered n

pub after_within : (R : Raw) → Formed R → (q : ℕ) → q < (header_of R).s → (ω : List ℕ) (p : ℕ) → After (table_of R) q ω p → p < (header_of R).s
after_within R formed q l [] p e = subst (λ (x : ℕ). x < (header_of R).s) e l
after_within R formed q l (X ∷ ω) p (s, a, n) = (found_successor R formed s (after_within R formed q l ω s a) X p n).state

if_some : (o : math.Option ℕ) (a : Option ℕ) (p : ℕ) → if_successor o a ≡ Some p → ((s : ℕ) × (o ≡ math.some s)) × (a ≡ Some p)
if_some math.none a p e = absurd cc
if_some (math.some s) a p e = ((s, refl), e)

-- what a rule fits by: with no successor by its left side there is no state, and with one it is the state after its right side
pub behind_none : (o : math.Option ℕ) (a : Option ℕ) → None ≡ answered o → None ≡ if_successor o a
behind_none math.none a e = refl
behind_none (math.some s) a e = absurd cc

pub behind_some : (o : math.Option ℕ) (a : Option ℕ) (s : ℕ) → Some s ≡ answered o → a ≡ if_successor o a
behind_some math.none a s e = absurd cc
behind_some (math.some q) a s e = refl

pub fitting_within : (R : Raw) → Formed R → (q : ℕ) → q < (header_of R).s → (r p : ℕ) → fitting_state R q r ≡ Some p → p < (header_of R).s
fitting_within R formed q l r p e =
    let (_, at) = if_some ((table_of R).next q (left_of R r)) (after_in (table_of R) q (right_of R r)) p e in
    after_within R formed q l (right_of R r) p (after_found (table_of R) q (right_of R r) p at)

-- What is known of a rule that fits: it is a rule of the nonterminal, and the word is one of its state.
pub record Placed (R : Raw) (q A : ℕ) (y : List ℕ) (r : ℕ) : Type 0 where
  pub within : r < (header_of R).p
  pub left_is : left_of R r ≡ A
  pub state : ℕ
  pub found : fitting_state R q r ≡ Some state
  pub word : WordIn (section_of R state section.TheVariants.Words) y

module _ (R : Raw) (formed : Formed R) (q : ℕ) where
  pub state_fits : (r : ℕ) → r < (header_of R).p → (p : ℕ) → fitting_state R q r ≡ Some p → (y : List ℕ)
      → WordIn (section_of R p section.TheVariants.Words) y → Fits (grammar_of R) (table_of R) q (left_of R r) y r
  state_fits r l p e y w =
      let (has, at) = if_some ((table_of R).next q (left_of R r)) (after_in (table_of R) q (right_of R r)) p e in
      record {
        nonterminal = left_good R formed r l;
        has_next = has;
        rule = rule_in R r;
        is_rule = rule_there R r l;
        left_is = refl;
        state = p;
        after_is = after_found (table_of R) q (drop 2 (frame R (1 + r))) p (ap (after_in (table_of R) q) (sym (right_is R r l)) ∙ at);
        word = w;
      }

  pub placed : (A : ℕ) (y : List ℕ) (r : ℕ) → Fits (grammar_of R) (table_of R) q A y r → Placed R q A y r
  placed A y r f =
      let (l, e) = rule_found R r f.rule f.is_rule in
      let left : left_of R r ≡ A = sym (ap (λ (ρ : Rule). ρ.left) e) ∙ f.left_is in
      let right : right_of R r ≡ f.rule.right = right_is R r l ∙ sym (ap (λ (ρ : Rule). ρ.right) e) in
      record {
        within = l;
        left_is = left;
        state = f.state;
        found = ap₂ if_successor (ap ((table_of R).next q) left ∙ f.has_next.1)
            (ap (after_in (table_of R) q) right ∙ after_named (table_of R) q f.rule.right f.state f.after_is);
        word = f.word;
      }

  pub fits_word : q < (header_of R).s → (A : ℕ) (y : List ℕ) (r : ℕ) → Fits (grammar_of R) (table_of R) q A y r → is_word (header_of R).k (header_of R) y ≡ true
  fits_word l A y r f = state_words R formed f.state (after_within R formed q l f.rule.right f.state f.after_is) y f.word

stores_like : {k : ℕ} (h : Header) (W : Words k) (P P' : List ℕ → Type 0) → ((y : List ℕ) → P y → P' y) → ((y : List ℕ) → P' y → P y) → Stores h W P → Stores h W P'
stores_like h W P P' f g s = record {
  words = λ y v. let d = s.words y v in (λ m. f y (d.0 m), λ p. d.1 (g y p));
  only = λ w m. let (y, (p, e)) = s.only w m in (y, (f y p, e));
}

module _ {K : ℕ} (R : Raw) (formed : Formed R) (q r : ℕ) (l : r < (header_of R).p) where
  pub fitting_some : (p : ℕ) → fitting_state R q r ≡ Some p → (W : Words K) → StandsFor (header_of R) W (section_of R p section.TheVariants.Words) → Fitting R q r W
  fitting_some p e W =
      stores_like (header_of R) W (WordIn (section_of R p section.TheVariants.Words)) (λ y. Fits (grammar_of R) (table_of R) q (left_of R r) y r)
      (state_fits R formed q r l p e)
      (λ y f.
      let x = placed R formed q (left_of R r) y r f in
      let z : Some x.state ≡ Some p = sym x.found ∙ e in
      let s : x.state ≡ p = cc in
      subst (λ (m : ℕ). WordIn (section_of R m section.TheVariants.Words) y) s x.word)

  pub fitting_none : fitting_state R q r ≡ None → (header_of R).k ≡ cut K → (header_of R).t ≤ 20 → Fitting R q r (no_words K)
  fitting_none e size few =
      stores_like (header_of R) (no_words K) (WordIn []) (λ y. Fits (grammar_of R) (table_of R) q (left_of R r) y r)
      (λ y m. absurd (Memᴰ.not-nil m))
      (λ y f.
      let x = placed R formed q (left_of R r) y r f in
      let clash : Some x.state ≡ None = sym x.found ∙ e in
      let z : ◌≡◌ {A = ℕ} 0 1 = cc in
      absurd (omega arith))
      (words_stored K (header_of R) size few [] (λ y m. absurd (Memᴰ.not-nil m)))

-- what is stored is told by the members
stores_same : {k : ℕ} (h : Header) (W W' : Words k) (P : List ℕ → Type 0) → ((w : List ℕ) → member W w ≡ member W' w) → Stores h W' P → Stores h W P
stores_same h W W' P e s = record {
  words = λ y v. let d = s.words y v in (λ m. d.0 (sym (e (strip y)) ∙ m), λ p. e (strip y) ∙ d.1 p);
  only = λ w m. s.only w (sym (e w) ∙ m);
}

module _ {K : ℕ} (R : Raw) (formed : Formed R) (q : ℕ) (l : q < (header_of R).s) (size : (header_of R).k ≡ cut K) where
  fitting_is : (r : ℕ) → r < (header_of R).p → Fitting R q r (fitting_words K R q r)
  fitting_is r lr = by (fitting_state R q r) refl
    where
      by : (o : Option ℕ) → fitting_state R q r ≡ o → Fitting R q r (words_at K R o)
      by None e = fitting_none R formed q r lr e size (ranges R formed).t_high
      by (Some p) e =
          fitting_some R formed q r lr p e (with_entries (no_words K) (section_of R p section.TheVariants.Words))
          (words_stored K (header_of R) size (ranges R formed).t_high (section_of R p section.TheVariants.Words) (state_words R formed p (fitting_within R formed q l r p e)))

  -- sets with the words that the rules fit
  pub fitted_by : (Ws : List (Words K)) → length Ws ≡ 60 → FitWords R q Ws → Fitted R q Ws
  fitted_by Ws many each = record {
    many = many;
    each = λ r lr. stores_same (header_of R) (set_of Ws r) (fitting_words K R q r) (λ y. Fits (grammar_of R) (table_of R) q (left_of R r) y r) (each r lr) (fitting_is r lr);
  }

-- one entry more of a list that is filled from its front with what has a property
pub filled_more : {A : Type 0} (P : ℕ → A → Type 0) (d : A) (xs : List A) (n : ℕ) (x : A) → n < length xs → P n x
    → ((k : ℕ) → k < n → P k (get_or xs k d)) → (k : ℕ) → k < n + 1 → P k (get_or (set xs n x) k d)
filled_more {A} P d xs n x h new old k l = by (cases_eq k n)
  where
    by : (k ≡ n) ⊎ (k ≡ n → ⊥) → P k (get_or (set xs n x) k d)
    by (inl e) = subst (λ (m : ℕ). P m (get_or (set xs n x) m d)) (sym e) (subst (P n) (sym (get_or-set_same xs n x d h)) new)
    by (inr e) = subst (P k) (sym (get_or-set_other xs n k x d e)) (old k (omega arith))

pub none_more : (P : ℕ → Type 0) (n : ℕ) → (P n → ⊥) → ((k : ℕ) → k < n → P k → ⊥) → (k : ℕ) → k < n + 1 → P k → ⊥
none_more P n new old k l x = by (cases_eq k n)
  where
    by : (k ≡ n) ⊎ (k ≡ n → ⊥) → ⊥
    by (inl e) = new (subst P e x)
    by (inr e) = old k (omega arith) x

module _ {K : ℕ} (R : Raw) (formed : Formed R) (q : ℕ) (l : q < (header_of R).s) (Ws : List (Words K)) (fitted : Fitted R q Ws) where
  abbrev Fit : ℕ → List ℕ → Type 0
  Fit r y = Fits (grammar_of R) (table_of R) q (left_of R r) y r

  pub lower_two : (r : ℕ) → r < (header_of R).p → MeetsLower R Ws r → TwoFit (grammar_of R) (table_of R) q
  lower_two r lr (m, lm, (same, meet)) =
      let lm' : m < (header_of R).p = omega arith in
      let (y, (f, f')) = (stored_meet (header_of R) (set_of Ws m) (set_of Ws r) (Fit m) (Fit r)
      (λ y. fits_word R formed q l (left_of R m) y m) (λ y. fits_word R formed q l (left_of R r) y r) (fitted.each m lm') (fitted.each r lr)).0 meet in
      record {
        nonterminal = left_of R r;
        word = y;
        one = m;
        other = r;
        one_fits = subst (λ (A : ℕ). Fits (grammar_of R) (table_of R) q A y m) same f;
        other_fits = f';
        differ = λ e. absurd (omega (arith, e, lm));
      }

  shared : (A : ℕ) (y : List ℕ) (m r : ℕ) → Fits (grammar_of R) (table_of R) q A y m → Fits (grammar_of R) (table_of R) q A y r → Share R Ws m r
  shared A y m r f f' =
      let x = placed R formed q A y m f in
      let x' = placed R formed q A y r f' in (
        x.left_is ∙ sym x'.left_is,
        (stored_meet (header_of R) (set_of Ws m) (set_of Ws r) (Fit m) (Fit r)
            (λ y. fits_word R formed q l (left_of R m) y m) (λ y. fits_word R formed q l (left_of R r) y r) (fitted.each m x.within) (fitted.each r x'.within)).1 (
              y,
              (
                subst (λ (B : ℕ). Fits (grammar_of R) (table_of R) q B y m) (sym x.left_is) f,
                subst (λ (B : ℕ). Fits (grammar_of R) (table_of R) q B y r) (sym x'.left_is) f',
              ),
            ),
      )

  pub two_lower : TwoFit (grammar_of R) (table_of R) q → (r : ℕ) × (r < (header_of R).p) × MeetsLower R Ws r
  two_lower t = by (cases_lt t.one t.other) (cases_lt t.other t.one)
    where
      at : (r : ℕ) → Fits (grammar_of R) (table_of R) q t.nonterminal t.word r → r < (header_of R).p
      at r f = (placed R formed q t.nonterminal t.word r f).within

      by : (t.one < t.other) ⊎ (t.other ≤ t.one) → (t.other < t.one) ⊎ (t.one ≤ t.other) → (r : ℕ) × (r < (header_of R).p) × MeetsLower R Ws r
      by (inl x) _ = (t.other, at t.other t.other_fits, (t.one, x, shared t.nonterminal t.word t.one t.other t.one_fits t.other_fits))
      by (inr _) (inl x) = (t.one, at t.one t.one_fits, (t.other, x, shared t.nonterminal t.word t.other t.one t.other_fits t.one_fits))
      by (inr x) (inr y) = absurd (t.differ (omega (arith, x, y)))
