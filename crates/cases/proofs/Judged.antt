-- The rows of the check by tests that compute: each test tells whether the row's demand is met, or that it is, or that it is not.
use Rattle.std.proofs.Common.{◌≡◌, ℕ, zero, suc, ◌+◌, ◌-◌, ◌<◌, ◌≤◌, Bool, true, false, not, ◌&&◌, ◌||◌, eqb, ltb, ◌⊎◌, ◌↔◌, List, [], ◌∷◌, ◌++◌, length, get_or, Some, None, Option, sym, refl, ap, ◌∙◌, subst, inl, inr, ⊎_elim, arith}
use mathlib.Core.List.Memᴰ
use mathlib.Core.List.{Memᴰ}
use mathlib.Core.Option as math
use Rattle.std.proofs.lemmas.Bool.{true≢false, cases_Bool, and_parts, and_from, or_cases, not_from_true, not_from_false, eqb-true, eq-eqb, ne_eqb, ltb-true}
use Rattle.grammar.specs.Grammar.{Rule, Grammar, rule_at, IsSymbol}
use Rattle.grammar.specs.First.{FirstWith}
use Rattle.grammar.specs.Item.{Item, raised, start_item, Before, Closure, HasNext, NextKernel, OfList}
use Rattle.grammar.specs.Sound.{Productive, Occurs, start, inside}
use Rattle.grammar.specs.Table.{Table, Kernel, Word, StartAsDefined, SuccessorsAsDefined, EqualToLower, Found, NotFound, Fits, TwoFit}
use Rattle.grammar.proofs.Reachable.{reachable_is_found}
use Rattle.frames.specs.Raw.{Raw, header_of, left_of, section_of}
use Rattle.frames.specs.Form.{needed, start_good, frame_good}
use Rattle.frames.specs.declared.header.Section.TheVariants.{Successors, Choices}
use Rattle.frames.proofs.Ends.{good_throughout}
use Rattle.items.specs.Entries.{same_item}
use Rattle.lookahead.specs.Entries.{Choice, choices_in}
use Rattle.table.specs.Contents.{grammar_of, table_of, Successor, successors_in, successor_in, same_word, choice_in}
use Rattle.table.specs.Drafts.{Formed}
use Rattle.table.specs.Fitted.{fitting_state}
use Rattle.table.specs.Rows.{starts, frames, productive, reachable, Good, SuccessorsOnce, StateGood, ChoicesOnce, ChoicesGood}
use Rattle.table.proofs.Fitting.{state_fits, placed}
use Rattle.table.proofs.Formed.{symbol_good}
use Rattle.table.proofs.Sections.{successor_entry, choice_entry, found_successor}
use Rattle.cases.proofs.Searches.{every, every_at, one_of, one_at, one_found, up_to, low_in, in_low, items_told, words_told, numbers_told, among, among_is, is_among, alike, alike_at, alike_from, bind, bind_in, bind_from, where_true, where_in, where_from}
use Rattle.cases.proofs.Closing.{before_dot, before_told, told_before, closure_of, is_closed, closed_in, in_closed}
use Rattle.cases.proofs.Beginnings.{Sets, joined, set_at, words_at}

-- The frames are good when those up to the one behind the last are.
pub formed_by : (R : Raw) → every (λ i. frame_good R i) (up_to (needed R + 1)) ≡ true → Formed R
formed_by R t =
    good_throughout R (λ i l bad. true≢false (sym (every_at (λ j. frame_good R j) (up_to (needed R + 1)) t i (low_in (needed R + 1) i l)) ∙ bad))

pub good_frames : (R : Raw) → Formed R → (i : ℕ) → Good R frames i
good_frames R formed i = ⊎_elim (λ e. e) (λ e. absurd (formed i e)) (cases_Bool (frame_good R i))

pub good_starts : (R : Raw) → every (λ i. start_good R i) (up_to R.frames) ≡ true → (i : ℕ) → Good R starts i
good_starts R t i l = every_at (λ j. start_good R j) (up_to R.frames) t i (low_in R.frames i l)

-- There is a word.
abbrev pub some_word : List (List ℕ) → Bool
some_word [] = false
some_word (w ∷ ws) = true

word_there : (ws : List (List ℕ)) → some_word ws ≡ true → (w : List ℕ) × Memᴰ w ws
word_there [] e = absurd (true≢false (sym e))
word_there (w ∷ ws) e = (w, Memᴰ.head refl)

pub good_productive : (R : Raw) (S : Sets)
    → ((A : ℕ) → 32 ≤ A → (w : List ℕ) → Memᴰ w (set_at S A) → Productive (grammar_of R) A)
    → every (λ i. some_word (get_or S i [])) (up_to (header_of R).n) ≡ true → (A : ℕ) → Good R productive A
good_productive R S so t A n =
    let l : A - 32 < (header_of R).n = omega (arith, n.0, n.1) in
    let (w, m) = word_there (set_at S A) (every_at (λ i. some_word (get_or S i [])) (up_to (header_of R).n) t (A - 32) (low_in (header_of R).n (A - 32) l)) in
    so A n.0 w m

-- The symbols on the right of rules whose left side is in a list, and that list.
abbrev pub onward : List Rule → List ℕ → List ℕ
onward [] L = L
onward (ρ ∷ ρs) L = where_true (among eqb L ρ.left) ρ.right ++ onward ρs L

-- So many times onward from the start symbol.
abbrev pub reached : Grammar → ℕ → List ℕ
reached g zero = 32 ∷ []
reached g (suc n) = onward g.rules (reached g n)

-- A symbol stands on the right of a rule whose left side is in the list.
pub record Onward (ρs : List Rule) (L : List ℕ) (X : ℕ) : Type 0 where
  pub number : ℕ
  pub rule : Rule
  pub is_rule : rule_at ρs number ≡ math.some rule
  pub left_in : Memᴰ rule.left L
  pub right_has : Memᴰ X rule.right

onward_from : (ρs : List Rule) (L : List ℕ) (X : ℕ) → Memᴰ X (onward ρs L) → Memᴰ X L ⊎ Onward ρs L X
onward_from [] L X m = inl m
onward_from (ρ ∷ ρs) L X m = by (Memᴰ.append_cases (where_true (among eqb L ρ.left) ρ.right) m) (λ n. onward_from ρs L X n)
  where
    on : Memᴰ X L ⊎ Onward ρs L X → Memᴰ X L ⊎ Onward (ρ ∷ ρs) L X
    on (inl n) = inl n
    on (inr o) = inr (record { number = suc o.number; rule = o.rule; is_rule = o.is_rule; left_in = o.left_in; right_has = o.right_has })

    by : Memᴰ X (where_true (among eqb L ρ.left) ρ.right) ⊎ Memᴰ X (onward ρs L)
        → (Memᴰ X (onward ρs L) → Memᴰ X L ⊎ Onward ρs L X) → Memᴰ X L ⊎ Onward (ρ ∷ ρs) L X
    by (inl n) so =
        let (t, h) = where_from (among eqb L ρ.left) ρ.right X n in
        inr (record { number = 0; rule = ρ; is_rule = refl; left_in = among_is numbers_told L ρ.left t; right_has = h })
    by (inr n) so = on (so n)

cut_there : (xs : List ℕ) (X : ℕ) → Memᴰ X xs → (α β : List ℕ) × (xs ≡ α ++ X ∷ β)
cut_there [] X m = absurd (Memᴰ.not-nil m)
cut_there (x ∷ xs) X m =
    ⊎_elim
    (λ e. ([], xs, ap (λ (y : ℕ). y ∷ xs) (sym e)))
    (λ n. let (α, β, e) = cut_there xs X n in (x ∷ α, β, ap (λ (ys : List ℕ). x ∷ ys) e))
    (Memᴰ.cases_cons m)

reached_occurs : (g : Grammar) (n X : ℕ) → Memᴰ X (reached g n) → Occurs g X
reached_occurs g zero X m = ⊎_elim (λ e. start e) (λ n. absurd (Memᴰ.not-nil n)) (Memᴰ.cases_cons m)
reached_occurs g (suc n) X m =
    ⊎_elim
    (λ old. reached_occurs g n X old)
    (λ o. let (α, β, e) = cut_there o.rule.right X o.right_has in
    inside o.number o.rule α β (reached_occurs g n o.rule.left o.left_in) o.is_rule refl e)
    (onward_from g.rules (reached g n) X m)

pub good_reachable : (R : Raw) (n : ℕ) → every (λ i. among eqb (reached (grammar_of R) n) (32 + i)) (up_to (header_of R).n) ≡ true → (A : ℕ) → Good R reachable A
good_reachable R n t A k =
    let l : A - 32 < (header_of R).n = omega (arith, k.0, k.1) in
    let z : 32 + (A - 32) ≡ A = omega (arith, k.0) in
    let e = every_at (λ i. among eqb (reached (grammar_of R) n) (32 + i)) (up_to (header_of R).n) t (A - 32) (low_in (header_of R).n (A - 32) l) in
    let m = among_is numbers_told (reached (grammar_of R) n) (32 + (A - 32)) e in
    (reachable_is_found (grammar_of R) A).1 (reached_occurs (grammar_of R) n A (subst (λ (x : ℕ). Memᴰ x (reached (grammar_of R) n)) z m))

-- A look-up names q.
abbrev pub names : math.Option ℕ → ℕ → Bool
names math.none q = false
names (math.some p) q = eqb p q

names_is : (o : math.Option ℕ) (q : ℕ) → names o q ≡ true → o ≡ math.some q
names_is math.none q e = absurd (true≢false (sym e))
names_is (math.some p) q e = ap (λ (x : ℕ). math.some x) (eqb-true p q e)

is_named : (o : math.Option ℕ) (q : ℕ) → o ≡ math.some q → names o q ≡ true
is_named o q e = ap (λ (x : math.Option ℕ). names x q) e ∙ eq-eqb q q refl

-- A look-up names something.
abbrev pub names_some : math.Option ℕ → Bool
names_some math.none = false
names_some (math.some p) = true

some_named : (o : math.Option ℕ) → names_some o ≡ true → (q : ℕ) × (o ≡ math.some q)
some_named math.none e = absurd (true≢false (sym e))
some_named (math.some p) e = (p, refl)

-- The symbol before a dot is X.
abbrev pub is_before : Option ℕ → ℕ → Bool
is_before None X = false
is_before (Some Y) X = eqb Y X

before_is : (o : Option ℕ) (X : ℕ) → is_before o X ≡ true → o ≡ Some X
before_is None X e = absurd (true≢false (sym e))
before_is (Some Y) X e = ap (λ (x : ℕ). Some x) (eqb-true Y X e)

is_before_is : (o : Option ℕ) (X : ℕ) → o ≡ Some X → is_before o X ≡ true
is_before_is o X e = ap (λ (x : Option ℕ). is_before x X) e ∙ eq-eqb X X refl

-- The item with the dot one lower.
abbrev pub lowered : Item → Item
lowered i = record { rule = i.rule; dot = i.dot - 1 }

-- The items of a list with X before the dot, each with the dot one lower.
abbrev pub nexts : Grammar → List Item → ℕ → List Item
nexts g C X = bind (λ i. where_true (is_before (before_dot g i) X) (lowered i ∷ [])) C

nexts_from : (g : Grammar) (C : List Item) (X : ℕ) (i : Item) → Memᴰ i (nexts g C X) → Memᴰ (raised i) C × Before g (raised i) X
nexts_from g C X i m =
    let (j, (p, n)) = bind_from (λ i. where_true (is_before (before_dot g i) X) (lowered i ∷ [])) C i m in
    let (t, h) = where_from (is_before (before_dot g j) X) (lowered j ∷ []) i n in
    let s : i ≡ lowered j = ⊎_elim (λ e. e) (λ n'. absurd (Memᴰ.not-nil n')) (Memᴰ.cases_cons h) in
    let b = told_before g j X (before_is (before_dot g j) X t) in
    let d : j.dot - 1 + 1 ≡ j.dot = omega (arith, b.dot_is) in
    let up : raised (lowered j) ≡ j = λ x. record { rule = j.rule; dot = d x } in
    let same : raised i ≡ j = ap raised s ∙ up in
    (subst (λ (k : Item). Memᴰ k C) (sym same) p, subst (λ (k : Item). Before g k X) (sym same) b)

nexts_has : (g : Grammar) (C : List Item) (X : ℕ) (i : Item) → Memᴰ (raised i) C → Before g (raised i) X → Memᴰ i (nexts g C X)
nexts_has g C X i m b =
    let d : i.dot + 1 - 1 ≡ i.dot = omega arith in
    let down : lowered (raised i) ≡ i = λ x. record { rule = i.rule; dot = d x } in
    bind_in (λ i. where_true (is_before (before_dot g i) X) (lowered i ∷ [])) C (raised i) i m
    (where_in (is_before (before_dot g (raised i)) X) (lowered (raised i) ∷ []) i (is_before_is (before_dot g (raised i)) X (before_told g (raised i) X b)) (Memᴰ.head (sym down)))

module _ (R : Raw) where
  abbrev g : Grammar
  g = grammar_of R

  abbrev T : Table
  T = table_of R

  -- the pairs of state q's successors
  abbrev pub pairs : ℕ → List ℕ
  pairs q = section_of R q Successors

  -- the closure of state q
  abbrev pub closure_at : ℕ → List Item
  closure_at q = closure_of g (T.kernel q)

  -- the words that a successor of q by X should have
  abbrev pub words_by : Sets → ℕ → ℕ → List (List ℕ)
  words_by S q X = joined g.k (words_at g.k S X) (T.words q)

  -- a named successor of q has the kernel and the words that it should have
  abbrev pub entry_fine : Sets → ℕ → List Item → Successor → Bool
  entry_fine S q C e =
      one_of (λ i. is_before (before_dot g i) e.symbol) C
      && (alike same_item (T.kernel e.state) (nexts g C e.symbol) && alike same_word (T.words e.state) (words_by S q e.symbol))

  -- the symbol before a dot has a successor
  abbrev pub leads_on : ℕ → Option ℕ → Bool
  leads_on q None = true
  leads_on q (Some X) = names_some (successor_in X (pairs q))

  abbrev pub led_on : ℕ → Item → Bool
  led_on q i = leads_on q (before_dot g i)

  -- a successor is what is found by its symbol
  abbrev pub named_so : ℕ → Successor → Bool
  named_so q e = names (successor_in e.symbol (pairs q)) e.state

  -- state q by its closure: each successor is named once and is fine, and none is missing
  abbrev pub state_by : Sets → ℕ → List Item → Bool
  state_by S q C =
      is_closed g (T.kernel q) C
      && (every (named_so q) (successors_in (pairs q))
      && (every (entry_fine S q C) (successors_in (pairs q)) && every (led_on q) C))

  -- a named successor of q has other words than it should
  abbrev pub wrong_words : Sets → ℕ → Successor → Bool
  wrong_words S q e = named_so q e && not (alike same_word (T.words e.state) (words_by S q e.symbol))

  abbrev pub misworded : Sets → ℕ → Bool
  misworded S q = one_of (wrong_words S q) (successors_in (pairs q))

  -- state 0 has the start item and the end mark
  abbrev pub start_fine : Bool
  start_fine = alike same_item (T.kernel 0) (start_item g ∷ []) && alike same_word (T.words 0) ((31 ∷ []) ∷ [])

  start_defined : start_fine ≡ true → StartAsDefined g T
  start_defined t =
      let (a, b) = and_parts (alike same_item (T.kernel 0) (start_item g ∷ [])) _ t in
      record {
        kernel = λ i.
            let p = alike_at items_told (T.kernel 0) (start_item g ∷ []) a i in
            (λ m. ⊎_elim (λ e. e) (λ n. absurd (Memᴰ.not-nil n)) (Memᴰ.cases_cons (p.0 m)), λ e. p.1 (Memᴰ.head e));
        words = λ y.
            let p = alike_at words_told (T.words 0) ((31 ∷ []) ∷ []) b y in
            (λ m. ⊎_elim (λ e. e) (λ n. absurd (Memᴰ.not-nil n)) (Memᴰ.cases_cons (p.0 m)), λ e. p.1 (Memᴰ.head e));
      }

  -- the sets tell the words of FIRST(X W)
  abbrev pub FirstsTold : Sets → Type 0
  FirstsTold S =
      (X : ℕ) → IsSymbol g X → (W : List (List ℕ)) (y : List ℕ)
      → FirstWith g (X ∷ []) (λ (w : List ℕ). Memᴰ w W) y ↔ Memᴰ y (joined g.k (words_at g.k S X) W)

  module _ (formed : Formed R) (S : Sets) (firsts : FirstsTold S) (q : ℕ) (l : q < (header_of R).s) where
    successors_defined : state_by S q (closure_at q) ≡ true → SuccessorsOnce R q × SuccessorsAsDefined g T q
    successors_defined t = (once, record { symbols = symbols; within = λ X p e. (found_successor R formed q l X p e).state; kernel = kernel; words = words })
      where
        t₀ : (is_closed g (T.kernel q) (closure_at q) ≡ true)
            × ((every (named_so q) (successors_in (pairs q))
            && (every (entry_fine S q (closure_at q)) (successors_in (pairs q)) && every (led_on q) (closure_at q))) ≡ true)
        t₀ = and_parts (is_closed g (T.kernel q) (closure_at q)) _ t

        t₁ : (every (named_so q) (successors_in (pairs q)) ≡ true)
            × ((every (entry_fine S q (closure_at q)) (successors_in (pairs q)) && every (led_on q) (closure_at q)) ≡ true)
        t₁ = and_parts (every (named_so q) (successors_in (pairs q))) _ t₀.1

        t₂ : (every (entry_fine S q (closure_at q)) (successors_in (pairs q)) ≡ true) × (every (led_on q) (closure_at q) ≡ true)
        t₂ = and_parts (every (entry_fine S q (closure_at q)) (successors_in (pairs q))) _ t₁.1

        once : SuccessorsOnce R q
        once e m = names_is (successor_in e.symbol (pairs q)) e.state
            (every_at (named_so q) (successors_in (pairs q)) t₁.0 e m)

        entry : (X p : ℕ) → successor_in X (pairs q) ≡ math.some p → entry_fine S q (closure_at q) (record { symbol = X; state = p }) ≡ true
        entry X p e = every_at (entry_fine S q (closure_at q)) (successors_in (pairs q)) t₂.0 (record { symbol = X; state = p }) (successor_entry X p (pairs q) e)

        in_closure : (i : Item) → Closure g (OfList (T.kernel q)) i → Memᴰ i (closure_at q)
        in_closure i c = in_closed g (T.kernel q) (closure_at q) t₀.0 i c

        of_closure : (i : Item) → Memᴰ i (closure_at q) → Closure g (OfList (T.kernel q)) i
        of_closure i m = closed_in g (T.kernel q) (length g.rules) i m

        symbols : (X : ℕ) → ((p : ℕ) × (successor_in X (pairs q) ≡ math.some p)) ↔ HasNext g (OfList (T.kernel q)) X
        symbols X = (
          λ (p, e).
              let (i, (m, b)) = one_found (λ i. is_before (before_dot g i) X) (closure_at q) (and_parts (one_of (λ i. is_before (before_dot g i) X) (closure_at q)) _ (entry X p e)).0 in
              (i, (of_closure i m, told_before g i X (before_is (before_dot g i) X b))),
          λ (i, (c, b)).
              let e = every_at (led_on q) (closure_at q) t₂.1 i (in_closure i c) in
              some_named (successor_in X (pairs q)) (sym (ap (leads_on q) (before_told g i X b)) ∙ e),
        )

        parts : (X p : ℕ) → successor_in X (pairs q) ≡ math.some p
            → (alike same_item (T.kernel p) (nexts g (closure_at q) X) ≡ true) × (alike same_word (T.words p) (words_by S q X) ≡ true)
        parts X p e =
            and_parts (alike same_item (T.kernel p) (nexts g (closure_at q) X)) _
            (and_parts (one_of (λ i. is_before (before_dot g i) X) (closure_at q)) _ (entry X p e)).1

        kernel : (X p : ℕ) → successor_in X (pairs q) ≡ math.some p → (i : Item) → Kernel T p i ↔ NextKernel g (OfList (T.kernel q)) X i
        kernel X p e i =
            let a = alike_at items_told (T.kernel p) (nexts g (closure_at q) X) (parts X p e).0 i in (
              λ m. let (c, b) = nexts_from g (closure_at q) X i (a.0 m) in (of_closure (raised i) c, b),
              λ (c, b). a.1 (nexts_has g (closure_at q) X i (in_closure (raised i) c) b),
            )

        words : (X p : ℕ) → successor_in X (pairs q) ≡ math.some p → (y : List ℕ) → Word T p y ↔ FirstWith g (X ∷ []) (Word T q) y
        words X p e y =
            let a = alike_at words_told (T.words p) (words_by S q X) (parts X p e).1 y in
            let f = firsts X (symbol_good R formed X (found_successor R formed q l X p e).symbol) (T.words q) y in
            (λ m. f.1 (a.0 m), λ h. a.1 (f.0 h))

    pub state_good : start_fine ≡ true → state_by S q (closure_at q) ≡ true → StateGood R q
    state_good s t = let (a, b) = successors_defined t in (a, (λ z. start_defined s, b))

    pub state_bad : misworded S q ≡ true → StateGood R q → ⊥
    state_bad t good =
        let (e, (m, h)) = one_found (wrong_words S q) (successors_in (pairs q)) t in
        let (a, b) = and_parts (names (successor_in e.symbol (pairs q)) e.state) _ h in
        let n = names_is (successor_in e.symbol (pairs q)) e.state a in
        let s = symbol_good R formed e.symbol (found_successor R formed q l e.symbol e.state n).symbol in
        let same : alike same_word (T.words e.state) (words_by S q e.symbol) ≡ true =
        alike_from words_told (T.words e.state) (words_by S q e.symbol) (λ y.
        let w = good.1.1.words e.symbol e.state n y in
        let f = firsts e.symbol s (T.words q) y in
        (λ x. f.0 (w.0 x), λ x. w.1 (f.1 x))) in
        true≢false (sym b ∙ not_from_true _ same)

  -- two states are equal
  abbrev pub equal : ℕ → ℕ → Bool
  equal m q = alike same_item (T.kernel m) (T.kernel q) && alike same_word (T.words m) (T.words q)

  -- q is equal to a lower state
  abbrev pub equal_lower : ℕ → Bool
  equal_lower q = one_of (λ m. equal m q) (up_to q)

  pub not_equal : (q : ℕ) → equal_lower q ≡ false → EqualToLower T q → ⊥
  not_equal q t (m, (l, (k, w))) =
      true≢false (sym (one_at (λ m. equal m q) (up_to q) m (low_in q m l)
      (and_from (alike same_item (T.kernel m) (T.kernel q)) _
      (alike_from items_told (T.kernel m) (T.kernel q) k) (alike_from words_told (T.words m) (T.words q) w))) ∙ t)

  -- m has q as a successor
  abbrev pub leads_to : ℕ → ℕ → Bool
  leads_to m q = one_of (λ e. names (successor_in e.symbol (pairs m)) q) (successors_in (pairs m))

  -- q is 0 or a successor of a lower state
  abbrev pub is_found : ℕ → Bool
  is_found q = eqb q 0 || one_of (λ m. leads_to m q) (up_to q)

  pub not_lost : (q : ℕ) → is_found q ≡ true → NotFound T q → ⊥
  not_lost q t (up, lost) = ⊎_elim (λ e. let z = eqb-true q 0 e in absurd (omega (arith, z, up))) (λ h. lost (from h)) (or_cases (eqb q 0) _ t)
    where
      from : one_of (λ m. leads_to m q) (up_to q) ≡ true → Found T q
      from h =
          let (m, (p, i)) = one_found (λ m. leads_to m q) (up_to q) h in
          let (e, (r, j)) = one_found (λ e. names (successor_in e.symbol (pairs m)) q) (successors_in (pairs m)) i in
          (m, e.symbol, (in_low q m p, names_is (successor_in e.symbol (pairs m)) q j))

  -- the words of a state that there is
  abbrev pub words_there : Option ℕ → List (List ℕ)
  words_there None = []
  words_there (Some p) = T.words p

  -- the words that rule r fits at q
  abbrev pub fit_words : ℕ → ℕ → List (List ℕ)
  fit_words q r = words_there (fitting_state R q r)

  -- two different rules of one nonterminal fit one word
  abbrev pub clash : ℕ → ℕ → ℕ → Bool
  clash q r r' = not (eqb r r') && (eqb (left_of R r) (left_of R r') && one_of (among same_word (fit_words q r')) (fit_words q r))

  abbrev pub clashes : ℕ → Bool
  clashes q = one_of (λ r. one_of (clash q r) (up_to (header_of R).p)) (up_to (header_of R).p)

  -- the choices of q
  abbrev pub choices_at : ℕ → List Choice
  choices_at q = choices_in (section_of R q Choices)

  -- a choice names a rule of its nonterminal that fits its word
  abbrev pub choice_fits : ℕ → Choice → Bool
  choice_fits q c = (ltb c.rule (header_of R).p && eqb (left_of R c.rule) c.nonterminal) && among same_word (fit_words q c.rule) c.word

  -- a choice is what is found by its nonterminal and word
  abbrev pub chosen_so : ℕ → Choice → Bool
  chosen_so q c = names (choice_in c.nonterminal c.word (choices_at q)) c.rule

  -- rule r is chosen for every word that it fits
  abbrev pub all_chosen : ℕ → ℕ → Bool
  all_chosen q r = every (λ y. names (choice_in (left_of R r) y (choices_at q)) r) (fit_words q r)

  -- the choices of q name rules that fit, each once, and all of them
  abbrev pub choices_fine : ℕ → Bool
  choices_fine q = every (choice_fits q) (choices_at q) && (every (chosen_so q) (choices_at q) && every (all_chosen q) (up_to (header_of R).p))

  module _ (formed : Formed R) (q : ℕ) where
    fits_there : (r : ℕ) → r < (header_of R).p → (y : List ℕ) → Memᴰ y (fit_words q r) → Fits g T q (left_of R r) y r
    fits_there r l y m = by (fitting_state R q r) refl m
      where
        by : (o : Option ℕ) → fitting_state R q r ≡ o → Memᴰ y (words_there o) → Fits g T q (left_of R r) y r
        by None e n = absurd (Memᴰ.not-nil n)
        by (Some p) e n = state_fits R formed q r l p e y n

    word_fits : (A : ℕ) (y : List ℕ) (r : ℕ) → Fits g T q A y r → (r < (header_of R).p) × (left_of R r ≡ A) × Memᴰ y (fit_words q r)
    word_fits A y r f =
        let p = placed R formed q A y r f in
        (p.within, p.left_is, subst (λ (o : Option ℕ). Memᴰ y (words_there o)) (sym p.found) p.word)

    pub two_fit : clashes q ≡ true → TwoFit g T q
    two_fit t =
        let (r, (m, e)) = one_found (λ r. one_of (clash q r) (up_to (header_of R).p)) (up_to (header_of R).p) t in
        let (r', (m', e')) = one_found (clash q r) (up_to (header_of R).p) e in
        let (d, f) = and_parts (not (eqb r r')) _ e' in
        let (s, h) = and_parts (eqb (left_of R r) (left_of R r')) _ f in
        let (y, (n, i)) = one_found (among same_word (fit_words q r')) (fit_words q r) h in
        let same = eqb-true (left_of R r) (left_of R r') s in
        record {
          nonterminal = left_of R r;
          word = y;
          one = r;
          other = r';
          one_fits = fits_there r (in_low (header_of R).p r m) y n;
          other_fits = subst (λ (A : ℕ). Fits g T q A y r') (sym same) (fits_there r' (in_low (header_of R).p r' m') y (among_is words_told (fit_words q r') y i));
          differ = λ z. true≢false (sym d ∙ not_from_true (eqb r r') (eq-eqb r r' z));
        }

    pub not_two : clashes q ≡ false → TwoFit g T q → ⊥
    not_two t f =
        let (l, a, m) = word_fits f.nonterminal f.word f.one f.one_fits in
        let (l', a', m') = word_fits f.nonterminal f.word f.other f.other_fits in
        let here : clash q f.one f.other ≡ true =
        and_from (not (eqb f.one f.other)) _ (not_from_false _ (ne_eqb f.one f.other f.differ))
        (and_from (eqb (left_of R f.one) (left_of R f.other)) _ (eq-eqb _ _ (a ∙ sym a'))
        (one_at (among same_word (fit_words q f.other)) (fit_words q f.one) f.word m (is_among words_told (fit_words q f.other) f.word m'))) in
        true≢false (sym (one_at (λ r. one_of (clash q r) (up_to (header_of R).p)) (up_to (header_of R).p) f.one (low_in (header_of R).p f.one l)
        (one_at (clash q f.one) (up_to (header_of R).p) f.other (low_in (header_of R).p f.other l') here)) ∙ t)

    pub choices_good : choices_fine q ≡ true → ChoicesGood R q
    choices_good t = (once, as_defined)
      where
        t₀ : (every (choice_fits q) (choices_at q) ≡ true)
            × ((every (chosen_so q) (choices_at q)
            && every (all_chosen q) (up_to (header_of R).p)) ≡ true)
        t₀ = and_parts (every (choice_fits q) (choices_at q)) _ t

        t₁ : (every (chosen_so q) (choices_at q) ≡ true)
            × (every (all_chosen q) (up_to (header_of R).p) ≡ true)
        t₁ = and_parts (every (chosen_so q) (choices_at q)) _ t₀.1

        once : ChoicesOnce R q
        once c m = names_is (choice_in c.nonterminal c.word (choices_at q)) c.rule
            (every_at (chosen_so q) (choices_at q) t₁.0 c m)

        as_defined : (A : ℕ) (y : List ℕ) (r : ℕ) → (choice_in A y (choices_at q) ≡ math.some r) ↔ Fits g T q A y r
        as_defined A y r = (
          λ e.
              let h = every_at (choice_fits q) (choices_at q)
              t₀.0 (record { nonterminal = A; word = y; rule = r }) (choice_entry A y r (choices_at q) e) in
              let (i, w) = and_parts (ltb r (header_of R).p && eqb (left_of R r) A) (among same_word (fit_words q r) y) h in
              let (l, s) = and_parts (ltb r (header_of R).p) (eqb (left_of R r) A) i in
              subst (λ (B : ℕ). Fits g T q B y r) (eqb-true (left_of R r) A s)
              (fits_there r (ltb-true r (header_of R).p l) y (among_is words_told (fit_words q r) y w)),
          λ f.
              let (l, s, m) = word_fits A y r f in
              let h = every_at (all_chosen q) (up_to (header_of R).p) t₁.1 r (low_in (header_of R).p r l) in
              let i = every_at (λ y. names (choice_in (left_of R r) y (choices_at q)) r) (fit_words q r) h y m in
              ap (λ (B : ℕ). choice_in B y (choices_at q)) (sym s) ∙ names_is (choice_in (left_of R r) y (choices_at q)) r i,
        )
