-- FIRST by rounds: from the words of the nonterminals so far, each rule gives those of its right side to its left side. All of them begin
-- a derived string; and where the rules give nothing new, nothing else does.
use Rattle.std.proofs.Common.{◌≡◌, ℕ, zero, suc, ◌+◌, ◌-◌, ◌≤◌, Bool, true, cond, eqb, ltb, ◌⊎◌, ◌↔◌, List, [], ◌∷◌, ◌++◌, get_or, take, sym, refl, ap, ◌∙◌, subst, ap₂, inl, inr, ⊎_elim, append_assoc, append-nil, le_refl, arith}
use mathlib.Core.List.{Memᴰ}
use mathlib.Core.Option.{some}
use Rattle.std.proofs.lemmas.List.{take-take}
use Rattle.std.proofs.lemmas.Bool.{eqb-true, lt-ltb, le-ltb, cond-true, cond-false}
use Rattle.grammar.specs.Grammar.{Rule, Grammar, rule_at, IsToken, IsSymbol, Every, WellFormed}
use Rattle.grammar.specs.First.{First, FirstWith}
use Rattle.grammar.specs.Sound.{Productive}
use Rattle.grammar.proofs.Lists.{take_join, take_join_left, take_nil}
use Rattle.grammar.proofs.Runs.{Run, done, token, rule, same_symbols, run_append, run→derived}
use Rattle.grammar.proofs.First.{run→first, first→run, first_with}
use Rattle.table.specs.Contents.{same_word}
use Rattle.cases.proofs.Searches.{every, every_at, words_told, within, within_at, put_all, put_all_from, bind, bind_in, bind_from, where_true, where_from}

-- The words of each nonterminal, the first those of 32.
abbrev pub Sets : Type 0
Sets = List (List (List ℕ))

-- The words of two sets, joined and cut.
abbrev pub joined : ℕ → List (List ℕ) → List (List ℕ) → List (List ℕ)
joined k us vs = bind (λ u. bind (λ v. take k (u ++ v) ∷ []) vs) us

-- The words of a nonterminal.
abbrev pub set_at : Sets → ℕ → List (List ℕ)
set_at S A = get_or S (A - 32) []

-- The words of a symbol: a token has its own.
abbrev pub words_at : ℕ → Sets → ℕ → List (List ℕ)
words_at k S X = cond (ltb X 32) (take k (X ∷ []) ∷ []) (set_at S X)

-- The words of a string of symbols.
abbrev pub words_along : ℕ → Sets → List ℕ → List (List ℕ)
words_along k S [] = [] ∷ []
words_along k S (X ∷ α) = joined k (words_at k S X) (words_along k S α)

-- What the rules give A.
abbrev pub given : ℕ → Sets → ℕ → List Rule → List (List ℕ)
given k S A [] = []
given k S A (ρ ∷ ρs) = put_all same_word (where_true (eqb ρ.left A) (words_along k S ρ.right)) (given k S A ρs)

-- What they give so many nonterminals from A on.
abbrev pub given_all : ℕ → Sets → List Rule → ℕ → ℕ → Sets
given_all k S ρs A zero = []
given_all k S ρs A (suc n) = given k S A ρs ∷ given_all k S ρs (suc A) n

-- So many rounds from nothing.
abbrev pub rounds : Grammar → ℕ → Sets
rounds g zero = []
rounds g (suc m) = given_all g.k (rounds g m) g.rules 32 g.n

-- The rules give nothing new.
abbrev pub is_solved : Grammar → Sets → Bool
is_solved g S = every (λ ρ. within same_word (words_along g.k S ρ.right) (set_at S ρ.left)) g.rules

joined_in : (k : ℕ) (us vs : List (List ℕ)) (u v w : List ℕ) → Memᴰ u us → Memᴰ v vs → w ≡ take k (u ++ v) → Memᴰ w (joined k us vs)
joined_in k us vs u v w m n e =
    bind_in (λ u. bind (λ v. take k (u ++ v) ∷ []) vs) us u w m
    (bind_in (λ v. take k (u ++ v) ∷ []) vs v w n (mathlib.Core.List.Memᴰ.head e))

joined_from : (k : ℕ) (us vs : List (List ℕ)) (w : List ℕ) → Memᴰ w (joined k us vs)
    → (u v : List ℕ) × (Memᴰ u us × Memᴰ v vs × (w ≡ take k (u ++ v)))
joined_from k us vs w m =
    let (u, (p, n)) = bind_from (λ u. bind (λ v. take k (u ++ v) ∷ []) vs) us w m in
    let (v, (q, h)) = bind_from (λ v. take k (u ++ v) ∷ []) vs w n in
    (u, v, (p, q, ⊎_elim (λ e. e) (λ n'. absurd (mathlib.Core.List.Memᴰ.not-nil n')) (mathlib.Core.List.Memᴰ.cases_cons h)))

cut_both : (k : ℕ) (u v : List ℕ) → take k (take k u ++ take k v) ≡ take k (u ++ v)
cut_both k u v = take_join k k (take k u) v (le_refl k) ∙ take_join_left k k u v (le_refl k)

rule_member : (ρs : List Rule) (r : ℕ) (ρ : Rule) → rule_at ρs r ≡ some ρ → Memᴰ ρ ρs
rule_member [] r ρ e = absurd cc
rule_member (σ ∷ ρs) zero ρ e = let s : ρ ≡ σ = cc in mathlib.Core.List.Memᴰ.head s
rule_member (σ ∷ ρs) (suc r) ρ e = mathlib.Core.List.Memᴰ.tail (rule_member ρs r ρ e)

-- A word given to A comes by one of its rules.
pub record GivenBy (k : ℕ) (S : Sets) (A : ℕ) (ρs : List Rule) (w : List ℕ) : Type 0 where
  pub number : ℕ
  pub rule : Rule
  pub is_rule : rule_at ρs number ≡ some rule
  pub left_is : rule.left ≡ A
  pub word : Memᴰ w (words_along k S rule.right)

given_from : (k : ℕ) (S : Sets) (A : ℕ) (ρs : List Rule) (w : List ℕ) → Memᴰ w (given k S A ρs) → GivenBy k S A ρs w
given_from k S A [] w m = absurd (mathlib.Core.List.Memᴰ.not-nil m)
given_from k S A (ρ ∷ ρs) w m =
    by (put_all_from same_word (where_true (eqb ρ.left A) (words_along k S ρ.right)) (given k S A ρs) w m) (λ n. given_from k S A ρs w n)
  where
    by : Memᴰ w (where_true (eqb ρ.left A) (words_along k S ρ.right)) ⊎ Memᴰ w (given k S A ρs)
        → (Memᴰ w (given k S A ρs) → GivenBy k S A ρs w) → GivenBy k S A (ρ ∷ ρs) w
    by (inl n) so =
        let (t, h) = where_from (eqb ρ.left A) (words_along k S ρ.right) w n in
        record { number = 0; rule = ρ; is_rule = refl; left_is = eqb-true ρ.left A t; word = h }
    by (inr n) so = let r = so n in record { number = suc r.number; rule = r.rule; is_rule = r.is_rule; left_is = r.left_is; word = r.word }

given_all_from : (k : ℕ) (S : Sets) (ρs : List Rule) (A n i : ℕ) (w : List ℕ) → Memᴰ w (get_or (given_all k S ρs A n) i []) → Memᴰ w (given k S (A + i) ρs)
given_all_from k S ρs A zero i w m = absurd (mathlib.Core.List.Memᴰ.not-nil m)
given_all_from k S ρs A (suc n) zero w m = let z : A ≡ A + 0 = omega arith in subst (λ (B : ℕ). Memᴰ w (given k S B ρs)) z m
given_all_from k S ρs A (suc n) (suc i) w m =
    let z : suc A + i ≡ A + suc i = omega arith in
    subst (λ (B : ℕ). Memᴰ w (given k S B ρs)) z (given_all_from k S ρs (suc A) n i w m)

module _ (g : Grammar) (wf : WellFormed g) where
  token_words : (S : Sets) (a : ℕ) → IsToken g a → words_at g.k S a ≡ take g.k (a ∷ []) ∷ []
  token_words S a t = cond-true _ _ _ (lt-ltb a 32 (omega (arith, t.1, wf.tokens_below)))

  nonterminal_words : (S : Sets) (A : ℕ) → 32 ≤ A → words_at g.k S A ≡ set_at S A
  nonterminal_words S A n = cond-false _ _ _ (le-ltb A 32 n)

  -- w begins a token string from α
  abbrev pub Derived : List ℕ → List ℕ → Type 0
  Derived α w = (rs u : List ℕ) × (Run g α rs u × (w ≡ take g.k u))

  -- the words of nonterminals begin token strings
  abbrev pub AllDerived : Sets → Type 0
  AllDerived S = (A : ℕ) → 32 ≤ A → (w : List ℕ) → Memᴰ w (set_at S A) → Derived (A ∷ []) w

  symbol_derived : (S : Sets) → AllDerived S → (X : ℕ) → IsSymbol g X → (w : List ℕ) → Memᴰ w (words_at g.k S X) → Derived (X ∷ []) w
  symbol_derived S all X (inl t) w m =
      let m' = subst (λ (l : List (List ℕ)). Memᴰ w l) (token_words S X t) m in
      ([], X ∷ [], (token t done, ⊎_elim (λ e. e) (λ n. absurd (mathlib.Core.List.Memᴰ.not-nil n)) (mathlib.Core.List.Memᴰ.cases_cons m')))
  symbol_derived S all X (inr n) w m = all X n.0 w (subst (λ (l : List (List ℕ)). Memᴰ w l) (nonterminal_words S X n.0) m)

  along_derived : (S : Sets) → AllDerived S → (α : List ℕ) → Every (IsSymbol g) α → (w : List ℕ) → Memᴰ w (words_along g.k S α) → Derived α w
  along_derived S all [] p w m =
      ([], [], (done, ⊎_elim (λ e. e ∙ sym (take_nil g.k)) (λ n. absurd (mathlib.Core.List.Memᴰ.not-nil n)) (mathlib.Core.List.Memᴰ.cases_cons m)))
  along_derived S all (X ∷ α) (p, ps) w m =
      let (u, v, (a, b, e)) = joined_from g.k (words_at g.k S X) (words_along g.k S α) w m in
      let (rs, x, (d, f)) = symbol_derived S all X p u a in
      let (ss, y, (d', f')) = along_derived S all α ps v b in
      (rs ++ ss, x ++ y, (run_append g α ss y d d', e ∙ ap₂ (λ (c d : List ℕ). take g.k (c ++ d)) f f' ∙ cut_both g.k x y))

  by_rule : (S : Sets) (A : ℕ) (w : List ℕ) (b : GivenBy g.k S A g.rules w) (rs u : List ℕ) → Run g b.rule.right rs u → Run g (A ∷ []) (b.number ∷ rs) u
  by_rule S A w b rs u d = rule b.rule b.is_rule b.left_is (same_symbols g (sym (append-nil b.rule.right)) d)

  pub rounds_derived : (m : ℕ) → AllDerived (rounds g m)
  rounds_derived zero A l w m = absurd (mathlib.Core.List.Memᴰ.not-nil m)
  rounds_derived (suc j) A l w m =
      let z : 32 + (A - 32) ≡ A = omega arith in
      let h = subst (λ (B : ℕ). Memᴰ w (given g.k (rounds g j) B g.rules)) z (given_all_from g.k (rounds g j) g.rules 32 g.n (A - 32) w m) in
      let b = given_from g.k (rounds g j) A g.rules w h in
      let (rs, u, (d, e)) = along_derived (rounds g j) (rounds_derived j) b.rule.right (wf.right_side b.number b.rule b.is_rule) w b.word in
      (b.number ∷ rs, u, (by_rule (rounds g j) A w b rs u d, e))

  module _ (S : Sets) (solved : is_solved g S ≡ true) where
    along_cut : (α w : List ℕ) → Memᴰ w (words_along g.k S α) → w ≡ take g.k w
    along_cut [] w m = ⊎_elim (λ e. e ∙ sym (take_nil g.k) ∙ ap (take g.k) (sym e)) (λ n. absurd (mathlib.Core.List.Memᴰ.not-nil n)) (mathlib.Core.List.Memᴰ.cases_cons m)
    along_cut (X ∷ α) w m =
        let (u, v, (a, b, e)) = joined_from g.k (words_at g.k S X) (words_along g.k S α) w m in
        e ∙ sym (take-take g.k g.k (u ++ v) (le_refl g.k)) ∙ ap (take g.k) (sym e)

    along_split : (α β w : List ℕ) → Memᴰ w (words_along g.k S (α ++ β))
        → (u v : List ℕ) × (Memᴰ u (words_along g.k S α) × Memᴰ v (words_along g.k S β) × (w ≡ take g.k (u ++ v)))
    along_split [] β w m = ([], w, (mathlib.Core.List.Memᴰ.head refl, m, along_cut β w m))
    along_split (X ∷ α) β w m =
        let k = g.k in
        let (u, v, (x, p, e)) = joined_from k (words_at k S X) (words_along k S (α ++ β)) w m in
        let (a, b, (pa, pb, f)) = along_split α β v p in
        let whole : take k (u ++ (a ++ b)) ≡ take k (take k (u ++ a) ++ b) = ap (take k) (sym (append_assoc u a b)) ∙ sym (take_join_left k k (u ++ a) b (le_refl k)) in (
          take k (u ++ a),
          b,
          (
            joined_in k (words_at k S X) (words_along k S α) u a (take k (u ++ a)) x pa refl,
            pb,
            e ∙ ap (λ (z : List ℕ). take k (u ++ z)) f ∙ take_join k k u (a ++ b) (le_refl k) ∙ whole,
          ),
        )

    run_along : {α rs w : List ℕ} → Run g α rs w → Memᴰ (take g.k w) (words_along g.k S α)
    run_along done = mathlib.Core.List.Memᴰ.head (take_nil g.k)
    run_along (token {a = a} {α = α} {w = w} t d) =
        let k = g.k in
        let own : Memᴰ (take k (a ∷ [])) (words_at k S a) = subst (λ (l : List (List ℕ)). Memᴰ (take k (a ∷ [])) l) (sym (token_words S a t)) (mathlib.Core.List.Memᴰ.head refl) in
        joined_in k (words_at k S a) (words_along k S α) (take k (a ∷ [])) (take k w) (take k (a ∷ w)) own (run_along d) (sym (cut_both k (a ∷ []) w))
    run_along (rule {A = A} {r = r} {α = α} {w = w} ρ i l d) =
        let k = g.k in
        let (u, v, (p, q, e)) = along_split ρ.right α (take k w) (run_along d) in
        let n = wf.left_side r ρ i in
        let t = every_at (λ ρ. within same_word (words_along k S ρ.right) (set_at S ρ.left)) g.rules solved ρ (rule_member g.rules r ρ i) in
        let h : Memᴰ u (set_at S ρ.left) = within_at words_told (words_along k S ρ.right) (set_at S ρ.left) t u p in
        let h' = subst (λ (B : ℕ). Memᴰ u (words_at k S B)) l (subst (λ (x : List (List ℕ)). Memᴰ u x) (sym (nonterminal_words S ρ.left n.0)) h) in
        joined_in k (words_at k S A) (words_along k S α) u v (take k w) h' q e

    module _ (all : AllDerived S) where
      pub first_is : (X : ℕ) → IsSymbol g X → (y : List ℕ) → First g (X ∷ []) y ↔ Memᴰ y (words_at g.k S X)
      first_is X s y = (
        λ f.
            let k = g.k in
            let (rs, u, (d, e)) = first→run g wf (s, tt) f in
            let (a, b, (p, q, h)) = joined_from k (words_at k S X) ([] ∷ []) (take k u) (run_along d) in
            let (rs', u', (d', e')) = symbol_derived S all X s a p in
            let nothing : b ≡ [] = ⊎_elim (λ z. z) (λ n. absurd (mathlib.Core.List.Memᴰ.not-nil n)) (mathlib.Core.List.Memᴰ.cases_cons q) in
            let cut : take k a ≡ a = ap (take k) e' ∙ take-take k k u' (le_refl k) ∙ sym e' in
            let same : y ≡ a = e ∙ h ∙ ap (λ (z : List ℕ). take k (a ++ z)) nothing ∙ ap (take k) (append-nil a) ∙ cut in
            subst (λ (z : List ℕ). Memᴰ z (words_at k S X)) (sym same) p,
        λ m. let (rs, u, (d, e)) = symbol_derived S all X s y m in subst (First g (X ∷ [])) (sym e) (run→first g d),
      )

      pub first_with_is : (X : ℕ) → IsSymbol g X → (W : List (List ℕ)) (y : List ℕ)
          → FirstWith g (X ∷ []) (λ (w : List ℕ). Memᴰ w W) y ↔ Memᴰ y (joined g.k (words_at g.k S X) W)
      first_with_is X s W y =
          let f = first_with g (λ (w : List ℕ). Memᴰ w W) (X ∷ []) y in (
            λ h. let (u, w, (a, m, e)) = f.0 h in joined_in g.k (words_at g.k S X) W u w y ((first_is X s u).0 a) m e,
            λ m. let (u, w, (a, n, e)) = joined_from g.k (words_at g.k S X) W y m in f.1 (u, w, ((first_is X s u).1 a, n, e)),
          )

      -- a nonterminal with a word is productive
      pub word_productive : (A : ℕ) → 32 ≤ A → (w : List ℕ) → Memᴰ w (set_at S A) → Productive g A
      word_productive A l w m = let (rs, u, (d, e)) = all A l w m in (u, run→derived g d)
