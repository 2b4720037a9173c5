-- What the frames of a table of the right form hold: the header's numbers are in their ranges, rules are made of symbols, and every section has
-- entries of its kind.
use Rattle.std.proofs.Common.{◌≡◌, ℕ, ◌+◌, ◌-◌, ◌*◌, ◌%◌, ◌<◌, ◌≤◌, true, false, cond, eqb, ltb, leb, ◌⊎◌, List, [], ◌∷◌, length, get_or, drop, sym, ap, ◌∙◌, subst, inl, inr, arith, length-drop}
use Rattle.std.proofs.lemmas.Bool.{cases_Bool, cond-true, cond-false, lt-ltb, lt-leb, le-leb, leb-true, ne_eqb, and_parts, or_cases}
use Rattle.grammar.specs.Grammar.{Rule, IsNonterminal, IsSymbol, Every, WellFormed}
use Rattle.frames.specs.declared.header.Header.{Header}
use Rattle.frames.specs.declared.header.Section.{Section}
use Rattle.frames.specs.declared.header.Section.TheVariants.{Kernel, Words, Successors, Choices}
use Rattle.frames.specs.Raw.{Raw, frame, header_of, left_of, place, section_of}
use Rattle.frames.specs.Form.{between, is_token, is_nonterminal, is_symbol, are_symbols, header_good, rule_good, entries_good, section_good, section_at, needed, good_at, frame_good}
use Rattle.table.specs.Contents.{grammar_of}
use Rattle.table.specs.Drafts.{Formed}
use Rattle.table.proofs.Numbering.{rule_found}

pub record Ranges (h : Header) : Type 0 where
  pub k_low : 1 ≤ h.k
  pub k_high : h.k ≤ 2
  pub t_low : 1 ≤ h.t
  pub t_high : h.t ≤ 20
  pub n_low : 1 ≤ h.n
  pub n_high : h.n ≤ 24
  pub p_low : 1 ≤ h.p
  pub p_high : h.p ≤ 60
  pub s_low : 1 ≤ h.s
  pub s_high : h.s ≤ 200

pub range : (low high x : ℕ) → between low high x ≡ true → (low ≤ x) × (x ≤ high)
range low high x e = let (l, h) = and_parts (leb low x) (leb x high) e in (leb-true low x l, leb-true x high h)

module _ (R : Raw) (formed : Formed R) where
  good : (i : ℕ) → frame_good R i ≡ true
  good i = by (cases_Bool (frame_good R i))
    where
      by : (frame_good R i ≡ true) ⊎ (frame_good R i ≡ false) → frame_good R i ≡ true
      by (inl e) = e
      by (inr e) = absurd (formed i e)

  good_there : (i : ℕ) → i < needed R → good_at R i ≡ true
  good_there i l = (and_parts (ltb i R.frames) (good_at R i) (sym (cond-true _ _ _ (lt-ltb i (needed R) l)) ∙ good i)).1

  pub ranges : Ranges (header_of R)
  ranges =
      let e : header_good (header_of R) (frame R 0) ≡ true = good_there 0 (omega arith) in
      let (_, e₁) = and_parts (eqb (length (frame R 0)) 6) _ e in
      let (_, e₂) = and_parts (eqb (get_or (frame R 0) 0 0) 1) _ e₁ in
      let (k, e₃) = and_parts (between 1 2 (header_of R).k) _ e₂ in
      let (t, e₄) = and_parts (between 1 20 (header_of R).t) _ e₃ in
      let (n, e₅) = and_parts (between 1 24 (header_of R).n) _ e₄ in
      let (p, s) = and_parts (between 1 60 (header_of R).p) (between 1 200 (header_of R).s) e₅ in
      record {
        k_low = (range 1 2 _ k).0;
        k_high = (range 1 2 _ k).1;
        t_low = (range 1 20 _ t).0;
        t_high = (range 1 20 _ t).1;
        n_low = (range 1 24 _ n).0;
        n_high = (range 1 24 _ n).1;
        p_low = (range 1 60 _ p).0;
        p_high = (range 1 60 _ p).1;
        s_low = (range 1 200 _ s).0;
        s_high = (range 1 200 _ s).1;
      }

  pub rule_is_good : (r : ℕ) → r < (header_of R).p → rule_good (header_of R) (frame R (1 + r)) ≡ true
  rule_is_good r l =
      sym (cond-true _ _ _ (le-leb (1 + r) (header_of R).p (omega arith)))
      ∙ sym (cond-false _ _ _ (ne_eqb (1 + r) 0 (λ e. absurd (omega arith))))
      ∙ good_there (1 + r) (omega arith)

  pub left_good : (r : ℕ) → r < (header_of R).p → IsNonterminal (grammar_of R) (left_of R r)
  left_good r l =
      let (_, e₁) = and_parts (between 2 8 (length (frame R (1 + r)))) _ (rule_is_good r l) in
      let (_, e₂) = and_parts (eqb (get_or (frame R (1 + r)) 0 0) 2) _ e₁ in
      let (e₃, _) = and_parts (is_nonterminal (header_of R) (left_of R r)) (are_symbols (header_of R) (drop 2 (frame R (1 + r)))) e₂ in
      range 32 _ _ e₃

  pub right_short : (r : ℕ) → r < (header_of R).p → length (drop 2 (frame R (1 + r))) ≤ 6
  right_short r l =
      let (e₀, _) = and_parts (between 2 8 (length (frame R (1 + r)))) _ (rule_is_good r l) in
      let high : length (frame R (1 + r)) ≤ 8 = (range 2 8 _ e₀).1 in
      simp length-drop (omega arith)

  pub symbol_good : (X : ℕ) → is_symbol (header_of R) X ≡ true → IsSymbol (grammar_of R) X
  symbol_good X e = by (or_cases (is_token (header_of R) X) (is_nonterminal (header_of R) X) e)
    where
      by : (is_token (header_of R) X ≡ true) ⊎ (is_nonterminal (header_of R) X ≡ true) → IsSymbol (grammar_of R) X
      by (inl t) = inl (range 1 _ X t)
      by (inr n) = inr (range 32 _ X n)

  symbols_good : (xs : List ℕ) → are_symbols (header_of R) xs ≡ true → Every (IsSymbol (grammar_of R)) xs
  symbols_good [] e = tt
  symbols_good (x ∷ xs) e = let (a, b) = and_parts (is_symbol (header_of R) x) (are_symbols (header_of R) xs) e in (symbol_good x a, symbols_good xs b)

  pub right_good : (r : ℕ) → r < (header_of R).p → Every (IsSymbol (grammar_of R)) (drop 2 (frame R (1 + r)))
  right_good r l =
      let (_, e₁) = and_parts (between 2 8 (length (frame R (1 + r)))) _ (rule_is_good r l) in
      let (_, e₂) = and_parts (eqb (get_or (frame R (1 + r)) 0 0) 2) _ e₁ in
      let (_, e₃) = and_parts (is_nonterminal (header_of R) (left_of R r)) (are_symbols (header_of R) (drop 2 (frame R (1 + r)))) e₂ in
      symbols_good _ e₃

  section_place : (q : ℕ) (c : Section) → section_at (1 + (header_of R).p + 4 * q + place c - (1 + (header_of R).p)) ≡ c
  section_place q c = by c
    where
      rest : (n : ℕ) → n < 4 → (1 + (header_of R).p + 4 * q + n - (1 + (header_of R).p)) % 4 ≡ n
      rest n l = omega arith

      by : (c : Section) → section_at (1 + (header_of R).p + 4 * q + place c - (1 + (header_of R).p)) ≡ c
      by Kernel = ap (λ (m : ℕ). cond (eqb m 0) Kernel (cond (eqb m 1) Words (cond (eqb m 2) Successors Choices))) (rest 0 (omega arith))
      by Words = ap (λ (m : ℕ). cond (eqb m 0) Kernel (cond (eqb m 1) Words (cond (eqb m 2) Successors Choices))) (rest 1 (omega arith))
      by Successors = ap (λ (m : ℕ). cond (eqb m 0) Kernel (cond (eqb m 1) Words (cond (eqb m 2) Successors Choices))) (rest 2 (omega arith))
      by Choices = ap (λ (m : ℕ). cond (eqb m 0) Kernel (cond (eqb m 1) Words (cond (eqb m 2) Successors Choices))) (rest 3 (omega arith))

  place_low : (c : Section) → place c < 4
  place_low Kernel = omega arith
  place_low Words = omega arith
  place_low Successors = omega arith
  place_low Choices = omega arith

  pub entries_are_good : (q : ℕ) → q < (header_of R).s → (c : Section) → entries_good R c (section_of R q c) ≡ true
  entries_are_good q l c =
      let i = 1 + (header_of R).p + 4 * q + place c in
      let low = place_low c in
      let e : section_good R (section_at (i - (1 + (header_of R).p))) (frame R i) ≡ true =
      sym (cond-false _ _ _ (lt-leb i (header_of R).p (omega arith))) ∙ sym (cond-false _ _ _ (ne_eqb i 0 (λ z. absurd (omega arith)))) ∙ good_there i (omega arith) in
      let e' : section_good R c (frame R i) ≡ true = sym (ap (λ (d : Section). section_good R d (frame R i)) (section_place q c)) ∙ e in
      let (_, e₁) = and_parts (between 1 4096 (length (frame R i))) _ e' in
      (and_parts (eqb (get_or (frame R i) 0 0) _) (entries_good R c (section_of R q c)) e₁).1

  pub well_formed : WellFormed (grammar_of R)
  well_formed =
      let x = ranges in
      record {
        some_lookahead = x.k_low;
        tokens_below = omega (arith, x.t_high);
        some_nonterminal = x.n_low;
        left_side = λ r ρ i. let (l, e) = rule_found R r ρ i in subst (λ (τ : Rule). IsNonterminal (grammar_of R) τ.left) (sym e) (left_good r l);
        right_side = λ r ρ i. let (l, e) = rule_found R r ρ i in subst (λ (τ : Rule). Every (IsSymbol (grammar_of R)) τ.right) (sym e) (right_good r l);
      }
