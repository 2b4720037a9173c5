-- A state is as defined, by its tests: each symbol named once, the successor by each symbol up to the last nonterminal, and state 0 by itself. No
-- symbol beyond has a next or a successor.
use Rattle.std.proofs.Common.{◌≡◌, ℕ, ◌<◌, ◌≤◌, Bool, true, ◌⊎◌, List, [], ◌∷◌, Decides, sym, refl, ap, ◌∙◌, subst, inl, inr, arith}
use mathlib.Core.List.Memᴰ
use mathlib.Core.List.{Memᴰ}
use mathlib.Core.Option as math
use Rattle.std.proofs.lemmas.Bool.{and_parts, and_from, eq-eqb, cases_lt}
use Rattle.grammar.specs.Grammar as grammar
use Rattle.grammar.specs.Grammar.{Grammar, IsSymbol, Every}
use Rattle.grammar.specs.Item.{Item, Before}
use Rattle.grammar.specs.Table.{SuccessorsAsDefined}
use Rattle.grammar.proofs.Augmented.{WhichRule, which_rule}
use Rattle.grammar.proofs.Lists.{every_back, every_map}
use Rattle.frames.specs.declared.header.Section as section
use Rattle.frames.specs.Raw.{Raw, header_of, section_of}
use Rattle.items.specs.Nexts.{found}
use Rattle.items.proofs.Succeeding.{found_is}
use Rattle.table.specs.Contents.{grammar_of, table_of, Successor, successors_in, successor_in}
use Rattle.table.specs.Drafts.{Formed}
use Rattle.table.specs.Rows.{SuccessorsOnce}
use Rattle.table.specs.States.{SuccessorDefined, answered, once_in}
use Rattle.table.proofs.Formed.{ranges, well_formed, symbol_good}
use Rattle.table.proofs.Sections.{found_successor}
use Rattle.table.proofs.Defining.{answered_some}

-- each named once
once_tells : (es rest : List ℕ) → once_in es rest ≡ true → (e : Successor) → Memᴰ e (successors_in rest) → successor_in e.symbol es ≡ math.some e.state
once_tells es [] t e m = absurd (Memᴰ.not-nil m)
once_tells es (a ∷ []) t e m = absurd (Memᴰ.not-nil m)
once_tells es (a ∷ b ∷ rest) t e m = by (once_tells es rest (and_parts (found b (answered (successor_in a es))) (once_in es rest) t).1 e) (Memᴰ.cases_cons m)
  where
    by : (Memᴰ e (successors_in rest) → successor_in e.symbol es ≡ math.some e.state) → (e ≡ record { symbol = a; state = b }) ⊎ Memᴰ e (successors_in rest)
        → successor_in e.symbol es ≡ math.some e.state
    by so (inl p) =
        let f = found_is b (answered (successor_in a es)) (and_parts (found b (answered (successor_in a es))) (once_in es rest) t).0 in
        subst (λ (x : Successor). successor_in x.symbol es ≡ math.some x.state) (sym p) (answered_some (successor_in a es) b f)
    by so (inr p) = so p

once_told : (es rest : List ℕ) → ((e : Successor) → Memᴰ e (successors_in rest) → successor_in e.symbol es ≡ math.some e.state) → once_in es rest ≡ true
once_told es [] f = refl
once_told es (a ∷ []) f = refl
once_told es (a ∷ b ∷ rest) f =
    and_from (found b (answered (successor_in a es))) _
    (ap (λ (o : math.Option ℕ). found b (answered o)) (f (record { symbol = a; state = b }) (Memᴰ.head refl)) ∙ eq-eqb b b refl)
    (once_told es rest (λ e m. f e (Memᴰ.tail m)))

pub once_decides : (R : Raw) (q : ℕ) (es : List ℕ) → es ≡ section_of R q section.TheVariants.Successors → (r : Bool) → r ≡ once_in es es → Decides r (SuccessorsOnce R q)
once_decides R q es e r t = (
  λ h. subst (λ (xs : List ℕ). (s : Successor) → Memᴰ s (successors_in xs) → successor_in s.symbol xs ≡ math.some s.state) e (once_tells es es (sym t ∙ h)),
  λ f. t ∙ once_told es es (subst (λ (xs : List ℕ). (s : Successor) → Memᴰ s (successors_in xs) → successor_in s.symbol xs ≡ math.some s.state) (sym e) f),
)

module _ (R : Raw) (formed : Formed R) where
  -- The numbers of symbols.
  abbrev InRange : ℕ → Type 0
  InRange X = (1 ≤ X) × (X < 56)

  symbol_range : (X : ℕ) → IsSymbol (grammar_of R) X → InRange X
  symbol_range X (inl (low, high)) = (low, omega (arith, high, (ranges R formed).t_high))
  symbol_range X (inr (low, high)) = (omega (arith, low), omega (arith, high, (ranges R formed).n_high))

  before_range : (i : Item) (X : ℕ) → Before (grammar_of R) i X → InRange X
  before_range i X b = by (which_rule (grammar_of R) i.rule b.rule b.is_rule)
    where
      all : Every InRange b.rule.right → InRange X
      all e = (every_back InRange b.front (X ∷ b.back) (subst (Every InRange) b.right_is e)).0

      by : WhichRule (grammar_of R) i.rule b.rule → InRange X
      by (inl is) = all (every_map (IsSymbol (grammar_of R)) InRange symbol_range b.rule.right ((well_formed R formed).right_side i.rule b.rule is))
      by (inr (n, e)) =
          all (subst (λ (ρ : grammar.Rule). Every InRange ρ.right) (sym e) ((omega arith, omega arith), ((omega arith, omega arith), tt)))

  -- a number of no symbol has no next and no successor
  pub beyond_defined : (q : ℕ) → q < (header_of R).s → (X : ℕ) → (InRange X → ⊥) → SuccessorDefined R q X
  beyond_defined q l X out = record {
    symbols = (λ (p, e). absurd (none p e), λ (i, (c, b)). absurd (out (before_range i X b)));
    within = λ p e. absurd (none p e);
    kernel = λ p e. absurd (none p e);
    words = λ p e. absurd (none p e);
  }
    where
      none : (p : ℕ) → (table_of R).next q X ≡ math.some p → ⊥
      none p e = out (symbol_range X (symbol_good R formed X (found_successor R formed q l X p e).symbol))

  pub all_defined : (q : ℕ) → q < (header_of R).s → ((X : ℕ) → 1 ≤ X → X < 56 → SuccessorDefined R q X) → (X : ℕ) → SuccessorDefined R q X
  all_defined q l f X = by (cases_lt X 56) (cases_lt 0 X)
    where
      by : (X < 56) ⊎ (56 ≤ X) → (0 < X) ⊎ (X ≤ 0) → SuccessorDefined R q X
      by (inl h) (inl p) = f X (omega arith) h
      by (inr h) _ = beyond_defined q l X (λ (low, high). absurd (omega arith))
      by (inl h) (inr p) = beyond_defined q l X (λ (low, high). absurd (omega arith))

  pub successors_as_defined : (q : ℕ) → ((X : ℕ) → SuccessorDefined R q X) → SuccessorsAsDefined (grammar_of R) (table_of R) q
  successors_as_defined q f = record {
    symbols = λ X. (f X).symbols;
    within = λ X. (f X).within;
    kernel = λ X. (f X).kernel;
    words = λ X. (f X).words;
  }

  pub each_defined : (q : ℕ) → SuccessorsAsDefined (grammar_of R) (table_of R) q → (X : ℕ) → SuccessorDefined R q X
  each_defined q s X = record { symbols = s.symbols X; within = s.within X; kernel = s.kernel X; words = s.words X }
