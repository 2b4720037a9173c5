-- A successor is as defined just when the sets computed for it are those of the state that the table names, or have no place where it names none.
use Rattle.std.proofs.Common.{◌≡◌, ℕ, ◌+◌, ◌-◌, ◌<◌, Bool, true, false, ◌⊎◌, ◌↔◌, List, [], ◌∷◌, take, Some, None, Decides, sym, refl, ap, ◌∙◌, subst, inl, inr, arith}
use mathlib.Core.Option as math
use Rattle.std.proofs.lemmas.Bool.{true≢false, cases_Bool}
use Rattle.grammar.specs.Grammar.{Grammar, IsSymbol}
use Rattle.grammar.specs.First.{FirstWith}
use Rattle.grammar.specs.Item.{Item, raised, Before, Closure, of_kernel, of_rule, HasNext, NextKernel}
use Rattle.grammar.specs.Equations.{value}
use Rattle.grammar.specs.Table.{Kernel, Word}
use Rattle.solver.specs.Solution.{valuation}
use Rattle.words.specs.Sets.{word_kind}
use Rattle.words.specs.declared.set.Words.{Words}
use Rattle.items.specs.declared.places.Places.{Places}
use Rattle.items.specs.Sets.{has}
use Rattle.items.specs.Actives.{NextOf}
use Rattle.frames.specs.declared.header.Section as section
use Rattle.frames.specs.Raw.{Raw, header_of, section_of}
use Rattle.lookahead.proofs.Following.{next_words}
use Rattle.table.specs.declared.at.At.{At}
use Rattle.table.specs.declared.state.State.{State}
use Rattle.table.specs.Contents.{grammar_of, table_of}
use Rattle.table.specs.States.{file, Firsts, IsState, SuccessorDefined, answered}
use Rattle.table.specs.Drafts.{Formed}
use Rattle.table.proofs.Formed.{ranges, symbol_good}
use Rattle.table.proofs.Drafting.{draft_rules}
use Rattle.table.proofs.Sections.{GoodSuccessor, found_successor, state_words}
use Rattle.table.proofs.StateSets.{SameStates, some_item}

pub answered_some : (o : math.Option ℕ) (p : ℕ) → answered o ≡ Some p → o ≡ math.some p
answered_some math.none p e = absurd cc
answered_some (math.some q) p e = let s : q ≡ p = cc in ap (λ (x : ℕ). math.some x) s

pub answered_none : (o : math.Option ℕ) → answered o ≡ None → (p : ℕ) → o ≡ math.some p → ⊥
answered_none math.none e p f = absurd cc
answered_none (math.some q) e p f = absurd cc

pub bool_same : (a b : Bool) → (a ≡ true → b ≡ true) → (b ≡ true → a ≡ true) → a ≡ b
bool_same true b f h = sym (f refl)
bool_same false true f h = h refl
bool_same false false f h = refl

closure_over : (g : Grammar) {K L : Item → Type 0} → ((i : Item) → K i → L i) → {i : Item} → Closure g K i → Closure g L i
closure_over g f {i} (of_kernel m) = of_kernel (f i m)
closure_over g f (of_rule ρ c b i l) = of_rule ρ (closure_over g f c) b i l

-- where some place has a next, the next has some place
lowered : (g : Grammar) (K : Item → Type 0) (X : ℕ) → HasNext g K X → (i : Item) × NextKernel g K X i
lowered g K X (i, (c, b)) =
    let up : i.dot - 1 + 1 ≡ i.dot = omega (arith, b.dot_is) in (
      record { rule = i.rule; dot = i.dot - 1 },
      (subst (λ (n : ℕ). Closure g K (record { rule = i.rule; dot = n })) (sym up) c, subst (λ (n : ℕ). Before g (record { rule = i.rule; dot = n }) X) (sym up) b),
    )

module _ {K : ℕ} (a : At K) (vs : List (Words K)) (firsts : Firsts K (file a.draft.now) vs)
    (here : State K) (is : IsState (file a.draft.now) a.q here) (X : ℕ) (next : Places)
    (next-is : NextOf (take a.draft.now.header.p a.draft.now.rules) here.places X next) where
  abbrev R : Raw
  R = file a.draft.now

  abbrev q : ℕ
  q = a.q

  l : q < (header_of R).s
  l = a.within

  abbrev g : Grammar
  g = grammar_of R

  abbrev kernel_here : Item → Type 0
  kernel_here = Kernel (table_of R) q

  formed : Formed R
  formed = a.draft.now.formed

  next_told : (i : Item) → Decides (has next i) (NextKernel g kernel_here X i)
  next_told i =
      let t = next-is g (draft_rules a.draft.now) i in
      (λ e. let (c, b) = t.0 e in (closure_over g (λ j m. (is.places j).0 m) c, b), λ (c, b). t.1 (closure_over g (λ j m. (is.places j).1 m) c, b))

  -- the table names no state
  pub none_defined : (T-none : answered ((table_of R).next q X) ≡ None) (r : Bool) → Decides r ((i : Item) → has next i ≡ false) → Decides r (SuccessorDefined R q X)
  none_defined none r t = (
    λ e. record {
      symbols = (
        λ (p, f). absurd (answered_none ((table_of R).next q X) none p f),
        λ n. let (i, k) = lowered g kernel_here X n in absurd (true≢false (sym ((next_told i).1 k) ∙ t.0 e i)),
      );
      within = λ p f. absurd (answered_none ((table_of R).next q X) none p f);
      kernel = λ p f. absurd (answered_none ((table_of R).next q X) none p f);
      words = λ p f. absurd (answered_none ((table_of R).next q X) none p f);
    },
    λ s. t.1 (λ i. by s i (cases_Bool (has next i))),
  )
    where
      by : SuccessorDefined R q X → (i : Item) → (has next i ≡ true) ⊎ (has next i ≡ false) → has next i ≡ false
      by s i (inl e) =
          let (c, b) = (next_told i).0 e in
          let (p, f) = s.symbols.1 (raised i, (c, b)) in
          absurd (answered_none ((table_of R).next q X) none p f)
      by s i (inr e) = e

  module _ (p : ℕ) (named : answered ((table_of R).next q X) ≡ Some p) where
    found : (table_of R).next q X ≡ math.some p
    found = answered_some ((table_of R).next q X) p named

    good : GoodSuccessor R (record { symbol = X; state = p })
    good = found_successor R formed q l X p found

    pub within : p < (header_of R).s
    within = good.state

    symbol : IsSymbol g X
    symbol = symbol_good R formed X good.symbol

    only : (p' : ℕ) → (table_of R).next q X ≡ math.some p' → p ≡ p'
    only p' e = cc

    module _ (there : State K) (is' : IsState R p there) where
      abbrev pub product : Words K
      product = (word_kind K).product (value (word_kind K) (valuation (word_kind K) vs) X) here.words

      words_are : (there.words ≡ product) ↔ ((y : List ℕ) → Word (table_of R) p y ↔ FirstWith g (X ∷ []) (Word (table_of R) q) y)
      words_are =
          next_words K (header_of R) g a.cut_is (ranges R formed).t_high refl refl X (value (word_kind K) (valuation (word_kind K) vs) X) (firsts X symbol)
          (section_of R q section.TheVariants.Words) (section_of R p section.TheVariants.Words) (state_words R formed q l) (state_words R formed p within)
          here.words there.words is.words is'.words

      -- the sets that were computed are those of the state that is named
      pub some_defined : (made : State K) → made.places ≡ next → made.words ≡ product → (r : Bool) → Decides r (SameStates made there) → Decides r (SuccessorDefined R q X)
      some_defined made places words r t = (
        λ e. let (same, w) = t.0 e in
            let kernels : (i : Item) → Kernel (table_of R) p i ↔ NextKernel g kernel_here X i = λ i. (
              λ m. (next_told i).0 (sym (ap (λ (s : Places). has s i) places) ∙ same i ∙ (is'.places i).1 m),
              λ m. (is'.places i).0 (sym (same i) ∙ ap (λ (s : Places). has s i) places ∙ (next_told i).1 m),
            ) in
            record {
              symbols = (
                λ _. let (i, m) = some_item R formed p within in let (c, b) = (kernels i).0 m in (raised i, (c, b)),
                λ _. (p, found),
              );
              within = λ p' f. subst (λ (x : ℕ). x < (header_of R).s) (only p' f) within;
              kernel = λ p' f. subst (λ (x : ℕ). (i : Item) → Kernel (table_of R) x i ↔ NextKernel g kernel_here X i) (only p' f) kernels;
              words = λ p' f. subst (λ (x : ℕ). (y : List ℕ) → Word (table_of R) x y ↔ FirstWith g (X ∷ []) (Word (table_of R) q) y) (only p' f) (words_are.0 (sym w ∙ words));
            },
        λ s. t.1 (
          λ i. ap (λ (x : Places). has x i) places
              ∙ bool_same (has next i) (has there.places i)
              (λ e. (is'.places i).1 ((s.kernel p found i).1 ((next_told i).0 e)))
              (λ e. (next_told i).1 ((s.kernel p found i).0 ((is'.places i).0 e))),
          words ∙ sym (words_are.1 (s.words p found)),
        ),
      )
