-- FIRST of all symbols, from sets at the front of a list.
use Rattle.std.proofs.Common.{◌≡◌, ℕ, ◌-◌, ◌<◌, List, [], ◌∷◌, ◌++◌, length, Decides, sym, ◌∙◌, subst, inl, inr, arith}
use Rattle.std.proofs.lemmas.List.{get_or_append_left}
use Rattle.std.proofs.lemmas.Bool.{cond-true, cond-false, lt-ltb, le-ltb}
use Rattle.grammar.specs.Grammar.{IsSymbol}
use Rattle.grammar.specs.First.{First}
use Rattle.grammar.specs.Equations.{value}
use Rattle.solver.specs.declared.rule.Rule.{Rule}
use Rattle.solver.specs.Solution.{rules_of, valuation}
use Rattle.words.specs.Codes.{cut}
use Rattle.words.specs.Sets.{member, word_kind}
use Rattle.words.specs.Theorems.{AreFirst}
use Rattle.words.specs.declared.set.Words.{Words}
use Rattle.frames.specs.Raw.{Raw, header_of}
use Rattle.lookahead.proofs.Symbols.{symbols_first}
use Rattle.table.specs.Contents.{grammar_of}
use Rattle.table.specs.Drafts.{Formed}
use Rattle.table.specs.States.{Firsts}
use Rattle.table.proofs.Formed.{ranges, well_formed}

module _ (K : ℕ) (R : Raw) (formed : Formed R) (cut_is : (header_of R).k ≡ cut K) (vs ws : List (Words K)) (many : length vs ≡ (header_of R).n) where
  same_value : (X : ℕ) → IsSymbol (grammar_of R) X → value (word_kind K) (valuation (word_kind K) vs) X ≡ value (word_kind K) (valuation (word_kind K) (vs ++ ws)) X
  same_value X (inl (low, high)) =
      let small : X < 32 = omega (arith, high, (ranges R formed).t_high) in
      cond-true _ _ _ (lt-ltb X 32 small) ∙ sym (cond-true _ _ _ (lt-ltb X 32 small))
  same_value X (inr (low, high)) =
      cond-false _ _ _ (le-ltb X 32 low)
      ∙ sym (get_or_append_left vs ws (word_kind K).bottom (X - 32) (omega (arith, low, high, many)))
      ∙ sym (cond-false _ _ _ (le-ltb X 32 low))

  pub firsts_told : (ρs : List Rule) → (grammar_of R).rules ≡ rules_of ρs → AreFirst K ρs vs → Firsts K R (vs ++ ws)
  firsts_told ρs rules first X s w =
      subst (λ (W : Words K). Decides (member W w) (First (grammar_of R) (X ∷ []) w)) (same_value X s)
      (symbols_first K ρs vs first (grammar_of R) rules (sym many) cut_is (well_formed R formed) (ranges R formed).t_high X s w)
