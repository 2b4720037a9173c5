-- The rules of a draft are those of the grammar.
use Rattle.std.proofs.Common.{◌≡◌, ℕ, zero, suc, ◌+◌, ◌<◌, ◌≤◌, List, [], ◌∷◌, length, take, sym, refl, ap, ◌∙◌, subst, ap₂, arith}
use mathlib.Core.Option.{some}
use Rattle.grammar.specs.Grammar as grammar
use Rattle.grammar.specs.Grammar.{rule_at}
use Rattle.solver.specs.declared.rule.Rule.{Rule}
use Rattle.solver.specs.Solution.{rule_of, rules_of}
use Rattle.std.proofs.lemmas.List.{length-take-le}
use Rattle.items.specs.Actives.{RulesOf}
use Rattle.frames.specs.declared.header.Header.{Header}
use Rattle.frames.specs.Raw.{Raw, header_of}
use Rattle.frames.specs.Views.{raw}
use Rattle.table.specs.declared.draft.Draft.{Draft}
use Rattle.table.specs.Contents.{rule_in, rules_in, grammar_of}
use Rattle.table.proofs.Numbering.{rule_found}
use Rattle.table.proofs.Formed.{Ranges, ranges, well_formed, right_short}

pub rules_are : (R : Raw) (r n : ℕ) (ρs : List Rule) → n ≤ length ρs → ((k : ℕ) → k < n → rule_at (rules_of ρs) k ≡ some (rule_in R (r + k)))
    → rules_of (take n ρs) ≡ rules_in R r n
rules_are R r zero ρs h each = refl
rules_are R r (suc n) [] h each = absurd (omega arith)
rules_are R r (suc n) (ρ ∷ ρs) h each =
    let z : r + 0 ≡ r = omega arith in
    let first : some (rule_of ρ) ≡ some (rule_in R (r + 0)) = each 0 (omega arith) in
    let same : rule_of ρ ≡ rule_in R (r + 0) = cc in
    ap₂ (λ (τ : grammar.Rule) (τs : List grammar.Rule). τ ∷ τs) (same ∙ ap (rule_in R) z)
    (rules_are R (suc r) n ρs (omega arith) (λ k l. let y : r + suc k ≡ suc r + k = omega arith in each (suc k) (omega arith) ∙ ap (λ (m : ℕ). some (rule_in R m)) y))

module _ (d : Draft) where
  pub numbers : Ranges (header_of (raw d.frames))
  numbers = ranges (raw d.frames) d.formed

  pub p_is : d.header.p ≡ (header_of (raw d.frames)).p
  p_is = ap (λ (h : Header). h.p) d.header_is

  pub n_is : d.header.n ≡ (header_of (raw d.frames)).n
  n_is = ap (λ (h : Header). h.n) d.header_is

  pub s_is : d.header.s ≡ (header_of (raw d.frames)).s
  s_is = ap (λ (h : Header). h.s) d.header_is

  pub draft_rules : RulesOf (grammar_of (raw d.frames)) (take d.header.p d.rules)
  draft_rules = record {
    same = sym d.rules_are;
    well_formed = well_formed (raw d.frames) d.formed;
    few_nonterminals = numbers.n_high;
    few_rules = let l = length-take-le d.header.p d.rules (omega (arith, d.many, p_is, numbers.p_high)) in omega (arith, l, p_is, numbers.p_high);
    short_sides = λ r ρ i.
        let (l, e) = rule_found (raw d.frames) r ρ i in
        subst (λ (τ : grammar.Rule). length τ.right ≤ 6) (sym e) (right_short (raw d.frames) d.formed r l);
  }
