use Rattle.std.proofs.Common.{◌≡◌, ◌+◌, ap, ◌∙◌, arith}
use mathlib.Core.Option.{some}
use Rattle.frames.specs.declared.header.Header.{Header}
use Rattle.frames.specs.Raw.{header_of}
use Rattle.frames.specs.Views.{raw}
use Rattle.table.specs.Contents.{rule_in, rules_in}
use Rattle.table.proofs.Formed.{ranges}
use Rattle.table.proofs.Drafting.{rules_are}
use Rattle.table.proofs.draft.Draft.new.Goals as goal

pub invariant_of-result : goal.invariant_of-result
invariant_of-result c =
    let R = raw c.args.frames in
    let p_is : c.header.result.p ≡ (header_of R).p = ap (λ (h : Header). h.p) c.header.ensures in
    let high = (ranges R c.requires).p_high in
    record {
      formed = c.requires;
      header_is = c.header.ensures;
      rules_are =
          rules_are R 0 c.header.result.p c.read_rules.result (omega (arith, c.read_rules.ensures.many, p_is, high))
          (λ k l. let z : k ≡ 0 + k = omega arith in c.read_rules.ensures.each k (omega (arith, l, p_is, high)) (omega (arith, l, p_is)) ∙ ap (λ k. some (rule_in R k)) z)
          ∙ ap (rules_in R 0) p_is;
      many = c.read_rules.ensures.many;
    }
