use Rattle.std.proofs.Common.{sym, ap, ◌∙◌, arith}
use Rattle.grammar.specs.Grammar.{Rule}
use Rattle.frames.specs.declared.header.Header.{Header}
use Rattle.frames.specs.Views.{raw}
use Rattle.table.proofs.Numbering.{rule_found}
use Rattle.table.proofs.passed.CheckedTable.right_side.Goals as goal

pub returns-then-rule-self : goal.returns-then-rule-self
returns-then-rule-self c = λ ρ i. c.right.ensures ∙ sym (ap (λ (τ : Rule). τ.right) (rule_found (raw c.args.self.frames) c.args.rule ρ i).1)

pub returns-else-rule-self : goal.returns-else-rule-self
returns-else-rule-self c = λ ρ i.
    let (l, _) = rule_found (raw c.args.self.frames) c.args.rule ρ i in
    absurd (omega (arith, l, ap (λ (h : Header). h.p) c.args.self.header_is, c.if-rule-self.false))
