use Rattle.std.proofs.Common.{ℕ, ◌+◌, ◌-◌, sym, ap, ◌∙◌, ap₂, arith}
use Rattle.std.proofs.lemmas.Bool.{cond-false, ne_eqb, lt-leb}
use Rattle.frames.specs.declared.header.Header.{Header}
use Rattle.frames.specs.Raw.{header_of}
use Rattle.frames.specs.Form.{section_good, section_at}
use Rattle.frames.specs.Views.{raw}
use Rattle.frames.proofs.form.Form.is_good_at.Goals as goal

pub returns-else-i-rules : goal.returns-else-i-rules
returns-else-i-rules c =
    let first = ap (λ (h : Header). h.p) c.args.self.now.first in
    c.is_section.ensures
    ∙ ap₂ (section_good (raw c.args.self.now.frames)) (c.at.ensures ∙ ap (λ (p : ℕ). section_at (c.args.i - (1 + p))) first) c.frame-frame.ensures
    ∙ sym (cond-false _ _ _ (ne_eqb _ _ c.if-i-eq0.false) ∙ cond-false _ _ _ (lt-leb c.args.i (header_of (raw c.args.self.now.frames)).p (omega (arith, c.if-i-rules.false, first))))
