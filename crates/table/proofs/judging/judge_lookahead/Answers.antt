use Rattle.std.proofs.Common.{◌≡◌, ap, arith}
use Rattle.frames.specs.declared.header.Header.{Header}
use Rattle.frames.specs.Raw.{header_of}
use Rattle.table.specs.States.{file}
use Rattle.table.proofs.Drafting.{numbers}
use Rattle.table.proofs.judging.judge_lookahead.Goals as goal

pub invariant_of-judge_states-else-draft-eq1 : goal.invariant_of-judge_states-else-draft-eq1
invariant_of-judge_states-else-draft-eq1 c =
    let d = c.args.draft.now in
    let k_is : d.header.k ≡ (header_of (file d)).k = ap (λ (h : Header). h.k) d.header_is in
    record { cut_is = omega (arith, k_is, (numbers d).k_low, (numbers d).k_high, c.if-draft-eq1.false) }
