use Rattle.std.specs.Prelude.{◌≡◌, ℕ, suc, ◌+◌}
use Rattle.std.proofs.Common.{arith, inr, subst}
use Rattle.table.specs.Checked.{contents}
use Rattle.table.specs.Rows.{Verdict}
use Rattle.reader_c.specs.Readings.{ReadsMore}
use Rattle.reader_c.proofs.readings.reader_c_read.Goals as goal

pub loop-init : goal.loop-init
loop-init c = c.read_once-answer.ensures

one_more : (n : ℕ) → suc n ≡ n + 1
one_more n = omega arith

pub loop-preserved : goal.loop-preserved
loop-preserved c =
    subst (λ n. ReadsMore n (contents c.checked-table.result) c.args.sheet.now c.args.list.now c.read_once-answer-in-loop.result c.read_once-answer-in-loop.new.list)
    (one_more c.loop.counter)
    (c.loop.answer, (c.loop.list, (c.loop.invariant, c.read_once-answer-in-loop.ensures)))

pub returns : goal.returns
returns c =
    let all = subst (λ n. ReadsMore n (contents c.checked-table.result) c.args.sheet.now c.args.list.now c.loop.answer c.loop.list)
    (omega (arith, c.loop-test.false, c.loop.auto.counter-end)) c.loop.invariant in
    inr (
      subst (Verdict _) c.in_default.is c.check.ensures,
      subst (λ R. ReadsMore c.args.more R c.args.sheet.now c.args.list.now c.loop.answer c.loop.list) c.checked-table.ensures all,
    )
