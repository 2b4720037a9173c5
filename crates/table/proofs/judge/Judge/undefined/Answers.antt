use Rattle.std.proofs.Common.{ℕ}
use Rattle.table.specs.Rows.{defined, StateGood}
use Rattle.table.specs.States.{file}
use Rattle.table.proofs.Drafting.{s_is}
use Rattle.table.proofs.Judgements.{row_answer}
use Rattle.table.proofs.judge.Judge.undefined.Goals as goal

pub returns : goal.returns
returns g c =
    let d = c.args.self.now.draft.now in
    row_answer (file d) defined (λ (q : ℕ). StateGood (file d) q) (λ q p. p) (λ q p. p) d.header.s (s_is d) c.lowest.result c.lowest.ensures (λ q b l a. a)
