use Rattle.std.proofs.Common.{ℕ, ◌<◌, arith}
use Rattle.frames.specs.Raw.{header_of}
use Rattle.table.specs.Rows.{chosen, ChoicesGood}
use Rattle.table.specs.States.{file}
use Rattle.table.proofs.Drafting.{s_is}
use Rattle.table.proofs.Judgements.{row_answer}
use Rattle.table.proofs.judge.Judge.mischosen.Goals as goal

pub returns : goal.returns
returns g c =
    let d = c.args.self.now.draft.now in
    row_answer (file d) chosen (λ (q : ℕ). ChoicesGood (file d) q) (λ q p. p) (λ q p. p) d.header.s (s_is d) c.lowest.result c.lowest.ensures (λ q b l a. a)

pub lowest-requires : goal.lowest-requires
lowest-requires g c =
    λ q l. let h : q < (header_of (file c.args.self.now.draft.now)).s = omega (arith, l, s_is c.args.self.now.draft.now) in ((c.args.self.now.cut_is, h), c.requires q h)
