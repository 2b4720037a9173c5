use Rattle.std.proofs.Common.{ℕ}
use Rattle.grammar.specs.Table.{TwoFit}
use Rattle.table.specs.Contents.{grammar_of, table_of}
use Rattle.table.specs.Rows.{one_fits}
use Rattle.table.specs.States.{file}
use Rattle.table.proofs.Drafting.{s_is}
use Rattle.table.proofs.Judgements.{row_answer}
use Rattle.table.proofs.judge.Judge.two_fit.Goals as goal

pub returns : goal.returns
returns g c =
    let d = c.args.self.now.draft.now in
    row_answer (file d) one_fits (λ (q : ℕ). TwoFit (grammar_of (file d)) (table_of (file d)) q → ⊥) (λ q p. p) (λ q p. p) d.header.s (s_is d) c.lowest.result c.lowest.ensures (λ q b l a. a)
