use Rattle.std.proofs.Common.{ℕ, sym, ◌∙◌, arith, below_more}
use Rattle.std.proofs.lemmas.Bool.{true≢false}
use Rattle.grammar.specs.Table.{EqualStates}
use Rattle.table.specs.Contents.{table_of}
use Rattle.table.specs.States.{file}
use Rattle.table.proofs.Starting.{decides_yes}
use Rattle.table.proofs.at.At.is_distinct.Goals as goal

pub loop-m-preserved : goal.loop-m-preserved
loop-m-preserved g c =
    below_more (λ (k : ℕ). EqualStates (table_of (file c.args.self.now.draft.now)) k c.args.self.now.q → ⊥) c.loop-m.m c.loop-m.invariant
    (λ e. true≢false (sym (c.is_equal.ensures.1 e) ∙ c.if-is_equal.false))

pub returns : goal.returns
returns g c = decides_yes (λ (m, (l, e)). c.loop-m.invariant m (omega (arith, c.loop-m-test.false, l)) e)
