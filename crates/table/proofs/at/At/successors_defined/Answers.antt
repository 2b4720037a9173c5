use Rattle.std.proofs.Common.{ℕ, ◌≤◌, sym, ◌∙◌, arith, below_more}
use Rattle.std.proofs.lemmas.Bool.{true≢false}
use Rattle.table.specs.States.{file, SuccessorDefined}
use Rattle.table.proofs.AsDefined.{all_defined, successors_as_defined, each_defined}
use Rattle.table.proofs.Starting.{decides_no, decides_yes}
use Rattle.table.proofs.at.At.successors_defined.Goals as goal

pub returns-then-not-symbol_defined : goal.returns-then-not-symbol_defined
returns-then-not-symbol_defined g c =
    let a = c.args.self.now in
    decides_no (λ s. true≢false (sym (c.symbol_defined.ensures.1 (each_defined (file a.draft.now) a.draft.now.formed a.q s c.loop-symbol.symbol))
    ∙ c.if-not-symbol_defined.true))

pub loop-symbol-preserved : goal.loop-symbol-preserved
loop-symbol-preserved g c =
    let a = c.args.self.now in
    λ k low high.
    below_more (λ (k : ℕ). 1 ≤ k → SuccessorDefined (file a.draft.now) a.q k) c.loop-symbol.symbol
    (λ k h l. c.loop-symbol.invariant k l h) (λ _. c.symbol_defined.ensures.0 c.if-not-symbol_defined.false) k high low

pub returns : goal.returns
returns g c =
    let a = c.args.self.now in
    let R = file a.draft.now in
    let formed = a.draft.now.formed in
    decides_yes (successors_as_defined R formed a.q (all_defined R formed a.q a.within
    (λ X low high. c.loop-symbol.invariant X low (omega (arith, c.loop-symbol-test.false, high)))))
