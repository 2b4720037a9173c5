use Rattle.std.proofs.Common.{◌≡◌, drop}
use Rattle.grammar.specs.Equations.{product_of}
use Rattle.solver.specs.Solution.{rule_of, valuation}
use Rattle.solver.proofs.rounds.product.Given as goal

abbrev pub invariant-loop-symbol : goal.invariant-loop-symbol
invariant-loop-symbol g l =
    let o = g.V.Value.kind in
    let S = valuation o l.values in
    let α = (rule_of l.rule).right in
    o.product l.found (product_of o S (drop l.symbol-index α)) ≡ product_of o S α
