use Rattle.std.proofs.Common.{◌≡◌, ◌<◌, arith, rules}
use Rattle.solver.specs.Solution.{rule_of}
use Rattle.frames.specs.Raw.{header_of}
use Rattle.frames.specs.Views.{raw}
use Rattle.items.proofs.Made.{made}
use Rattle.items.proofs.RightSides.{rule_made}
use Rattle.table.specs.Contents.{rule_in}
use Rattle.table.proofs.draft.reading.read_rules.Goals as goal

pub returns-clause-each : goal.returns-clause-each
returns-clause-each c =
    λ r h l. rule_made c.from_fn.result r _ (omega (arith, c.from_fn.ensures.items.long, h))
    (λ d. made _ _ (λ i y. i < (header_of (raw c.args.frames)).p → rule_of y ≡ rule_in (raw c.args.frames) i) (λ i y q k. search rules) c.from_fn.result 60 c.from_fn.ensures.items r d h l)
