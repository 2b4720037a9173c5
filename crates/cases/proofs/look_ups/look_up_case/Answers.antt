-- The checked table holds the accepted file, and what is looked up in that is computed.
use Rattle.std.proofs.Common.{Ok, ap, ◌∙◌}
use Rattle.cases.specs.LookUps.{looked_in}
use Rattle.cases.proofs.look_ups.look_up_case.Goals as goal

pub returns : goal.returns
returns c = ap Ok (c.look_ups_in.ensures ∙ ap looked_in c.checked-table.ensures)
