-- What the check answers is known where its tests were computed.
use Rattle.std.proofs.Common.{rules}
use Rattle.cases.proofs.Examples.{known}
use Rattle.cases.proofs.tables.answer_of.Goals as goal

pub returns : goal.returns
returns c = search (rules, known)
