use Rattle.frames.specs.Views.{raw}
use Rattle.table.proofs.FrameEnds.{rule_there, rule_long}
use Rattle.table.proofs.passed.CheckedTable.right.Goals as goal

pub behind-requires-clause-there : goal.behind-requires-clause-there
behind-requires-clause-there c = rule_there (raw c.args.self.frames) c.args.self.good c.args.rule c.requires

pub behind-requires-clause-long : goal.behind-requires-clause-long
behind-requires-clause-long c = rule_long (raw c.args.self.frames) c.args.self.good c.args.rule c.requires
