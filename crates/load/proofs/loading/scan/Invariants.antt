use Rattle.std.proofs.Common.{length}
use Rattle.load.proofs.Counts.{Counting}
use Rattle.load.proofs.loading.scan.Given as goal

abbrev pub invariant-frames : goal.invariant-frames
invariant-frames l = Counting l.text l.frames.rest.now l.found

abbrev pub decreases-frames : goal.decreases-frames
decreases-frames l = length l.frames.rest.now
