use Rattle.std.proofs.Common.{◌≡◌, length}
use Rattle.items.specs.Reaching.{reach_at}
use Rattle.items.proofs.Made.{Written}
use Rattle.items.proofs.reach.write_reach_links.Given as goal

-- the links so far are there
abbrev pub invariant-loop-j : goal.invariant-loop-j
invariant-loop-j l = (length l.links ≡ 361) × Written (reach_at l.rules) l.links l.j
