use Rattle.std.proofs.Common.{◌≡◌, length}
use Rattle.items.specs.Closures.{link_at}
use Rattle.items.proofs.Made.{Written}
use Rattle.items.proofs.closing.write_links.Given as goal

-- the links so far are there
abbrev pub invariant-loop-j : goal.invariant-loop-j
invariant-loop-j l = (length l.links ≡ 487) × Written (link_at l.rules l.places) l.links l.j
