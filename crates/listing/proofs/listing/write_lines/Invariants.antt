use Rattle.std.proofs.Common.{length}
use Rattle.std.specs.Fmt.{IsPlainFormatter}
use Rattle.sheet.specs.Scanners.{scanned}
use Rattle.listing.specs.Listings.{listing}
use Rattle.listing.proofs.Listings.{Listed}
use Rattle.listing.proofs.listing.write_lines.Given as goal

abbrev pub invariant-lines : goal.invariant-lines
invariant-lines g l = IsPlainFormatter l.initial.f → Listed g.W.Write.write_str_gives l.initial.f (listing (scanned l.initial.scanner)) l.f (scanned l.scanner)

abbrev pub decreases-lines : goal.decreases-lines
decreases-lines g l = length (scanned l.scanner).spots
