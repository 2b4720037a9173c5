use Rattle.std.proofs.Common.{◌≡◌, ◌+◌, ◌≤◌, length}
use Rattle.sheet.specs.Scanners.{meaning_of, scanned}
use Rattle.reader_c.specs.Scanning.{sum_up}
use Rattle.reader_c.proofs.scanning.sum_up.Given as goal

-- What is counted and what is to come give the answer; all tokens together are few.
abbrev pub invariant-tokens : goal.invariant-tokens
invariant-tokens l =
    (sum_up l.tokens l.checksum (meaning_of (scanned l.scanner)) ≡ sum_up 0 0 (meaning_of (scanned l.initial.scanner)))
    × (l.tokens + length (meaning_of (scanned l.scanner)).tokens ≤ 60000)

abbrev pub decreases-tokens : goal.decreases-tokens
decreases-tokens l = length (meaning_of (scanned l.scanner)).tokens
