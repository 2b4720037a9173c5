use Rattle.std.proofs.Common.{◌≡◌, length}
use Rattle.sheet.specs.Scanners.{scanned}
use Rattle.sheet.proofs.scanner.Scanner.next_lexeme.Given as goal

-- blanks are no part of what is to come
abbrev pub invariant-blanks : goal.invariant-blanks
invariant-blanks l = scanned l.self ≡ scanned l.initial.self

abbrev pub decreases-blanks : goal.decreases-blanks
decreases-blanks l = length l.self.rest.now
