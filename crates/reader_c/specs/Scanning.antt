-- What scanning a sheet answers in C.
use Rattle.std.specs.Prelude.{ℕ, ◌+◌, ◌*◌, ◌%◌, cond, List, [], ◌∷◌, length, nat_le, slice_index}
use Rattle.source.specs.Meaning.{Last, Meaning, ends, faults}
use Rattle.source.specs.Refusals.{numbers, fault_refusal, too_long}
use Rattle.source.specs.declared.token.Token.{Token}
use Rattle.sheet.specs.Faults.{fault_number}
use Rattle.sheet.specs.Scan.{scan}
use Rattle.sheet.specs.Scanners.{meaning_of}
use Rattle.sheet.specs.declared.fault.ScanFault.{ScanFault}
use Rattle.reader_c.specs.Causes.{cause}
use Rattle.reader_c.specs.declared.cause.Cause.{Cause}
use Rattle.reader_c.specs.declared.scanning.ScanAnswer.{ScanAnswer}

-- The checksum with one more token: of its kind, its line and its column.
abbrev pub mixed : ℕ → Token → ℕ
mixed checksum t =
    (31 * checksum + t.kind + 32 * slice_index (numbers t.place) 1 + 65536 * slice_index (numbers t.place) 0) % 4294967296

-- The last entry: 0 and the place of the end, or the fault.
abbrev pub last_cause : Last ScanFault → Cause
last_cause (ends p) = cause (record { number = 0; returned = numbers p })
last_cause (faults f) = cause (fault_refusal fault_number f)

-- The answer where so many tokens with this checksum stand before these.
abbrev pub counted : ℕ → ℕ → List Token → Last ScanFault → ScanAnswer
counted n checksum [] last = record { cause = last_cause last; tokens = n; checksum = checksum }
counted n checksum (t ∷ ts) last = counted (n + 1) (mixed checksum t) ts last

abbrev pub sum_up : ℕ → ℕ → Meaning ScanFault → ScanAnswer
sum_up n checksum m = counted n checksum m.tokens m.last

-- The answer for a sheet.
abbrev pub scan_answer : List ℕ → ScanAnswer
scan_answer sheet =
    cond (nat_le (length sheet) 60000) (sum_up 0 0 (meaning_of (scan sheet)))
    (record { cause = cause (too_long (record { length = length sheet })); tokens = 0; checksum = 0 })
