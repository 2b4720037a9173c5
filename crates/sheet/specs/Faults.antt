-- The faults of a sheet: their numbers, and what is printed of them. Each is returned with its place.
use Rattle.std.specs.Prelude.{ℕ, List, codes}
use Rattle.sheet.specs.declared.fault.ScanFault.{ScanFault}
use Rattle.sheet.specs.declared.fault.ScanFault.TheVariants.{NoClass, OpenQuote, Oversized}

-- 19: a byte of no class; 20: a quote that is not closed; 21: a word or a number of more than 32 bytes
abbrev pub fault_number : ScanFault → ℕ
fault_number NoClass = 19
fault_number OpenQuote = 20
fault_number Oversized = 21

-- what is wrong, in words
abbrev pub reason_of : ScanFault → List ℕ
reason_of NoClass = codes "byte of no class"
reason_of OpenQuote = codes "quote not closed"
reason_of Oversized = codes "word or number over 32 bytes"
