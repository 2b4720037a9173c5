-- What reading a sheet answers in C.
use Rattle.std.specs.Prelude.{◌≡◌, ℕ, zero, suc, ◌<◌, ◌≤◌, ◌⊎◌, Bool, true, false, List, length, Ok, Err, Some, None, Option}
use Rattle.source.specs.Layers.{skipped}
use Rattle.source.specs.Meaning.{Meaning}
use Rattle.source.specs.Refusals.{layer_number, too_long}
use Rattle.source.specs.declared.fault.LayerFault.{LayerFault}
use Rattle.sheet.specs.Faults as scanner
use Rattle.sheet.specs.Scan.{scan}
use Rattle.sheet.specs.Scanners.{meaning_of}
use Rattle.sheet.specs.declared.fault.ScanFault.{ScanFault}
use Rattle.frames.specs.Raw.{Raw}
use Rattle.table.specs.Refusals.{refused}
use Rattle.table.specs.Rows.{Verdict}
use Rattle.table.specs.declared.refused.CheckRefusal.{CheckRefusal}
use Rattle.reading.specs.Refusals.{read_refusal}
use Rattle.reading.specs.Sheet.{SheetRead}
use Rattle.reading.specs.declared.answer.ReadRefusal.{ReadRefusal}
use Rattle.reading.specs.declared.answer.Sheet.{Sheet}
use Rattle.reading.specs.declared.answer.Standing.{Standing}
use Rattle.reading.specs.declared.answer.Standing.TheVariants.{Running, Over}
use Rattle.reader_c.specs.Causes.{cause, none}
use Rattle.reader_c.specs.declared.cause.Cause.{Cause}
use Rattle.reader_c.specs.declared.readings.ReadAnswer.{ReadAnswer}

-- The faults that reach a reading, through two layers, and their numbers.
abbrev pub Fault : Type 0
Fault = LayerFault (LayerFault ScanFault)

abbrev pub fault_number : Fault → ℕ
fault_number = layer_number (layer_number scanner.fault_number)

-- The tokens of a sheet but line ends and comments.
abbrev pub seen : List ℕ → Meaning Fault
seen sheet = skipped 16 (skipped 15 (meaning_of (scan sheet)))

abbrev pub read_cause : Option (ReadRefusal Fault) → Cause
read_cause None = none
read_cause (Some e) = cause (read_refusal fault_number e)

abbrev pub is_over : Standing → Bool
is_over Running = false
is_over (Over e) = true

-- What a reading came to.
abbrev pub answer_of : Sheet Fault → ReadAnswer
answer_of a = record { cause = read_cause a.refusal; over = is_over a.view.standing; tokens = a.view.tokens; rules = a.view.rules; moves = a.view.moves }

-- Nothing was read.
abbrev pub unread : Cause → ReadAnswer
unread c = record { cause = c; over = false; tokens = 0; rules = 0; moves = 0 }

-- A sheet was read by a table with the contents R, or is too long.
abbrev pub ReadsOnce : Raw → List ℕ → List ℕ → ReadAnswer → List ℕ → Type 0
ReadsOnce R sheet list r list' =
    ((length sheet ≤ 60000)
    × ((a : Sheet Fault) × ((m' : Meaning Fault) × (SheetRead R (seen sheet) list a m' list' × (r ≡ answer_of a)))))
    ⊎ ((60000 < length sheet) × ((r ≡ unread (cause (too_long (record { length = length sheet })))) × (list' ≡ list)))

-- So it was, and then so many times more: each time the list is as the time before left it, and the answer is the last one.
abbrev pub ReadsMore : ℕ → Raw → List ℕ → List ℕ → ReadAnswer → List ℕ → Type 0
ReadsMore zero R sheet list r list' = ReadsOnce R sheet list r list'
ReadsMore (suc n) R sheet list r list' =
    (r₀ : ReadAnswer) × ((between : List ℕ) × (ReadsMore n R sheet list r₀ between × ReadsOnce R sheet between r list'))

-- The table is refused, and nothing is read; or it is accepted, and the sheet is read by it.
abbrev pub Reads : Raw → List ℕ → ℕ → List ℕ → ReadAnswer → List ℕ → Type 0
Reads R sheet more list r list' =
    ((e : CheckRefusal) × (Verdict R (Err e) × ((r ≡ unread (cause (refused e))) × (list' ≡ list))))
    ⊎ (Verdict R (Ok tt) × ReadsMore more R sheet list r list')
