-- What is printed of a sheet and a table.
use Rattle.std.specs.Prelude.{ℕ, ◌<◌, ◌≤◌, ◌⊎◌, List, [], ◌∷◌, ◌++◌, length, Some, Option}
use Rattle.std.specs.Io.KnownBytes.{Appends}
use Rattle.source.specs.Layers.{skipped}
use Rattle.source.specs.Meaning.{Meaning}
use Rattle.source.specs.Refusals.{layer_number}
use Rattle.source.specs.Shown.{shown_layer_fault}
use Rattle.source.specs.declared.fault.LayerFault.{LayerFault}
use Rattle.sheet.specs.Faults.{fault_number, reason_of}
use Rattle.sheet.specs.Scan.{scan}
use Rattle.sheet.specs.Scanners.{meaning_of}
use Rattle.sheet.specs.declared.fault.ScanFault.{ScanFault}
use Rattle.listing.specs.Lines.{too_long_line}
use Rattle.frames.specs.Raw.{Raw}
use Rattle.transcript.specs.Transcripts.{Transcribed}

-- The faults that reach a reading, through two layers.
abbrev pub Fault : Type 0
Fault = LayerFault (LayerFault ScanFault)

-- The tokens of a sheet but line ends and comments.
abbrev pub seen : List ℕ → Meaning Fault
seen sheet = skipped 16 (skipped 15 (meaning_of (scan sheet)))

-- They keep their numbers and their texts.
abbrev pub number_of : Fault → ℕ
number_of = layer_number (layer_number fault_number)

abbrev pub shown_of : Fault → Option (List ℕ)
shown_of = shown_layer_fault (shown_layer_fault (λ f. Some (reason_of f)))

-- A writer that held `known` holds also the transcript of a reading of a sheet, by a table with the contents R; or the line that refuses the sheet.
abbrev pub SheetTranscribed : Raw → List ℕ → Option (List ℕ) → Option (List ℕ) → Type 0
SheetTranscribed R sheet known known' =
    ((length sheet ≤ 60000) × Transcribed number_of shown_of known known' R (seen sheet))
    ⊎ ((60000 < length sheet) × Appends known known' (too_long_line (record { length = length sheet }) ++ 10 ∷ []))
