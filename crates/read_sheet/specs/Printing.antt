-- What is printed of a sheet and the text of a table.
use Rattle.std.specs.Prelude.{ℕ, List, [], ◌∷◌, ◌++◌, Ok, Err, Option, Result}
use Rattle.std.specs.Io.KnownBytes.{Appends}
use Rattle.load.specs.declared.fault.LoadRefusal.{LoadRefusal}
use Rattle.admission.specs.Admitting.{Admits, file}
use Rattle.admission.specs.Texts.{refused_text}
use Rattle.admission.specs.declared.outcome.Accepted.{Accepted}
use Rattle.admission.specs.declared.outcome.Refused.{Refused}
use Rattle.transcript.specs.Sheets.{SheetTranscribed}

-- What is printed by the outcome for the table's text: that, or the line that refuses the table.
abbrev pub PrintsOutcome : List ℕ → List ℕ → List ℕ → Option (List ℕ) → Option (List ℕ) → Result Accepted Refused → Type 0
PrintsOutcome store starts sheet known known' (Ok a) = SheetTranscribed (file store starts a.loaded) sheet known known'
PrintsOutcome store starts sheet known known' (Err e) = Appends known known' (refused_text e ++ 10 ∷ [])

-- All that is printed, by what was loaded of a text into these memories.
abbrev pub Prints : Result (List (List ℕ)) LoadRefusal → List ℕ → List ℕ → List ℕ → Option (List ℕ) → Option (List ℕ) → Type 0
Prints found store starts sheet known known' =
    (r : Result Accepted Refused) × (Admits found store starts r × PrintsOutcome store starts sheet known known' r)
