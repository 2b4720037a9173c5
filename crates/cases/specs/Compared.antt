-- The compared cases, as one list. A case that is added later joins it.
use Rattle.std.specs.Prelude.{◌≡◌, [], ◌∷◌, ◌++◌, codes}
use Rattle.std.specs.List.{AllByRecursion}
use Rattle.source.specs.Draining.{drained, filled}
use Rattle.source.specs.Layers.{skipped, allowed}
use Rattle.source.specs.Meaning.{Meaning}
use Rattle.source.specs.Stored.{stored}
use Rattle.sheet.specs.Scan.{scan}
use Rattle.sheet.specs.Scanners.{meaning_of}
use Rattle.cases.specs.LookUps.{Named}
use Rattle.cases.specs.Readings.{Reads, readings}
use Rattle.cases.specs.Outcomes.{none, skip_outcome, quota_outcome, sheet_outcome}
use Rattle.cases.specs.Sheets.{Sheets, quote}
use Rattle.cases.specs.Tables.{Tables}
use Rattle.cases.specs.declared.sources.Outcome.{Outcome}

-- what a source of this meaning comes to, drained into a list of four
abbrev pub outcome : {F : Type 0} → Meaning F → Outcome F
outcome m = record { list = filled (none ∷ none ∷ none ∷ none ∷ []) m; drained = drained 4 m }

-- skip 15 over 15 2 15 1, quota 1 over 2 1, and the sheet that breaks off in a name
abbrev pub Sources : Type 0
Sources =
    (outcome (skipped 15 (stored (15 ∷ 2 ∷ 15 ∷ 1 ∷ []))) ≡ skip_outcome)
    × (outcome (allowed 1 (stored (2 ∷ 1 ∷ []))) ≡ quota_outcome)
    × (outcome (meaning_of (scan (codes "set 7 " ++ quote ++ codes "x"))) ≡ sheet_outcome)

-- what readings by two of the tables come to
abbrev pub Readings : Type 0
Readings = AllByRecursion Reads readings

-- the sources, the sheets, the tables, what is looked up in one of them, and the readings
abbrev pub Compared : Type 0
Compared = Sources × Sheets × Tables × Named × Readings
