-- What is admitted, by what was loaded.
use Rattle.std.specs.Prelude.{◌≡◌, ℕ, ◌≤◌, List, [], ◌∷◌, ◌++◌, length, Ok, Err, Result}
use Rattle.load.specs.Loading.{numbers}
use Rattle.load.specs.declared.fault.LoadRefusal.{LoadRefusal}
use Rattle.load.specs.declared.loading.Loaded.{Loaded}
use Rattle.frames.specs.Raw.{Raw, header_of}
use Rattle.table.specs.Rows.{Verdict}
use Rattle.admission.specs.Texts.{outcome_text}
use Rattle.admission.specs.declared.outcome.Accepted.{Accepted}
use Rattle.admission.specs.declared.outcome.Refused.{Refused}
use Rattle.admission.specs.declared.outcome.Refused.TheVariants.{NotLoaded, NotAccepted}

-- Memory with room for every table: half as many bytes as the longest text has, and the starts of as many frames as a table has at most.
abbrev pub HasRoom : List ℕ → List ℕ → Type 0
HasRoom store starts = (524288 ≤ length store) × (861 ≤ length starts)

-- The table file in these two memories.
abbrev pub file : List ℕ → List ℕ → Loaded → Raw
file store starts l = record { store = store; starts = starts; frames = l.frames; bytes = l.bytes }

-- What is said of a text: load's refusal, or the check's of what was loaded, or that it is accepted, with the numbers of its first frame.
abbrev pub Admits : Result (List (List ℕ)) LoadRefusal → List ℕ → List ℕ → Result Accepted Refused → Type 0
Admits found store starts (Err (NotLoaded e)) = found ≡ Err e
Admits found store starts (Err (NotAccepted e)) = (l : Loaded) × ((numbers found ≡ Ok l) × Verdict (file store starts l) (Err e))
Admits found store starts (Ok a) =
    (numbers found ≡ Ok a.loaded) × (Verdict (file store starts a.loaded) (Ok tt) × (a.header ≡ header_of (file store starts a.loaded)))

-- A line, closed, with what is said of a text.
abbrev pub Tells : Result (List (List ℕ)) LoadRefusal → List ℕ → List ℕ → List ℕ → Type 0
Tells found store starts line = (r : Result Accepted Refused) × (Admits found store starts r × (line ≡ outcome_text r ++ 10 ∷ []))
