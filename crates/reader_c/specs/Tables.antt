-- What load and check answer in C.
use Rattle.std.specs.Prelude.{◌≡◌, Ok, Err, Result}
use Rattle.load.specs.Refusals.{refusal_of}
use Rattle.load.specs.declared.fault.LoadRefusal.{LoadRefusal}
use Rattle.load.specs.declared.loading.Loaded.{Loaded}
use Rattle.frames.specs.Raw.{Raw}
use Rattle.table.specs.Refusals.{refused}
use Rattle.table.specs.Rows.{Verdict}
use Rattle.table.specs.declared.refused.CheckRefusal.{CheckRefusal}
use Rattle.reader_c.specs.Causes.{cause, none}
use Rattle.reader_c.specs.declared.cause.Cause.{Cause}
use Rattle.reader_c.specs.declared.tables.LoadAnswer.{LoadAnswer}

-- What was loaded, or the refusal.
abbrev pub load_answer : Result Loaded LoadRefusal → LoadAnswer
load_answer (Ok l) = record { cause = none; frames = l.frames; bytes = l.bytes }
load_answer (Err e) = record { cause = cause (refusal_of e); frames = 0; bytes = 0 }

-- The check's verdict: a refusal, or none.
abbrev pub verdict_cause : Result (Unit {0}) CheckRefusal → Cause
verdict_cause (Ok _) = none
verdict_cause (Err e) = cause (refused e)

abbrev pub Checks : Raw → Cause → Type 0
Checks R c = (v : Result (Unit {0}) CheckRefusal) × (Verdict R v × (c ≡ verdict_cause v))
