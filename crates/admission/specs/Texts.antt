-- The line that is printed of a table.
use Rattle.std.specs.Prelude.{ℕ, List, ◌++◌, Ok, Err, Result, codes, decimal, slice_index}
use Rattle.refusal.specs.Refusal.{Refusal}
use Rattle.load.specs.Refusals.{refusal_of}
use Rattle.load.specs.Refusals as load
use Rattle.load.specs.declared.loading.Loaded.{Loaded}
use Rattle.frames.specs.declared.header.Header.{Header}
use Rattle.table.specs.Refusals.{refused}
use Rattle.table.specs.Refusals as table
use Rattle.admission.specs.declared.outcome.Accepted.{Accepted}
use Rattle.admission.specs.declared.outcome.Refused.{Refused}
use Rattle.admission.specs.declared.outcome.Refused.TheVariants.{NotLoaded, NotAccepted}

-- the number that is returned with a refusal, 0 where there is none
abbrev pub value_of : Refusal → ℕ
value_of e = slice_index e.returned 0

-- the numbers of a table, each behind a blank: k=K t=T n=N p=P s=S
abbrev pub header_text : Header → List ℕ
header_text h =
    codes " k=" ++ (decimal h.k ++ (codes " t=" ++ (decimal h.t ++ (codes " n=" ++ (decimal h.n ++ (codes " p=" ++ (decimal h.p ++ (codes " s=" ++ decimal h.s))))))))

-- accepted, the numbers of the table, frames=FRAMES bytes=BYTES
abbrev pub accepted_text : Header → Loaded → List ℕ
accepted_text h l =
    codes "accepted" ++ (header_text h ++ (codes " frames=" ++ (decimal l.frames ++ (codes " bytes=" ++ decimal l.bytes))))

-- refused NUMBER VALUE: reason
abbrev pub refusal_text : ℕ → ℕ → List ℕ → List ℕ
refusal_text number value reason = codes "refused " ++ (decimal number ++ (codes " " ++ (decimal value ++ (codes ": " ++ reason))))

-- the line of a text that is not loaded, or of a table that the check refuses
abbrev pub refused_text : Refused → List ℕ
refused_text (NotLoaded e) = refusal_text (refusal_of e).number (value_of (refusal_of e)) (load.reason_of e)
refused_text (NotAccepted e) = refusal_text (refused e).number (value_of (refused e)) (table.reason_of e)

-- all that is printed of a table
abbrev pub outcome_text : Result Accepted Refused → List ℕ
outcome_text (Ok a) = accepted_text a.header a.loaded
outcome_text (Err e) = refused_text e
