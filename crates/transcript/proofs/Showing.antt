-- Every fault that reaches a reading of a sheet has a text.
use Rattle.std.proofs.Common.{refl}
use Rattle.source.specs.declared.fault.LayerFault.TheVariants.{Under, QuotaUsed}
use Rattle.transcript.specs.Transcripts.{ShowsAll}
use Rattle.transcript.specs.Sheets.{shown_of}

pub shows_all : ShowsAll shown_of
shows_all (Under (Under f)) = refl
shows_all (Under QuotaUsed) = refl
shows_all QuotaUsed = refl
