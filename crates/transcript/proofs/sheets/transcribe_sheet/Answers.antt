use Rattle.std.proofs.Common.{inl, ap, ◌∙◌, subst}
use Rattle.std.proofs.lemmas.Result.{on_ok_weaker}
use Rattle.source.specs.Layers.{skipped}
use Rattle.sheet.specs.Scanners.{meaning_of}
use Rattle.table.specs.Checked.{contents}
use Rattle.transcript.specs.Transcripts.{Transcribed}
use Rattle.transcript.specs.Sheets.{number_of, shown_of}
use Rattle.transcript.proofs.Showing.{shows_all}
use Rattle.transcript.proofs.sheets.transcribe_sheet.Goals as goal

pub returns-in-Ok : goal.returns-in-Ok
returns-in-Ok g c =
    let opens = c.in-Ok.ensures.opens in
    let means = c.new-tokens.ensures ∙ ap (skipped 16) (c.new.ensures ∙ ap (skipped 15) (ap meaning_of opens.1)) in
    on_ok_weaker c.transcribe.result
    (λ told. inl (opens.0, subst (Transcribed number_of shown_of _ _ (contents c.args.table)) means told))
    (c.transcribe.ensures shows_all)
