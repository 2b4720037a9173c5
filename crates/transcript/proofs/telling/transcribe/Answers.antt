use Rattle.std.proofs.lemmas.Result.{on_ok_weaker}
use Rattle.transcript.proofs.Writing.{transcribed}
use Rattle.transcript.proofs.telling.transcribe.Goals as goal

pub returns : goal.returns
returns g c = λ all.
    on_ok_weaker c.writeln.result (transcribed all c.open-reading.ensures c.in_ok-outcome.ensures c.close-view.ensures.shows) c.writeln.ensures.bytes
