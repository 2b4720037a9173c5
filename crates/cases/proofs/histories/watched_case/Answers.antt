use Rattle.cases.proofs.Watching.{used}
use Rattle.cases.proofs.histories.watched_case.Goals as goal

pub returns : goal.returns
returns g c =
    used c.open-reading.ensures c.step-first.ensures c.step-second.ensures c.look-early.ensures.shows c.look-early.ensures.promise
    c.run-ran.ensures c.close-view.ensures.shows c.close-view.ensures.promise
