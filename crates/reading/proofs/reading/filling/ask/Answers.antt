use Rattle.std.proofs.Common.{sym}
use Rattle.std.proofs.lemmas.Result.{err_from_is_err_and}
use Rattle.reading.proofs.reading.filling.ask.Goals as goal

pub returns-in_err-next-clause-gives : goal.returns-in_err-next-clause-gives
returns-in_err-next-clause-gives g c =
    let (e, is, e_is) = err_from_is_err_and c.from_residual.result c.from_residual.ensures.1 in
    rw is (c.in_err-next.field-0.0, (sym c.in_err-next.ensures.answers, e_is))
