use Rattle.std.proofs.Common.{◌≡◌, sym, subst, arith}
use Rattle.std.specs.Str.Parse.{AllDigits}
use Rattle.std.proofs.lemmas.Grind.{common_steps}
use Rattle.batches.specs.Cases.{digits}
use Rattle.batches.proofs.Digits.{all_digits}
use Rattle.batches.proofs.split_digits.Goals as goal

pub returns-clause-digits : goal.returns-clause-digits
returns-clause-digits c =
    let front : c.split_at.result.0.now ≡ digits c.args.batch.now = grind (arith, common_steps) in
    subst (AllDigits 10) (sym front) (all_digits c.args.batch.now)
