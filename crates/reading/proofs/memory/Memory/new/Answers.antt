use Rattle.std.proofs.Common.{arith}
use Rattle.std.proofs.lemmas.List.Elements.{All-replicate}
use Rattle.reading.specs.Remembered.{IsKnown}
use Rattle.reading.proofs.Remembering.{no_fronts}
use Rattle.reading.proofs.memory.Memory.new.Goals as goal

pub returns : goal.returns
returns c = λ R.
    record {
      cells = All-replicate (IsKnown R) 1024 _ (λ q p a b lq lp la e h. absurd (omega (arith, e, h)));
      fronts = no_fronts R 8192;
    }
