use Rattle.std.proofs.Common.{[], Some, refl, ap}
use Rattle.reading.specs.declared.answer.ReadRefusal.{ReadRefusal}
use Rattle.reading.specs.declared.answer.ReadRefusal.TheVariants.{Over, ListTooShort}
use Rattle.reading.specs.Model.{model}
use Rattle.reading.specs.Run.{late, short}
use Rattle.reading.proofs.reading.Reading.run.Goals as goal
use Rattle.reading.proofs.reading.Reading.run.Goals.{in-Over, in-Running}

pub returns : goal.returns
returns g c =
    let r = c.args.self.now in
    let n = g.S.Source.meaning c.args.source.now in
    elim c.match-self.branch [
      | in-Over w ↦ record {
        table = refl;
        course = record { gave = []; moves = 0; rules = []; refusal = Some (Over w.in-Over.ending); state = model r; meaning = n };
        run = late w.in-Over.is;
        answers = ap (λ (e : ReadRefusal _). record { moves = 0; rules = 0; standing = r.standing; refusal = Some e }) w.refusal-is;
        leaves = refl;
        source = refl;
        written = refl;
      }
      | in-Running w ↦ record {
        table = refl;
        course = record { gave = []; moves = 0; rules = []; refusal = Some ListTooShort; state = model r; meaning = n };
        run = short w.in-Running.is w.if-list-n.true;
        answers = ap (λ (e : ReadRefusal _). record { moves = 0; rules = 0; standing = r.standing; refusal = Some e }) w.refusal-is;
        leaves = refl;
        source = refl;
        written = refl;
      }
    ]
