-- Yes and no are a kind of values cut to nothing, as truth values are.
use Rattle.grammar.specs.Grammar.{Grammar}
use Rattle.grammar.specs.Equations.{CutTo}
use Rattle.grammar.proofs.SampleKind.{yes_no_is_a_kind}
use Rattle.solver.specs.YesKind.{yes_kind}

pub yes_cut : (g : Grammar) → CutTo yes_kind 0 g
yes_cut g =
    let cut = yes_no_is_a_kind g in
    record {
      bottom = cut.bottom;
      unit = cut.unit;
      token = cut.token;
      join = λ x y. cut.join x.0 y.0;
      product = λ x y w. (
        λ h. let (u, v, p) = (cut.product x.0 y.0 w).0 h in (u, v, p),
        λ (u, v, p). (cut.product x.0 y.0 w).1 (u, v, p),
      );
    }
