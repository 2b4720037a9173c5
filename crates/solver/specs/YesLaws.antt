-- Yes and no have the laws, which are those of truth values.
use Rattle.std.specs.Prelude.{◌<◌, ◌≤◌, Bool, true, false, cond, ◌||◌, ◌≢◌, refl}
use Rattle.std.proofs.Common.{ap, arith}
use Rattle.std.proofs.Math.Bool.{or_assoc, or_comm, or_self, and_assoc, and-true, and-false, and-or_distrib_left, and-or_distrib_right}
use Rattle.solver.specs.Laws.{Laws}
use Rattle.solver.specs.YesKind.{of_bool, yes_kind, yes_height}

-- An or that changes a truth value makes it yes.
raised : (a b : Bool) → (of_bool (a || b) ≢ of_bool a) → cond a 1 0 < cond (a || b) 1 0
raised true b ne = absurd (ne refl)
raised false true ne = omega arith
raised false false ne = absurd (ne refl)

-- Nothing is above yes.
at_most_one : (a : Bool) → cond a 1 0 ≤ 1
at_most_one true = omega arith
at_most_one false = omega arith

-- The laws, with a chain of one step.
pub yes_laws : Laws yes_kind yes_height 1
yes_laws = record {
  join_associative = λ x y z. ap of_bool (or_assoc x.0 y.0 z.0);
  join_commutative = λ x y. ap of_bool (or_comm x.0 y.0);
  join_idempotent = λ x. ap of_bool (or_self x.0);
  bottom_joined = λ x. refl;
  product_associative = λ x y z. ap of_bool (and_assoc x.0 y.0 z.0);
  unit_before = λ x. refl;
  unit_after = λ x. ap of_bool (and-true x.0);
  spreads_right = λ x y z. ap of_bool (and-or_distrib_left x.0 y.0 z.0);
  spreads_left = λ x y z. ap of_bool (and-or_distrib_right x.0 y.0 z.0);
  bottom_before = λ x. refl;
  bottom_after = λ x. ap of_bool (and-false x.0);
  rises = λ x y ne. raised x.0 y.0 ne;
  bounded = λ x. at_most_one x.0;
}
