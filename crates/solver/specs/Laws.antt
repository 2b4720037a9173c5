-- The laws of a kind of value that the equations of a grammar can be solved in.
use Rattle.std.specs.Prelude.{◌≡◌, ℕ, ◌<◌, ◌≤◌, ◌≢◌}
use Rattle.grammar.specs.Equations.{Kind}

-- The join is a union: in any order, in any grouping, once as good as twice, and bottom adds nothing. The product joins one part to the
-- next: in any grouping, with the unit as the empty part, spread over unions, and bottom if a part is. Values rise only so often.
pub record Laws {V : Type 0} (o : Kind V) (height : V → ℕ) (chain : ℕ) : Type 0 where
  pub join_associative : (x y z : V) → o.join (o.join x y) z ≡ o.join x (o.join y z)
  pub join_commutative : (x y : V) → o.join x y ≡ o.join y x
  pub join_idempotent : (x : V) → o.join x x ≡ x
  pub bottom_joined : (x : V) → o.join o.bottom x ≡ x
  pub product_associative : (x y z : V) → o.product (o.product x y) z ≡ o.product x (o.product y z)
  pub unit_before : (x : V) → o.product o.unit x ≡ x
  pub unit_after : (x : V) → o.product x o.unit ≡ x
  pub spreads_right : (x y z : V) → o.product x (o.join y z) ≡ o.join (o.product x y) (o.product x z)
  pub spreads_left : (x y z : V) → o.product (o.join x y) z ≡ o.join (o.product x z) (o.product y z)
  pub bottom_before : (x : V) → o.product o.bottom x ≡ o.bottom
  pub bottom_after : (x : V) → o.product x o.bottom ≡ o.bottom
  -- a join that changes a value makes it higher, and no value is higher than the chain is long
  pub rises : (x y : V) → (o.join x y ≢ x) → height x < height (o.join x y)
  pub bounded : (x : V) → height x ≤ chain
