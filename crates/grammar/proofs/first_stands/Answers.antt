use Rattle.std.proofs.Common.{ℕ, List}
use mathlib.Core.List.{Memᴰ}
use Rattle.grammar.proofs.First.{first_of_products, first_in_turn, first_with}
use Rattle.grammar.proofs.first_stands.Goals as goal

pub returns : goal.returns
returns c = (first_of_products, first_in_turn, λ g α W y. first_with g (λ (w : List ℕ). Memᴰ w W) α y)
