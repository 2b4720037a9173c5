use Rattle.grammar.proofs.LL.{ll_is_deterministic, ll_without_conflict, conflicts_decide, accepted_are_ll}
use Rattle.grammar.proofs.conflicts_stand.Goals as goal

pub returns : goal.returns
returns c = (ll_is_deterministic, λ g T s. ll_without_conflict g s T, λ g T s. conflicts_decide g s T, λ g T s. accepted_are_ll g s T)
