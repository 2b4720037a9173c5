use Rattle.grammar.proofs.Canonical.{collections_are_canonical, accepted_are_canonical}
use Rattle.grammar.proofs.tables_stand.Goals as goal

pub returns : goal.returns
returns c = (λ g T s. collections_are_canonical g s T, λ g T s. accepted_are_canonical g s T)
