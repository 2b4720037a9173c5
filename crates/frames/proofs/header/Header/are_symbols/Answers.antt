use Rattle.std.proofs.Common.{refl, rules}
use Rattle.std.proofs.lemmas.List.Recursion.{and_is}
use Rattle.frames.specs.Form.{is_symbol, are_symbols}
use Rattle.frames.proofs.header.Header.are_symbols.Goals as goal

pub returns : goal.returns
returns c = and_is (are_symbols c.args.self) (is_symbol c.args.self) refl (λ _ _. refl) c.args.bytes.now 0 _ (search rules) (search rules)
