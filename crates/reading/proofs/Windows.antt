-- The window of the code by its symbols.
use Rattle.std.proofs.Common.{◌≡◌, suc, List, [], ◌∷◌, length, refl, ap}
use Rattle.source.specs.declared.token.Entry.{Entry}
use Rattle.source.specs.declared.token.Token.{Token}
use Rattle.reading.specs.Given.{symbols_of}

pub symbols_length : (es : List (Entry Token)) → length (symbols_of es) ≡ length es
symbols_length [] = refl
symbols_length (e ∷ es) = ap suc (symbols_length es)
