-- A step in the making, for the contracts of its parts.
use Rattle.std.specs.Prelude.{◌≡◌, ℕ, List, ◌∷◌}
use Rattle.source.specs.declared.token.Entry.{Entry}
use Rattle.source.specs.declared.token.Token.{Token}
use Rattle.source.specs.Meaning.{Meaning}
use Rattle.table.specs.Checked.{contents}
use Rattle.table.specs.LookUps.{AfterDots}
use Rattle.reading.specs.declared.reading.Reading.{Reading}
use Rattle.reading.specs.Given.{symbols_of}
use Rattle.reading.specs.Window.{Full, CanEnter}
use Rattle.reading.specs.State.{filled}
use Rattle.reading.specs.Step.{Asks}
use Rattle.reading.specs.Model.{model, grammar_in, table_in}
use Rattle.reading.specs.Parts.{states, entries}

-- A step of r with a source that meant m, and q on top, has let in some entries so far, and the reading is r' and the source means m' now.
pub record Filling {F : Type 0} (r : Reading F) (m : Meaning F) (q : ℕ) (r' : Reading F) (m' : Meaning F) : Type 0 where
  pub table : contents r'.table ≡ contents r.table
  pub below : List ℕ
  pub let_in : List (Entry Token)
  pub asks : Asks (grammar_in r) (table_in r) (model r) m q below let_in m'
  pub state : model r' ≡ filled (model r) let_in

-- With the top of the stack an entry can be let in.
pub record Enters {F : Type 0} (r : Reading F) (e : Entry Token) : Type 0 where
  pub top : ℕ
  pub below : List ℕ
  pub stack_is : states r.stack ≡ top ∷ below
  pub can_enter : CanEnter (grammar_in r) (table_in r) top (symbols_of (entries r.window)) e

-- The window is full, and A stands after the dots of q, the top, with p below it.
pub record Faces {F : Type 0} (r : Reading F) (q p A : ℕ) : Type 0 where
  pub below : List ℕ
  pub stack_is : states r.stack ≡ q ∷ p ∷ below
  pub dots : AfterDots (grammar_in r) (table_in r) q A
  pub full : Full (grammar_in r) (symbols_of (entries r.window))
