-- A reading of the code in terms of the definitions.
use Rattle.grammar.specs.Grammar.{Grammar}
use Rattle.grammar.specs.Table.{Table}
use Rattle.table.specs.Checked.{contents}
use Rattle.table.specs.Contents.{grammar_of, table_of}
use Rattle.reading.specs.declared.answer.View.{View}
use Rattle.reading.specs.declared.reading.Reading.{Reading}
use Rattle.reading.specs.Parts.{states, entries}
use Rattle.reading.specs.State.{State}

-- What it holds.
abbrev pub model : {F : Type 0} → Reading F → State
model r = record {
  stack = states r.stack;
  window = entries r.window;
  tokens = r.tokens;
  rules = r.rules;
  moves = r.moves;
  standing = r.standing;
}

-- The grammar that it reads by.
abbrev pub grammar_in : {F : Type 0} → Reading F → Grammar
grammar_in r = grammar_of (contents r.table)

-- The table that it reads by.
abbrev pub table_in : {F : Type 0} → Reading F → Table
table_in r = table_of (contents r.table)

-- What a look shows of a state.
abbrev pub view_of : State → View
view_of s = record { standing = s.standing; tokens = s.tokens; rules = s.rules; moves = s.moves }
