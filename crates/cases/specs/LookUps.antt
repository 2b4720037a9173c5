-- What the accepted table names.
use Rattle.std.specs.Prelude.{◌≡◌, [], ◌∷◌, Some, None}
use Rattle.frames.specs.Raw.{Raw, header_of}
use Rattle.table.specs.Contents.{table_of}
use Rattle.table.specs.States.{answered}
use Rattle.cases.specs.Tables.{accepted, file}
use Rattle.cases.specs.declared.look_ups.LookUps.{LookUps}

-- one token of lookahead, two kinds of tokens, two nonterminals, three rules and five states; behind state 0 by 33 comes state 2, and
-- nothing behind state 1; at state 0, rule 2 is chosen for 33 and the end mark, and none for 32 and 1
abbrev pub look_ups : LookUps
look_ups = record {
  header = record { k = 1; t = 2; n = 2; p = 3; s = 5 };
  successors = Some 2 ∷ None ∷ [];
  choices = Some 2 ∷ None ∷ [];
}

-- what a table file names there
abbrev pub looked_in : Raw → LookUps
looked_in R = record {
  header = header_of R;
  successors = answered ((table_of R).next 0 33) ∷ answered ((table_of R).next 1 33) ∷ [];
  choices = answered ((table_of R).choice 0 33 (31 ∷ [])) ∷ answered ((table_of R).choice 0 32 (1 ∷ [])) ∷ [];
}

-- the accepted table names these
abbrev pub Named : Type 0
Named = looked_in (file accepted) ≡ look_ups
