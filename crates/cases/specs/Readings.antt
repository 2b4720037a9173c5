-- Readings by the tables of the examples, and what they come to.
use Rattle.std.specs.Prelude.{Bool, ◌&&◌, replicate, ◌≡◌, ℕ, ◌≤◌, List, [], ◌∷◌, length, Some, None, Ok, Option}
use Rattle.std.proofs.Math.Option.{some}
use Rattle.std.specs.List.{find}
use Rattle.std.specs.declared.convert.Infallible.{Infallible}
use Rattle.source.specs.declared.token.Place.TheVariants.{One}
use Rattle.source.specs.Stored.{stored}
use Rattle.grammar.specs.Grammar.{start_symbol}
use Rattle.table.specs.Contents.{grammar_of, table_of, same_word}
use Rattle.table.specs.Rows.{Verdict}
use Rattle.reading.specs.declared.answer.Ending.TheVariants.{Finished}
use Rattle.reading.specs.declared.answer.Ending.TheVariants as ending
use Rattle.reading.specs.declared.answer.ReadRefusal.{ReadRefusal}
use Rattle.reading.specs.declared.answer.ReadRefusal.TheVariants.{Unfit}
use Rattle.reading.specs.declared.answer.Standing.{Standing}
use Rattle.reading.specs.declared.answer.Standing.TheVariants.{Over}
use Rattle.reading.specs.declared.answer.View.{View}
use Rattle.reading.specs.declared.answer.Sheet.{Sheet}
use Rattle.reading.specs.Model.{view_of}
use Rattle.reading.specs.State.{opening}
use Rattle.reading.specs.Run.{Course, Run, at_front}
use Rattle.cases.specs.Tables.{bytes_of, begins, file, accepted, enclosing}
use Rattle.cases.specs.declared.readings.Report.{Report}

-- A reading by the table in some frames, of a stored list of some kinds: the rules announced, how many moves were made and tokens let in, where the
-- reading stands then, and why it was refused, if it was.
pub record Example : Type 0 where
  pub frames : List (List ℕ)
  pub kinds : List ℕ
  pub rules : List ℕ
  pub moves : ℕ
  pub tokens : ℕ
  pub standing : Standing
  pub refusal : Option (ReadRefusal Infallible)

-- What a look at it shows then.
abbrev pub view_in : Example → View
view_in e = record { standing = e.standing; tokens = e.tokens; rules = length e.rules; moves = e.moves }

-- Some course comes to that.
pub record ComesTo (e : Example) (c : Course Infallible) : Type 0 where
  pub rules : c.rules ≡ e.rules
  pub moves : c.moves ≡ e.moves
  pub refusal : c.refusal ≡ e.refusal
  pub view : view_of c.state ≡ view_in e

-- A run of n from the opening, with state q on top.
abbrev pub RunOf : Example → ℕ → ℕ → ℕ → Course Infallible → Type 0
RunOf e q n places c = Run (grammar_of (file e.frames)) (table_of (file e.frames)) n places (opening q) (stored e.kinds) c

-- The table is accepted, and the kinds are not too many for a source. From the opening there is a run of each n from 20 on, on a list that is long
-- enough, and each such run comes to that.
pub record Reads (e : Example) : Type 0 where
  pub accepted : Verdict (file e.frames) (Ok tt)
  pub few : length e.kinds ≤ 60000
  pub top : ℕ
  pub next : (table_of (file e.frames)).next 0 start_symbol ≡ some top
  pub some_run : (n places : ℕ) → 20 ≤ n → n ≤ places → (c : Course Infallible) × RunOf e top n places c
  pub each_run : (n places : ℕ) → 20 ≤ n → n ≤ places → (c : Course Infallible) → RunOf e top n places c → ComesTo e c

-- 2 1 1 is read, and each rule announced.
abbrev pub a_sentence : Example
a_sentence = record {
  frames = accepted;
  kinds = 2 ∷ 1 ∷ 1 ∷ [];
  rules = 0 ∷ 1 ∷ 1 ∷ 2 ∷ [];
  moves = 8;
  tokens = 3;
  standing = Over Finished;
  refusal = None;
}

-- The empty list is refused at its end.
abbrev pub nothing : Example
nothing = record {
  frames = accepted;
  kinds = [];
  rules = [];
  moves = 0;
  tokens = 0;
  standing = Over ending.Unfit;
  refusal = Some (Unfit (One 1));
}

-- 2 2 is refused at place 2, when its first token is taken.
abbrev pub second_unfit : Example
second_unfit = record {
  frames = accepted;
  kinds = 2 ∷ 2 ∷ [];
  rules = 0 ∷ [];
  moves = 2;
  tokens = 1;
  standing = Over ending.Unfit;
  refusal = Some (Unfit (One 2));
}

-- 1 2 is refused at place 2 before the empty rule is announced: only 1 can close what 1 opened, though 2 can follow 33 elsewhere.
abbrev pub closed_wrongly : Example
closed_wrongly = record {
  frames = enclosing;
  kinds = 1 ∷ 2 ∷ [];
  rules = 0 ∷ [];
  moves = 2;
  tokens = 1;
  standing = Over ending.Unfit;
  refusal = Some (Unfit (One 2));
}

abbrev pub readings : List Example
readings = a_sentence ∷ nothing ∷ second_unfit ∷ closed_wrongly ∷ []

-- Memories that hold the frames and the kinds of an example.
abbrev pub holds : Example → List ℕ → List ℕ → List ℕ → Bool
holds e store starts kinds = same_word store (bytes_of e.frames) && (same_word starts (begins 0 e.frames) && same_word kinds e.kinds)

-- The reading whose frames and kinds some memories hold.
abbrev pub reading_of : List ℕ → List ℕ → List ℕ → Option Example
reading_of store starts kinds = find (λ e. holds e store starts kinds) readings

-- What a run of 20 moves on a list of 20 zeros answers and leaves, and what a look shows then.
abbrev pub report_of : Example → Report
report_of e = record {
  ran = record { moves = e.moves; rules = length e.rules; standing = e.standing; refusal = e.refusal };
  list = at_front e.rules (replicate 20 0);
  view = view_in e;
}

-- What the reading of the whole sheet answers, with a list of 20 places.
abbrev pub sheet_of : Example → Sheet Infallible
sheet_of e = record { view = view_in e; refusal = e.refusal }
