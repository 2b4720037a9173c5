-- The grammar and the table that the frames of a file hold.
use Rattle.std.specs.Prelude.{ℕ, zero, suc, ◌+◌, Bool, true, false, cond, ◌&&◌, List, [], ◌∷◌, drop, ◌==◌}
use Rattle.std.proofs.Math.Option.{Option, none, some}
use Rattle.grammar.specs.Grammar.{Rule, Grammar}
use Rattle.grammar.specs.Table.{Table}
use Rattle.frames.specs.declared.header.Section.TheVariants.{Kernel, Words, Successors, Choices}
use Rattle.frames.specs.Raw.{Raw, frame, header_of, left_of, section_of}
use Rattle.items.specs.Entries.{items}
use Rattle.lookahead.specs.Entries.{words_in, Choice, choices_in}

-- Rule r.
abbrev pub rule_in : Raw → ℕ → Rule
rule_in R r = record { left = left_of R r; right = drop 2 (frame R (1 + r)) }

-- So many rules from rule r on.
abbrev pub rules_in : Raw → ℕ → ℕ → List Rule
rules_in R r zero = []
rules_in R r (suc n) = rule_in R r ∷ rules_in R (suc r) n

-- The grammar.
abbrev pub grammar_of : Raw → Grammar
grammar_of R = record { k = (header_of R).k; t = (header_of R).t; n = (header_of R).n; rules = rules_in R 0 (header_of R).p }

-- A successor: the state by a symbol.
pub record Successor : Type 0 where
  pub symbol : ℕ
  pub state : ℕ

-- The successors of entries of two bytes. An odd last byte gives none.
abbrev pub successors_in : List ℕ → List Successor
successors_in [] = []
successors_in (a ∷ []) = []
successors_in (a ∷ b ∷ es) = record { symbol = a; state = b } ∷ successors_in es

-- The successor that pairs of a symbol and a state name for X: the first.
abbrev pub successor_in : ℕ → List ℕ → Option ℕ
successor_in X [] = none
successor_in X (a ∷ []) = none
successor_in X (a ∷ b ∷ es) = cond (a == X) (some b) (successor_in X es)

-- Two words are the same.
abbrev pub same_word : List ℕ → List ℕ → Bool
same_word [] [] = true
same_word [] (b ∷ y) = false
same_word (a ∷ x) [] = false
same_word (a ∷ x) (b ∷ y) = a == b && same_word x y

-- The rule that choices name for a nonterminal and a word: the first.
abbrev pub choice_in : ℕ → List ℕ → List Choice → Option ℕ
choice_in A y [] = none
choice_in A y (c ∷ cs) = cond (c.nonterminal == A && same_word c.word y) (some c.rule) (choice_in A y cs)

-- The table: for each state its kernel, its words, its successors and its choices.
abbrev pub table_of : Raw → Table
table_of R = record {
  size = (header_of R).s;
  kernel = λ q. items (section_of R q Kernel);
  words = λ q. words_in (section_of R q Words);
  next = λ q X. successor_in X (section_of R q Successors);
  choice = λ q A y. choice_in A y (choices_in (section_of R q Choices));
}
