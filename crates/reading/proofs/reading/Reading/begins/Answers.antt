use Rattle.std.proofs.Common.{◌≤◌, [], ◌∷◌, sym, subst, arith}
use Rattle.grammar.specs.Grammar.{Every}
use Rattle.grammar.proofs.Lists.{every_append}
use Rattle.table.specs.Checked.{contents}
use Rattle.reading.specs.Given.{symbol_of, symbols_of}
use Rattle.reading.specs.Parts.{entries}
use Rattle.reading.proofs.Held.{few_symbols, held_symbols}
use Rattle.reading.proofs.Windows.{symbols_length}
use Rattle.reading.proofs.Remembering.{first_some, one_symbol}
use Rattle.reading.proofs.reading.Reading.begins.Goals as goal

pub word_with-word-requires-clause-room : goal.word_with-word-requires-clause-room
word_with-word-requires-clause-room g c =
    let r = c.args.self.now in
    omega (arith, c.requires.wants.0, few_symbols (contents r.table) r.table.good, symbols_length (entries r.window))

pub begins_word-requires-clause-some : goal.begins_word-requires-clause-some
begins_word-requires-clause-some g c =
    let r = c.args.self.now in
    let w = c.word_with-word.result in
    first_some w.first w.second
    (subst (Every (λ a. 1 ≤ a)) (sym c.word_with-word.ensures)
    (every_append (λ a. 1 ≤ a) (symbols_of (entries r.window)) (symbol_of c.args.entry ∷ [])
    (held_symbols (contents r.table) r.placed) (c.requires.some, tt)))

pub begins_word-requires-clause-symbol : goal.begins_word-requires-clause-symbol
begins_word-requires-clause-symbol g c =
    let w = c.word_with-word.result in
    λ none. omega (arith, one_symbol (symbols_of (entries c.args.self.now.window)) (symbol_of c.args.entry) w.first c.word_with-word.ensures none, c.requires.symbol)
