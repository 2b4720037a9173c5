use Rattle.std.proofs.Common.{rules, ◌≡◌, get_or, sym, ap, ◌∙◌, arith}
use Rattle.std.proofs.lemmas.Bool.{le-ltb}
use Rattle.words.specs.Codes.{bit}
use Rattle.words.specs.Bits.{width_most}
use Rattle.words.specs.Members.{member_word_of, has_out}
use Rattle.words.proofs.set.Words.contains.Goals as goal

pub returns-then-word-lt-WIDTH : goal.returns-then-word-lt-WIDTH
returns-then-word-lt-WIDTH g c =
    let row : c.unwrap_or-row.result ≡ get_or c.args.self.now.rows c.args.word.first 0 = search rules in
    c.has_bit.ensures ∙ ap (λ x. bit x c.args.word.second) row ∙ sym (member_word_of c.args.self.now c.args.word.first c.args.word.second)

pub returns-else-word-lt-WIDTH : goal.returns-else-word-lt-WIDTH
returns-else-word-lt-WIDTH g c =
    let s = c.args.self.now in
    let a = c.args.word.first in
    let b = c.args.word.second in
    let none = has_out s a b (λ p q. omega (arith, q, width_most g.row.K a, c.if-word-lt-WIDTH.false)) in
    le-ltb b 21 c.if-word-lt-WIDTH.false ∙ sym (member_word_of s a b ∙ none)
