use Rattle.std.proofs.Common.{ℕ, refl, sym, ◌∙◌, subst}
use mathlib.Core.Logic.{∥∥₁_map}
use Rattle.frames.specs.Form.{word_of}
use Rattle.table.specs.Checked.{contents}
use Rattle.table.specs.LookUps.{BeginsWord}
use Rattle.reading.specs.Model.{table_in}
use Rattle.reading.proofs.Deciding.{had, dec_word}
use Rattle.reading.proofs.Remembering.{is_there}
use Rattle.reading.proofs.reading.Reading.begins_word.Goals as goal

pub returns-then-is_some : goal.returns-then-is_some
returns-then-is_some g c =
    let r = c.args.self.now in
    let w = c.args.word in
    let (met, meets) = is_there c.met.result _ (sym c.is_some.ensures ∙ c.if-is_some.true) c.met.ensures in
    let begins = had (dec_word (table_in r) c.args.state (word_of w.first w.second))
    (∥∥₁_map r.remembers (λ m. let known = meets (contents r.table) m in known.begins)) in
    (λ e. begins, λ b. refl)

pub returns-then-knows : goal.returns-then-knows
returns-then-knows g c =
    let r = c.args.self.now in
    let w = c.args.word in
    let begins = had (dec_word (table_in r) c.args.state (word_of w.first w.second)) (∥∥₁_map r.remembers (λ m.
    subst (λ (s : ℕ). BeginsWord (table_in r) c.args.state (word_of w.first s)) (sym c.if-word-eq0.true)
    (c.knows.ensures (contents r.table) m c.if-knows.true))) in
    (λ e. begins, λ b. refl)
