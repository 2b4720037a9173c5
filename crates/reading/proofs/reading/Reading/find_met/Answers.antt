use Rattle.std.proofs.Common.{List, sym, ◌∙◌, subst}
use Rattle.std.proofs.lemmas.Bool.{true≢false}
use Rattle.table.specs.Checked.{contents}
use Rattle.table.specs.Contents.{table_of}
use Rattle.table.specs.LookUps.{BeginsWord}
use Rattle.reading.specs.Filling.{Faces}
use Rattle.reading.specs.Given.{symbols_of}
use Rattle.reading.specs.Parts.{entries}
use Rattle.reading.specs.Remembered.{HasChoice}
use Rattle.reading.proofs.Announcing.{has_choice}
use Rattle.reading.proofs.Held.{Held, dots_there, held_word}
use Rattle.reading.proofs.reading.Reading.find_met.Goals as goal

pub unreachable-requires : goal.unreachable-requires
unreachable-requires g c =
    let r = c.args.self.now in
    let R = contents r.table in
    let (s, stack) = c.requires.stack in
    dots_there R r.table.good (subst (λ (s : List _). Held R s (symbols_of (entries r.window))) stack r.placed) c.in_default.ensures.none

pub find-requires : goal.find-requires
find-requires g c =
    let r = c.args.self.now in
    let (s, stack) = c.requires.stack in
    let faces : Faces r c.args.top c.args.below c.in-Some.symbol =
    record { below = s; stack_is = stack; dots = c.in-Some.ensures.some; full = c.requires.full } in
    subst (λ (y : List _). ∥ HasChoice (contents r.table) c.args.below c.in-Some.symbol y ∥₁) (sym c.requires.word)
    (has_choice r faces (λ t. true≢false (sym (c.is_token.ensures.1 t) ∙ c.if-is_token.false)))

pub returns-then-is_token : goal.returns-then-is_token
returns-then-is_token g c =
    let r = c.args.self.now in
    let R = contents r.table in
    let (s, stack) = c.requires.stack in
    let held = subst (λ (s : List _). Held R s (symbols_of (entries r.window))) stack r.placed in
    record {
      begins = subst (BeginsWord (table_of R) c.args.top) (sym c.requires.word) (held_word R r.table.good held);
      dots = c.in-Some.ensures.some;
      goes_on = c.is_token.ensures.0 c.if-is_token.true;
    }

pub returns-else-is_token : goal.returns-else-is_token
returns-else-is_token g c =
    let r = c.args.self.now in
    let R = contents r.table in
    let (s, stack) = c.requires.stack in
    let held = subst (λ (s : List _). Held R s (symbols_of (entries r.window))) stack r.placed in
    record {
      begins = subst (BeginsWord (table_of R) c.args.top) (sym c.requires.word) (held_word R r.table.good held);
      dots = c.in-Some.ensures.some;
      goes_on = (λ t. true≢false (sym (c.is_token.ensures.1 t) ∙ c.if-is_token.false), c.find.ensures);
    }
