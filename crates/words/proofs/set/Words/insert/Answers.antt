use Rattle.std.proofs.Common.{sym, refl, ◌∙◌}
use Rattle.std.proofs.lemmas.List.{length-set}
use Rattle.words.proofs.RowFacts.{insert_fits, insert_is, insert_none, word_added}
use Rattle.words.proofs.set.Words.insert.Goals as goal

pub returns-then-not-fits : goal.returns-then-not-fits
returns-then-not-fits g c =
    let s = c.args.self.now in
    let e = insert_none s c.args.word.first c.args.word.second (sym c.if-not-fits.ensures) in
    record {
      adds = word_added s c.args.word.first c.args.word.second s e;
      writes = e;
    }

pub invariant_of-self : goal.invariant_of-self
invariant_of-self g c =
    let s = c.args.self.now in
    record {
      long = length-set s.rows _ c.with_bit.result ∙ s.long;
      fits = λ a h. rw (c.with_bit.ensures, c.from-first.ensures) (insert_fits s c.args.word.first c.args.word.second (sym c.if-not-fits.ensures) a h);
    }

pub returns : goal.returns
returns g c =
    let s = c.args.self.now in
    let e = insert_is s c.args.word.first c.args.word.second _ (sym c.if-not-fits.ensures) (rw (c.with_bit.ensures, c.from-first.ensures) refl) in
    record {
      adds = word_added s c.args.word.first c.args.word.second _ e;
      writes = e;
    }
