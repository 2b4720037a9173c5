use Rattle.std.proofs.Common.{ℕ, List, sym, subst}
use Rattle.frames.specs.Raw.{header_of}
use Rattle.lookahead.specs.Entries.{AllWords}
use Rattle.lookahead.specs.Stored.{StandsFor}
use Rattle.table.specs.States.{file}
use Rattle.table.proofs.Formed.{ranges}
use Rattle.table.proofs.Sections.{state_words}
use Rattle.table.proofs.StateSets.{kernel_set}
use Rattle.table.proofs.at.At.read.Goals as goal

pub returns : goal.returns
returns g c =
    let a = c.args.self.now in
    let R = file a.draft.now in
    let formed = a.draft.now.formed in
    let words = state_words R formed a.q a.within in
    record {
      places = kernel_set R formed a.q a.within c.of_pairs.result c.section.result.now c.section.ensures c.of_pairs.ensures;
      words = subst (λ (es : List ℕ). StandsFor (header_of R) c.words_of.result es) c.section-2.ensures
          (c.words_of.ensures.stands (header_of R) a.cut_is (ranges R formed).t_high (subst (AllWords (header_of R)) (sym c.section-2.ensures) words));
    }
