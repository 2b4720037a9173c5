use Rattle.std.proofs.Common.{subst}
use Rattle.frames.specs.Raw.{header_of}
use Rattle.table.specs.States.{file, IsState}
use Rattle.table.proofs.Formed.{ranges}
use Rattle.table.proofs.Drafting.{p_is}
use Rattle.table.proofs.Starting.{start_decides, mark_words}
use Rattle.table.proofs.StateSets.{states_decide}
use Rattle.table.proofs.at.At.start_defined.Goals as goal

pub returns : goal.returns
returns g c =
    let a = c.args.self.now in
    let d = a.draft.now in
    start_decides (file d) d.formed (record { places = c.of_pairs.result; words = c.words_of.result }) c.read.result d.header.p (p_is d)
    c.of_pairs.ensures (c.words_of.ensures.stands (header_of (file d)) a.cut_is (ranges (file d) d.formed).t_high (mark_words (header_of (file d))))
    (subst (λ q. IsState (file d) q c.read.result) c.requires c.read.ensures)
    c.eq.result (states_decide (record { places = c.of_pairs.result; words = c.words_of.result }) c.read.result c.eq.result c.eq.ensures)
