use Rattle.std.proofs.Common.{rules, ℕ, not, eqb}
use lib.Bits.{bit_and}
use Rattle.std.proofs.lemmas.Iterator.{YieldsList-from_zip, YieldsList-from_slice}
use Rattle.std.proofs.lemmas.Iterator.Search.{any_from_yields_List}
use Rattle.words.proofs.Meetings.{meets_decides}
use Rattle.words.proofs.set.Words.meets.Goals as goal

pub returns : goal.returns
returns g c =
    let is = any_from_yields_List {B = ℕ × ℕ} (λ p. not (eqb (bit_and p.0 p.1) 0)) c.any.new.self _ c.any.result c.any.ensures.ran
    (YieldsList-from_zip (YieldsList-from_slice c.args.self.rows (search rules)) (YieldsList-from_slice c.args.other.rows (search rules))) (λ x b q k. search rules) in
    rw is (meets_decides c.args.self c.args.other)
