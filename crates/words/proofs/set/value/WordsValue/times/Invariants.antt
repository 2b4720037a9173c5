use Rattle.std.proofs.Common.{◌≡◌, ℕ, ◌<◌, ◌≤◌, length, get_or}
use Rattle.words.specs.Rows.{row_product}
use Rattle.words.proofs.set.value.WordsValue.times.Given as goal

abbrev pub invariant-loop-a : goal.invariant-loop-a
invariant-loop-a g l =
    (length l.rows ≡ 21)
    × ((c : ℕ) → c < l.a → 1 ≤ c → get_or l.rows c 0 ≡ row_product (get_or l.self.rows c 0) (get_or l.other.rows c 0) l.empty l.after)
