-- Tables of the right form.
use Rattle.std.specs.Prelude.{ℕ}
use Rattle.frames.specs.Raw.{Raw}
use Rattle.frames.specs.Form.{BadFrame}

-- Every frame is as it should be.
abbrev pub Formed : Raw → Type 0
Formed R = (i : ℕ) → BadFrame R i → ⊥
