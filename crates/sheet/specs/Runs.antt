-- What a run of bytes consists of, where it is not of one class.
use Rattle.std.specs.Prelude.{ℕ, Bool, not, ◌||◌, ◌==◌}

-- a name ends at a quote, and breaks off at a hash or a line end
abbrev pub in_name : ℕ → Bool
in_name b = not (b == 34 || (b == 35 || b == 10))

-- a comment ends at the line end
abbrev pub in_comment : ℕ → Bool
in_comment b = not (b == 10)
