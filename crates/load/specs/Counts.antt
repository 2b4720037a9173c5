-- What the pass that counts frames has counted, and what it answers.
use Rattle.std.specs.Prelude.{ℕ, ◌+◌, ◌/◌, cond, List, length, Ok, Err, Result, ◌==◌}
use Rattle.load.specs.Loading.{joined}
use Rattle.load.specs.declared.fault.LoadRefusal.{LoadRefusal}
use Rattle.load.specs.declared.fault.LoadRefusal.TheVariants.{NotAFrame}
use Rattle.load.specs.declared.loading.Loaded.{Loaded}

-- nothing is counted yet
abbrev pub none : Loaded
none = record { frames = 0; bytes = 0 }

-- one frame more is counted
abbrev pub and_frame : Loaded → List ℕ → Loaded
and_frame n digits = record { frames = n.frames + 1; bytes = n.bytes + length digits / 2 }

-- these frames more are counted, or the refusal of a line
abbrev pub counted : Loaded → Result (List (List ℕ)) ℕ → Result Loaded LoadRefusal
counted n (Ok fs) = Ok (record { frames = n.frames + length fs; bytes = n.bytes + length (joined fs) })
counted n (Err line) = Err (NotAFrame line)

-- where so many bytes are left and do not begin with a frame, the line behind the last frame is none, if it is there
abbrev pub concluded : Loaded → ℕ → Result Loaded LoadRefusal
concluded n left = cond (left == 0) (Ok n) (Err (NotAFrame (n.frames + 1)))
