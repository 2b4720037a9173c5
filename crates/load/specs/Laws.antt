-- What is promised of load, by the relation between a text and its frames.
use Rattle.std.specs.Prelude.{◌≡◌, ℕ, ◌<◌, ◌≤◌, ◌⊎◌, List, [], ◌++◌, length, take, drop, Ok, Err, Result, slice_index, slice_index_or}
use Rattle.refusal.specs.Refusal.{Refusal}
use Rattle.load.specs.Frames.{Framed, Broken}
use Rattle.load.specs.Loading.{joined}
use Rattle.load.specs.Refusals.{refused, refusal_of}
use Rattle.load.specs.declared.fault.LoadRefusal.{LoadRefusal}
use Rattle.load.specs.declared.loading.Loaded.{Loaded}

-- the frames do not fit a store and starts of these lengths
abbrev pub Tight : List (List ℕ) → ℕ → ℕ → Type 0
Tight frames store starts = (store < length (joined frames)) ⊎ (starts < length frames)

-- why a text is refused for a store and starts of these lengths, the earliest reason first
pub data Refuses (text : List ℕ) (store starts : ℕ) (e : Refusal) : Type 0 where
  too_long : e ≡ refused 1 0 → 1048576 < length text → Refuses text store starts e
  no_frame : (n : ℕ) → e ≡ refused 2 n → length text ≤ 1048576 → Broken text n → Refuses text store starts e
  no_room : (frames : List (List ℕ)) → e ≡ refused 3 0 → length text ≤ 1048576 → Framed text frames → Tight frames store starts → Refuses text store starts e

-- these frames stand in the memory: joined at the front of the store, each where its start says, and the rest is as before
pub record Holds (frames : List (List ℕ)) (store starts store' starts' : List ℕ) : Type 0 where
  pub stored : store' ≡ joined frames ++ drop (length (joined frames)) store
  pub begin : (i : ℕ) → i < length frames → slice_index starts' i ≡ length (joined (take i frames))
  pub found : (i : ℕ) → i < length frames → take (length (slice_index_or frames i [])) (drop (slice_index starts' i) store') ≡ slice_index_or frames i []
  pub behind : drop (length frames) starts' ≡ drop (length frames) starts

-- all frames of the text were loaded, and this many were counted
pub record Takes (text store starts : List ℕ) (found : Loaded) (store' starts' : List ℕ) : Type 0 where
  pub frames : List (List ℕ)
  pub short : length text ≤ 1048576
  pub framed : Framed text frames
  pub store_fits : length (joined frames) ≤ length store
  pub starts_fit : length frames ≤ length starts
  pub counted : found ≡ record { frames = length frames; bytes = length (joined frames) }
  pub holds : Holds frames store starts store' starts'

-- load of a text was called with this store and these starts, answered, and left those: it took the frames, or it refused the text
-- and wrote nothing
abbrev pub Loads : List ℕ → List ℕ → List ℕ → Result Loaded LoadRefusal → List ℕ → List ℕ → Type 0
Loads text store starts (Ok found) store' starts' = Takes text store starts found store' starts'
Loads text store starts (Err e) store' starts' = Refuses text (length store) (length starts) (refusal_of e) × (store' ≡ store) × (starts' ≡ starts)
