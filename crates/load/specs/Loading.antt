-- What load answers, and what it leaves in the store and the starts.
use Rattle.std.specs.Prelude.{ℕ, ◌+◌, cond, ◌||◌, List, [], ◌∷◌, ◌++◌, length, drop, Ok, Err, Result, nat_lt}
use Rattle.std.specs.List.{concat}
use Rattle.load.specs.Lines.{frames_in}
use Rattle.load.specs.declared.fault.LoadRefusal.{LoadRefusal}
use Rattle.load.specs.declared.fault.LoadRefusal.TheVariants.{TextTooLong, NotAFrame, NoRoom}
use Rattle.load.specs.declared.loading.Loaded.{Loaded}

-- the bytes of all frames, one frame behind the other
abbrev pub joined : List (List ℕ) → List ℕ
joined fs = concat fs

-- where each frame begins, if the first begins at i
abbrev pub starts_from : ℕ → List (List ℕ) → List ℕ
starts_from i [] = []
starts_from i (f ∷ fs) = i ∷ starts_from (i + length f) fs

-- the frames of a text, if they fit a store and starts of these lengths
abbrev pub fitting : ℕ → ℕ → Result (List (List ℕ)) ℕ → Result (List (List ℕ)) LoadRefusal
fitting store starts (Ok fs) = cond (nat_lt store (length (joined fs)) || nat_lt starts (length fs)) (Err NoRoom) (Ok fs)
fitting store starts (Err n) = Err (NotAFrame n)

-- the frames that are loaded, or the refusal
abbrev pub loaded : ℕ → ℕ → List ℕ → Result (List (List ℕ)) LoadRefusal
loaded store starts text = cond (nat_lt 1048576 (length text)) (Err TextTooLong) (fitting store starts (frames_in text))

-- the answer: how many frames were loaded, and how many bytes
abbrev pub numbers : Result (List (List ℕ)) LoadRefusal → Result Loaded LoadRefusal
numbers (Ok fs) = Ok (record { frames = length fs; bytes = length (joined fs) })
numbers (Err e) = Err e

-- ws at the front of a list, and behind them what was there before
abbrev pub over_front : List ℕ → List ℕ → List ℕ
over_front ws xs = ws ++ drop (length ws) xs

-- the store afterwards
abbrev pub store_after : Result (List (List ℕ)) LoadRefusal → List ℕ → List ℕ
store_after (Ok fs) store = over_front (joined fs) store
store_after (Err e) store = store

-- the starts afterwards
abbrev pub starts_after : Result (List (List ℕ)) LoadRefusal → List ℕ → List ℕ
starts_after (Ok fs) starts = over_front (starts_from 0 fs) starts
starts_after (Err e) starts = starts
