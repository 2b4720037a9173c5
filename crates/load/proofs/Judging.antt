-- The tests before a load, in their order: each refusal has its reason, and frames that are loaded fit.
use Rattle.std.proofs.Common.{◌≡◌, ℕ, ◌≤◌, Bool, true, false, cond, ◌||◌, ltb, ◌⊎◌, List, length, is_ok, Ok, Err, Result, sym, refl, inl, inr}
use Rattle.std.proofs.lemmas.Bool.{true≢false, or_cases, or_parts, ltb-true, ltb-false}
use Rattle.load.specs.declared.fault.LoadRefusal.{LoadRefusal}
use Rattle.load.specs.declared.fault.LoadRefusal.TheVariants.{TextTooLong, NoRoom}
use Rattle.load.specs.Frames.{Reads}
use Rattle.load.specs.Laws.{Tight, Refuses, too_long, no_frame, no_room}
use Rattle.load.specs.Lines.{frames_in}
use Rattle.load.specs.Loading.{joined, fitting, loaded}
use Rattle.load.specs.Refusals.{refusal_of}
use Rattle.load.proofs.Reading.{reads}

-- the frames of a text that is loaded into a store and starts of these lengths
pub record Admitted (text : List ℕ) (store starts : ℕ) (frames : List (List ℕ)) : Type 0 where
  pub short : length text ≤ 1048576
  pub read : frames_in text ≡ Ok frames
  pub stored : length (joined frames) ≤ store
  pub listed : length frames ≤ starts

abbrev pub Judged : List ℕ → ℕ → ℕ → Result (List (List ℕ)) LoadRefusal → Type 0
Judged text store starts (Ok frames) = Admitted text store starts frames
Judged text store starts (Err e) = Refuses text store starts (refusal_of e)

tight : (frames : List (List ℕ)) (store starts : ℕ) → (ltb store (length (joined frames)) || ltb starts (length frames)) ≡ true → Tight frames store starts
tight frames store starts e = by (or_cases _ _ e)
  where
    by : (ltb store (length (joined frames)) ≡ true) ⊎ (ltb starts (length frames) ≡ true) → Tight frames store starts
    by (inl t) = inl (ltb-true _ _ t)
    by (inr t) = inr (ltb-true _ _ t)

module _ (text : List ℕ) (store starts : ℕ) where
  judged_frames : (short : length text ≤ 1048576) (r : Result (List (List ℕ)) ℕ) → frames_in text ≡ r → Reads text r → Judged text store starts (fitting store starts r)
  judged_frames short (Err n) e broken = no_frame n refl short broken
  judged_frames short (Ok frames) e framed = by (ltb store (length (joined frames)) || ltb starts (length frames)) refl
    where
      by : (t : Bool) → (ltb store (length (joined frames)) || ltb starts (length frames)) ≡ t → Judged text store starts (cond t (Err NoRoom) (Ok frames))
      by true t = no_room frames refl short framed (tight frames store starts t)
      by false t =
          let parts = or_parts _ _ t in
          record { short = short; read = e; stored = ltb-false _ _ parts.0; listed = ltb-false _ _ parts.1 }

  pub judged : Judged text store starts (loaded store starts text)
  judged = by (ltb 1048576 (length text)) refl
    where
      by : (t : Bool) → ltb 1048576 (length text) ≡ t → Judged text store starts (cond t (Err TextTooLong) (fitting store starts (frames_in text)))
      by true t = too_long refl (ltb-true _ _ t)
      by false t = judged_frames (ltb-false _ _ t) (frames_in text) refl (reads text)

  -- the frames of a text that is not refused
  pub record Passed : Type 0 where
    pub frames : List (List ℕ)
    pub is : loaded store starts text ≡ Ok frames
    pub admitted : Admitted text store starts frames

  pub passed : is_ok (loaded store starts text) ≡ true → Passed
  passed ok = by (loaded store starts text) refl ok judged
    where
      by : (r : Result (List (List ℕ)) LoadRefusal) → loaded store starts text ≡ r → is_ok r ≡ true → Judged text store starts r → Passed
      by (Ok frames) e t j = record { frames = frames; is = e; admitted = j }
      by (Err x) e t j = absurd (true≢false (sym t))
