-- What was loaded, in the words of the law: each frame stands in the store where its start says, since the frames before it are as
-- long as its start is far.
use Rattle.std.proofs.Common.{◌≡◌, ℕ, zero, suc, ◌+◌, ◌<◌, List, [], ◌∷◌, ◌++◌, length, get_or, take, drop, Ok, Err, Result, sym, refl, ap, ◌∙◌, subst, append_assoc, add-zero, arith, length-append}
use Rattle.std.proofs.lemmas.List.{drop-drop, take_at, drop_at, get_or_append_left}
use Rattle.load.specs.declared.fault.LoadRefusal.{LoadRefusal}
use Rattle.load.specs.declared.loading.Loaded.{Loaded}
use Rattle.load.specs.Frames.{Reads}
use Rattle.load.specs.Laws.{Holds, Takes, Loads}
use Rattle.load.specs.Loading.{joined, starts_from, over_front, loaded, numbers, store_after, starts_after}
use Rattle.load.proofs.Filling.{starts_length}
use Rattle.load.proofs.Judging.{Judged, judged}
use Rattle.load.proofs.Reading.{reads}

start_at : (i : ℕ) (fs : List (List ℕ)) (k : ℕ) → k < length fs → get_or (starts_from i fs) k 0 ≡ i + length (joined (take k fs))
start_at i [] k h = absurd (omega arith)
start_at i (f ∷ fs) zero h = sym (add-zero i)
start_at i (f ∷ fs) (suc k) h =
    let e : i + length f + length (joined (take k fs)) ≡ i + length (f ++ joined (take k fs)) = simp length-append (omega arith) in
    start_at (i + length f) fs k (omega arith) ∙ e

frame_at : (fs : List (List ℕ)) (k : ℕ) (rest : List ℕ) → k < length fs → take (length (get_or fs k [])) (drop (length (joined (take k fs))) (joined fs ++ rest)) ≡ get_or fs k []
frame_at [] k rest h = absurd (omega arith)
frame_at (f ∷ fs) zero rest h = ap (take (length f)) (append_assoc f (joined fs) rest) ∙ take_at f (joined fs ++ rest) (length f) refl
frame_at (f ∷ fs) (suc k) rest h =
    let past : drop (length (f ++ joined (take k fs))) ((f ++ joined fs) ++ rest) ≡ drop (length (joined (take k fs))) (joined fs ++ rest) =
    ap (λ n. drop n ((f ++ joined fs) ++ rest)) (length-append f (joined (take k fs)))
    ∙ sym (drop-drop (length (joined (take k fs))) (length f) ((f ++ joined fs) ++ rest))
    ∙ ap (λ l. drop (length (joined (take k fs))) (drop (length f) l)) (append_assoc f (joined fs) rest)
    ∙ ap (drop (length (joined (take k fs)))) (drop_at f (joined fs ++ rest) (length f) refl) in
    ap (take (length (get_or fs k []))) past ∙ frame_at fs k rest (omega arith)

holds : (fs : List (List ℕ)) (store starts : List ℕ) → Holds fs store starts (over_front (joined fs) store) (over_front (starts_from 0 fs) starts)
holds fs store starts = record {
  stored = refl;
  begin = begin;
  found = λ i h. ap (λ n. take (length (get_or fs i [])) (drop n (over_front (joined fs) store))) (begin i h) ∙ frame_at fs i (drop (length (joined fs)) store) h;
  behind = drop_at (starts_from 0 fs) _ (length fs) (starts_length 0 fs) ∙ ap (λ n. drop n starts) (starts_length 0 fs);
}
  where
    begin : (i : ℕ) → i < length fs → get_or (over_front (starts_from 0 fs) starts) i 0 ≡ length (joined (take i fs))
    begin i h =
        let zero_more : 0 + length (joined (take i fs)) ≡ length (joined (take i fs)) = omega arith in
        get_or_append_left (starts_from 0 fs) _ 0 i (omega (arith, starts_length 0 fs)) ∙ start_at 0 fs i h ∙ zero_more

module _ (text store starts : List ℕ) where
  abbrev answer : Result (List (List ℕ)) LoadRefusal
  answer = loaded (length store) (length starts) text

  loads : (r : Result (List (List ℕ)) LoadRefusal) → Judged text (length store) (length starts) r → Loads text store starts (numbers r) (store_after r store) (starts_after r starts)
  loads (Ok fs) a = record {
    frames = fs;
    short = a.short;
    framed = subst (Reads text) a.read (reads text);
    store_fits = a.stored;
    starts_fit = a.listed;
    counted = refl;
    holds = holds fs store starts;
  }
  loads (Err e) why = (why, refl, refl)

  pub load_law : (r : Result Loaded LoadRefusal) (store' starts' : List ℕ) → r ≡ numbers answer → store' ≡ store_after answer store → starts' ≡ starts_after answer starts → Loads text store starts r store' starts'
  load_law r store' starts' x y z =
      subst (λ r. Loads text store starts r store' starts') (sym x)
      (subst (λ s. Loads text store starts (numbers answer) s starts') (sym y)
      (subst (Loads text store starts (numbers answer) (store_after answer store)) (sym z) (loads answer (judged text (length store) (length starts)))))

  pub load_takes : (found : Loaded) (store' starts' : List ℕ) → Ok found ≡ numbers answer → store' ≡ store_after answer store → starts' ≡ starts_after answer starts → Takes text store starts found store' starts'
  load_takes found store' starts' x y z = load_law (Ok found) store' starts' x y z
