-- The pass that writes, turn by turn: the frames that were cut off stand in the store and the starts, and the frames to come are
-- those of the rest.
use Rattle.std.proofs.Common.{◌≡◌, ℕ, suc, ◌+◌, ◌/◌, ◌<◌, ◌≤◌, true, List, [], ◌∷◌, ◌++◌, length, get_or, take, drop, set, Ok, Err, Result, sym, refl, ap, ◌∙◌, append_assoc, append-nil, add-zero, zero-add, arith, length-append}
use Rattle.std.proofs.lemmas.List.{drop_more, drop-drop, take_at, drop_at, set_at}
use Rattle.std.proofs.lemmas.List.Folds.{concat-append}
use Rattle.std.proofs.lemmas.Bool.{and_parts}
use Rattle.load.specs.declared.loading.Loaded.{Loaded}
use Rattle.load.specs.Counts.{none, and_frame}
use Rattle.load.specs.Digits.{all_digits, bytes_of, decoded}
use Rattle.load.specs.Fronts.{Unframed}
use Rattle.load.specs.Lines.{lines, is_frame, before, frames_of, frames_in}
use Rattle.load.specs.Loading.{joined, starts_from, over_front, loaded, store_after, starts_after}
use Rattle.load.proofs.Judging.{Passed}
use Rattle.load.proofs.Turns.{turn, stop}
use Rattle.load.proofs.Values.{bytes_length}

joined_push : (fs : List (List ℕ)) (f : List ℕ) → joined (fs ++ f ∷ []) ≡ joined fs ++ f
joined_push fs f = concat-append fs (f ∷ []) ∙ ap (λ l. joined fs ++ l) (append-nil f)

starts_push : (i : ℕ) (fs : List (List ℕ)) (f : List ℕ) → starts_from i (fs ++ f ∷ []) ≡ starts_from i fs ++ (i + length (joined fs)) ∷ []
starts_push i [] f = ap (λ k. k ∷ []) (sym (add-zero i))
starts_push i (g ∷ fs) f =
    let e : i + length g + length (joined fs) ≡ i + length (g ++ joined fs) = simp length-append (omega arith) in
    ap (λ l. i ∷ l) (starts_push (i + length g) fs f ∙ ap (λ k. starts_from (i + length g) fs ++ k ∷ []) e)

pub starts_length : (i : ℕ) (fs : List (List ℕ)) → length (starts_from i fs) ≡ length fs
starts_length i [] = refl
starts_length i (f ∷ fs) = ap suc (starts_length (i + length f) fs)

-- more written behind what stands at the front
over_more : (ws vs xs : List ℕ) (b n : ℕ) → b ≡ length ws → n ≡ length vs → take b (over_front ws xs) ++ (vs ++ drop (b + n) (over_front ws xs)) ≡ over_front (ws ++ vs) xs
over_more ws vs xs b n is long =
    let behind : drop (b + n) (over_front ws xs) ≡ drop (length ws + length vs) xs =
    sym (drop-drop n b (over_front ws xs))
    ∙ ap (drop n) (drop_at ws (drop (length ws) xs) b (sym is))
    ∙ drop-drop n (length ws) xs
    ∙ ap (λ k. drop (length ws + k) xs) long in
    ap (λ l. l ++ (vs ++ drop (b + n) (over_front ws xs))) (take_at ws (drop (length ws) xs) b (sym is))
    ∙ ap (λ l. ws ++ (vs ++ l)) behind
    ∙ sym (append_assoc ws vs _)
    ∙ ap (λ k. (ws ++ vs) ++ drop k xs) (sym (length-append ws vs))

over_one : (ws xs : List ℕ) (f v : ℕ) → f ≡ length ws → f < length xs → set (over_front ws xs) f v ≡ over_front (ws ++ v ∷ []) xs
over_one ws xs f v is lt =
    let at : drop (length ws) xs ≡ get_or xs f 0 ∷ drop (f + 1) xs = ap (λ k. drop k xs) (sym is) ∙ drop_more xs f 0 lt in
    let long : f + 1 ≡ length (ws ++ v ∷ []) = simp length-append (omega arith) in
    ap (λ l. set (ws ++ l) f v) at
    ∙ set_at ws _ _ v f (sym is)
    ∙ sym (append_assoc ws (v ∷ []) (drop (f + 1) xs))
    ∙ ap (λ k. (ws ++ v ∷ []) ++ drop k xs) long

-- frames that begin with a frame
record First (v : List ℕ) (r : Result (List (List ℕ)) ℕ) (frames : List (List ℕ)) : Type 0 where
  more : List (List ℕ)
  left : r ≡ Ok more
  is : frames ≡ v ∷ more

first : (v : List ℕ) (r : Result (List (List ℕ)) ℕ) (frames : List (List ℕ)) → before v r ≡ Ok frames → First v r frames
first v (Ok fs) frames e = record { more = fs; left = refl; is = cc }
first v (Err n) frames e = cc

-- how far the pass has come: so many frames are written, and those of the rest are to come
pub record Filling (text store0 starts0 rest : List ℕ) (n : Loaded) (store starts : List ℕ) : Type 0 where
  pub done : List (List ℕ)
  pub more : List (List ℕ)
  pub whole : frames_in text ≡ Ok (done ++ more)
  pub left : frames_of (n.frames + 1) (lines rest) ≡ Ok more
  pub count : n.frames ≡ length done
  pub size : n.bytes ≡ length (joined done)
  pub stored : store ≡ over_front (joined done) store0
  pub listed : starts ≡ over_front (starts_from 0 done) starts0

-- the next frame: there is room for it, and written it is done
pub record Turn (text store0 starts0 : List ℕ) (n : Loaded) (store starts ws behind : List ℕ) : Type 0 where
  pub digits : all_digits ws ≡ true
  pub listed : n.frames < length starts0
  pub stored : n.bytes + length ws / 2 ≤ length store0
  pub more : Filling text store0 starts0 behind (and_frame n ws) (decoded ws n.bytes store) (set starts n.frames n.bytes)

pub fill_none : (text store starts : List ℕ) → Passed text (length store) (length starts) → Filling text store starts text none store starts
fill_none text store starts p = record {
  done = [];
  more = p.frames;
  whole = p.admitted.read;
  left = p.admitted.read;
  count = refl;
  size = refl;
  stored = refl;
  listed = refl;
}

module _ (text store0 starts0 rest : List ℕ) (n : Loaded) (store starts : List ℕ) (h : Filling text store0 starts0 rest n store starts) (p : Passed text (length store0) (length starts0)) where
  all : p.frames ≡ h.done ++ h.more
  all = let x = p.admitted.read in let y = h.whole in cc

  module _ (ws behind : List ℕ) (frame : is_frame ws ≡ true) (cut : rest ≡ ws ++ 10 ∷ behind) where
    abbrev v : List ℕ
    v = bytes_of ws

    next : First v (frames_of (n.frames + 1 + 1) (lines behind)) h.more
    next = first v _ h.more (sym (ap (λ s. frames_of (n.frames + 1) (lines s)) cut ∙ turn (n.frames + 1) ws behind frame) ∙ h.left)

    split : p.frames ≡ (h.done ++ v ∷ []) ++ next.more
    split = all ∙ ap (λ l. h.done ++ l) next.is ∙ sym (append_assoc h.done (v ∷ []) next.more)

    fill_listed : n.frames < length starts0
    fill_listed =
        omega (arith, p.admitted.listed, h.count, ap length split, length-append (h.done ++ v ∷ []) next.more, length-append h.done (v ∷ []))

    fill_stored : n.bytes + length ws / 2 ≤ length store0
    fill_stored =
        let x = ap (λ fs. length (joined fs)) split ∙ ap length (concat-append (h.done ++ v ∷ []) next.more) ∙ length-append (joined (h.done ++ v ∷ [])) (joined next.more) in
        let y = ap length (joined_push h.done v) ∙ length-append (joined h.done) v in
        omega (arith, p.admitted.stored, x, y, bytes_length ws, h.size)

    fill_more : Filling text store0 starts0 behind (and_frame n ws) (decoded ws n.bytes store) (set starts n.frames n.bytes)
    fill_more = record {
      done = h.done ++ v ∷ [];
      more = next.more;
      whole = p.admitted.read ∙ ap (λ fs. Ok fs) split;
      left = next.left;
      count = simp length-append (omega (arith, h.count));
      size =
          sym (ap length (joined_push h.done v) ∙ length-append (joined h.done) v ∙ ap (λ k. k + length v) (sym h.size) ∙ ap (λ k. n.bytes + k) (bytes_length ws));
      stored =
          ap (λ l. take n.bytes l ++ (v ++ drop (n.bytes + length ws / 2) l)) h.stored
          ∙ over_more (joined h.done) v store0 n.bytes (length ws / 2) h.size (sym (bytes_length ws))
          ∙ ap (λ l. over_front l store0) (sym (joined_push h.done v));
      listed =
          ap (λ l. set l n.frames n.bytes) h.listed
          ∙ over_one (starts_from 0 h.done) starts0 n.frames n.bytes (h.count ∙ sym (starts_length 0 h.done)) fill_listed
          ∙ ap (λ l. over_front l starts0) (ap (λ k. starts_from 0 h.done ++ k ∷ []) (h.size ∙ sym (zero-add _)) ∙ sym (starts_push 0 h.done v));
    }

    pub fill_turn : Turn text store0 starts0 n store starts ws behind
    fill_turn = record { digits = (and_parts _ _ frame).1; listed = fill_listed; stored = fill_stored; more = fill_more }

  -- no frame is left, so none is to come
  none_left : (s : List ℕ) (fs : List (List ℕ)) → Unframed s → frames_of (n.frames + 1) (lines s) ≡ Ok fs → fs ≡ []
  none_left [] fs unframed e = cc
  none_left (x ∷ s) fs unframed e =
      let broken = stop (n.frames + 1) (x ∷ s) (omega arith) unframed in
      cc

  pub fill_all : Unframed rest → (store ≡ store_after (loaded (length store0) (length starts0) text) store0) × (starts ≡ starts_after (loaded (length store0) (length starts0) text) starts0)
  fill_all unframed =
      let done : h.done ≡ p.frames = sym (all ∙ ap (λ l. h.done ++ l) (none_left rest h.more unframed h.left) ∙ append-nil h.done) in
      let is : Ok h.done ≡ loaded (length store0) (length starts0) text = ap (λ fs. Ok fs) done ∙ sym p.is in
      (h.stored ∙ ap (λ r. store_after r store0) is, h.listed ∙ ap (λ r. starts_after r starts0) is)
