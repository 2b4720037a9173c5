-- A block of eight states among the cells of a stack, whose states are those from the top on.
use Rattle.std.proofs.Common.{◌≡◌, ℕ, ◌+◌, ◌-◌, ◌<◌, ◌≤◌, List, [], ◌∷◌, ◌++◌, length, drop, take, sym, ap, ap₂, ◌∙◌, append_assoc, arith, length-append, length-drop}
use Rattle.std.proofs.lemmas.List.{drop-drop, drop_at, drop-append-le, take_at, take-append-drop, length-take-le}
use borrow.Rule.Slice.PartMut.{put_mid}

-- written so that it ends at the top, its last states stand over what was below the top
pub replaced : (cells written unused upper : List ℕ) (top count start k : ℕ) → top < length cells → written ≡ unused ++ upper → length written ≡ 8
    → length upper ≡ count → 8 ≤ top → start ≡ top + 1 - 8 → k ≡ 8
    → drop (top - count + 1) (put_mid start k cells written) ≡ upper ++ drop 1 (drop top cells)
replaced cells written unused upper top count start k there cut eight many far at width =
    let front = take start cells in
    let under = drop 1 (drop top cells) in
    let behind : drop k (drop start cells) ≡ under =
    drop-drop k start cells ∙ ap (λ (n : ℕ). drop n cells) (omega (arith, far, at, width)) ∙ sym (drop-drop 1 top cells) in
    let parts : put_mid start k cells written ≡ (front ++ unused) ++ (upper ++ under) =
    ap₂ (λ (w l : List ℕ). front ++ (w ++ l)) cut behind ∙ simp append_assoc in
    let length_front : length front ≡ start = length-take-le start cells (omega (arith, there, far, at)) in
    let length_unused : length unused + count ≡ 8 = omega (arith, ap length cut, length-append unused upper, eight, many) in
    ap (drop (top - count + 1)) parts
    ∙ drop_at (front ++ unused) _ _ (omega (arith, length-append front unused, length_front, length_unused, far, at))

-- the eight above the lowest
pub above : (cells upper : List ℕ) (top lowest : ℕ) → length cells ≡ 264 → length upper ≤ 8 → drop top cells ≡ upper ++ lowest ∷ []
    → (unused : List ℕ) × (take 8 (drop 255 cells) ≡ unused ++ upper)
above cells upper top lowest all few is =
    let front = take top cells in
    let many : length upper + 1 ≡ 264 - top = omega (arith, length-append upper (lowest ∷ []), ap length is, length-drop top cells, all) in
    let length_front : length front ≡ top = length-take-le top cells (omega (arith, all, many)) in
    let whole : cells ≡ front ++ (upper ++ lowest ∷ []) = sym (take-append-drop top cells) ∙ ap (λ (l : List ℕ). front ++ l) is in
    let high = drop-append-le 255 front (upper ++ lowest ∷ []) (omega (arith, many, length_front, few)) in
    let eight : length (drop 255 front ++ upper) ≡ 8 =
    omega (arith, length-append (drop 255 front) upper, length-drop 255 front, length_front, many, few) in (
      drop 255 front,
      ap (λ (l : List ℕ). take 8 (drop 255 l)) whole ∙ ap (take 8) (high ∙ sym (append_assoc (drop 255 front) upper (lowest ∷ [])))
          ∙ take_at (drop 255 front ++ upper) (lowest ∷ []) 8 eight,
    )
