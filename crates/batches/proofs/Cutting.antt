-- What is left behind the first case of a batch.
use Rattle.std.proofs.Common.{◌≡◌, ℕ, ◌<◌, min, List, length, drop, ap, arith, length-drop}
use Rattle.std.proofs.lemmas.List.{length-take}
use Rattle.std.specs.Char.{is_ascii_digit}
use Rattle.std.specs.List.{prefix_len}
use Rattle.batches.specs.Cases.{digits, size, behind, First}

-- the digits of its length are gone at least
pub shorter : (mark : ℕ) (closing batch case rest : List ℕ) → First mark closing batch case rest → length rest < length batch
shorter mark closing batch case rest first =
    let inside : length (digits batch) ≡ min (min 9 (prefix_len is_ascii_digit batch)) (length batch) = length-take _ batch in
    omega (
      arith,
      inside,
      first.whole.some,
      ap length first.left,
      length-drop (length closing) (drop (size batch) (drop 1 (behind batch))),
      length-drop (size batch) (drop 1 (behind batch)),
      length-drop 1 (behind batch),
      length-drop (length (digits batch)) batch,
    )
