use Rattle.std.proofs.Common.{◌≡◌, ◌*◌, ◌≤◌, length, drop}
use lib.Seq.{paste}
use Rattle.std.specs.Slice.Iter.{chunks_exact_rest, chunks_exact_size}
use Rattle.load.specs.Digits.{bytes_of}
use Rattle.load.proofs.digit.decode_into.Given as goal

-- as many bytes are written as pairs have been cut off the digits
abbrev pub invariant-loop-j : goal.invariant-loop-j
invariant-loop-j l = record {
  size : chunks_exact_size l.j-iterator.iter ≡ 2;
  within : 2 * l.j-iterator.count ≤ length l.digits;
  left : chunks_exact_rest l.j-iterator.iter ≡ drop (2 * l.j-iterator.count) l.digits;
  written : l.store ≡ paste l.initial.store l.at (bytes_of l.digits) l.j-iterator.count;
}
