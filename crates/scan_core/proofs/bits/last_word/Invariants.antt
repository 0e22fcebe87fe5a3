use Rattle.std.proofs.Common.{◌≡◌, ◌+◌, ◌<◌, ℕ, length, slice_index}
use Rattle.scan_core.proofs.bits.last_word.Given as goal

abbrev pub invariant-loop-i : goal.invariant-loop-i
invariant-loop-i l = record {
  whole : length l.bytes ≡ 8;
  put : (k : ℕ) → k < l.i → slice_index l.bytes k ≡ slice_index l.bits (l.byte + k);
}
