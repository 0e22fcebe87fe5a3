use Rattle.std.proofs.Common.{◌≡◌, ◌+◌, ◌≤◌, ◌*◌, ◌%◌, [], ◌∷◌, ◌++◌, length, drop}
use Rattle.digits_core.specs.Digits.{digits_of, weighted}
use Rattle.digits_core.proofs.payload.payload_sum.Given as goal

abbrev pub invariant-loop-byte : goal.invariant-loop-byte
invariant-loop-byte l = record {
  weight_is : l.weight ≡ 1 + 2 * ((length l.payload + l.byte-index) % 2);
  sum_is : l.sum + weighted (drop l.byte-index (digits_of l.payload ++ 0 ∷ [])) ≡ weighted (digits_of l.payload ++ 0 ∷ []);
  small : l.sum ≤ 27 * l.byte-index;
}
