use Rattle.std.proofs.Common.{◌≡◌, ◌+◌, ◌*◌, ◌++◌, length, take}
use Rattle.std.specs.List.{flat_map}
use Rattle.digits_core.specs.Digits.{digits_of}
use Rattle.ean_code.specs.TwoOfFive.{in_pairs, pair_widths}
use Rattle.ean_code.proofs.symbologies.itf14.push_pairs.Given as goal

abbrev pub invariant-loop-i : goal.invariant-loop-i
invariant-loop-i l = record {
  count : length l.widths.items ≡ length l.initial.widths.items + 10 * l.i;
  drawn : l.widths.items ≡ l.initial.widths.items ++ flat_map pair_widths (take l.i (in_pairs (digits_of l.digits)));
}
