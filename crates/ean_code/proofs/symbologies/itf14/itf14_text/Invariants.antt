use Rattle.std.proofs.Common.{◌≡◌, ◌*◌, length, take}
use Rattle.std.specs.List.{flat_map}
use Rattle.digits_core.specs.Digits.{AreAsciiDigits, digits_of}
use Rattle.ean_code.specs.TwoOfFive.{in_pairs, pair_widths}
use Rattle.ean_code.proofs.symbologies.itf14.itf14_text.Given as goal

abbrev pub invariant-loop-i : goal.invariant-loop-i
invariant-loop-i l = record {
  count : length l.text.items ≡ 2 * l.i;
  valid : AreAsciiDigits l.text.items;
  read : flat_map pair_widths (in_pairs (digits_of l.text.items)) ≡ take (10 * l.i) l.pairs;
}
