use Rattle.std.proofs.Common.{◌≡◌, ◌+◌, ◌*◌, ◌++◌, length, take}
use Rattle.std.specs.List.{flat_map}
use Rattle.digits_core.specs.Digits.{digits_of}
use Rattle.ean_code.specs.NumberSets.{characters_in, left_widths}
use Rattle.ean_code.proofs.drawing.push_left.Given as goal

abbrev pub invariant-loop-i : goal.invariant-loop-i
invariant-loop-i l = record {
  count : length l.widths.items ≡ length l.initial.widths.items + 4 * l.i;
  drawn : l.widths.items ≡ l.initial.widths.items ++ flat_map left_widths (take l.i (characters_in l.row (digits_of l.digits)));
}
