use Rattle.std.proofs.Common.{◌≡◌, ◌*◌, length, take}
use Rattle.std.specs.List.{flat_map}
use Rattle.code128_code.specs.Characters.{pattern}
use Rattle.code128_code.specs.Symbols.{AreValues}
use Rattle.code128_code.proofs.reading.data_values.Given as goal

abbrev pub invariant-loop-i : goal.invariant-loop-i
invariant-loop-i l = record {
  count : length l.values.items ≡ l.i;
  valid : AreValues l.values.items;
  read : flat_map pattern l.values.items ≡ take (6 * l.i) l.widths;
}
