use Rattle.std.proofs.Common.{◌≡◌, ◌*◌, length, take}
use Rattle.std.specs.List.{flat_map}
use Rattle.ean_code.specs.inner.NumberSets.{AreCharacters}
use Rattle.ean_code.specs.NumberSets.{left_widths}
use Rattle.ean_code.proofs.number_sets.characters.Given as goal

abbrev pub invariant-loop-i : goal.invariant-loop-i
invariant-loop-i l = record {
  count : length l.found.items ≡ l.i;
  valid : AreCharacters l.found.items;
  read : flat_map left_widths l.found.items ≡ take (4 * l.i) l.widths;
}
