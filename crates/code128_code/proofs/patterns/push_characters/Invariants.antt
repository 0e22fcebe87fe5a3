use Rattle.std.proofs.Common.{◌≡◌, ◌+◌, ◌*◌, ◌++◌, length, take}
use Rattle.std.specs.List.{flat_map}
use Rattle.code128_code.specs.Characters.{pattern}
use Rattle.code128_code.proofs.patterns.push_characters.Given as goal

abbrev pub invariant-loop-i : goal.invariant-loop-i
invariant-loop-i l = record {
  count : length l.widths.items ≡ length l.initial.widths.items + 6 * l.i;
  drawn : l.widths.items ≡ l.initial.widths.items ++ flat_map pattern (take l.i l.values);
}
