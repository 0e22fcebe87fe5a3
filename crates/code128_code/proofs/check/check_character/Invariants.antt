use Rattle.std.proofs.Common.{◌≡◌, ◌≤◌, ◌+◌, ◌*◌, take}
use Rattle.code128_code.specs.Symbols.{by_place}
use Rattle.code128_code.proofs.check.check_character.Given as goal

abbrev pub invariant-loop-value : goal.invariant-loop-value
invariant-loop-value l = record {
  place_is : l.place ≡ l.value-index + 1;
  sum_is : l.sum ≡ l.start + by_place 1 (take l.value-index l.values);
  bound : l.sum ≤ 255 + 24480 * l.value-index;
}
