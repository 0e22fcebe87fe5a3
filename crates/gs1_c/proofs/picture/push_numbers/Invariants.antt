use Rattle.std.proofs.Common.{◌≡◌, ◌+◌, ◌*◌, ◌≤◌, ◌++◌, length, take}
use Rattle.gs1_c.specs.Pictures.{numbers_text}
use Rattle.gs1_c.proofs.picture.push_numbers.Given as goal

abbrev pub invariant-numbers : goal.invariant-numbers
invariant-numbers l = record {
  put : l.line.items ≡ l.fn.line.items ++ numbers_text (take l.number-index l.numbers);
  few : length l.line.items ≤ length l.fn.line.items + 41 * l.number-index;
}
