use Rattle.std.proofs.Common.{◌≡◌, ◌+◌, ◌++◌, length, take}
use Rattle.digits_core.specs.Digits.{ascii_of}
use Rattle.ean_code.specs.inner.NumberSets.{character_digits}
use Rattle.ean_code.proofs.reading.push_digits.Given as goal

abbrev pub invariant-loop-i : goal.invariant-loop-i
invariant-loop-i l = record {
  count : length l.text.items ≡ length l.initial.text.items + l.i;
  shown : l.text.items ≡ l.initial.text.items ++ ascii_of (character_digits (take l.i l.characters));
}
