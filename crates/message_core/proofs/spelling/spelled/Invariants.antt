use Rattle.std.proofs.Common.{◌≡◌, take}
use Rattle.message_core.specs.Spellings.{spelled}
use Rattle.message_core.proofs.spelling.spelled.Given as goal

abbrev pub invariant-loop-byte : goal.invariant-loop-byte
invariant-loop-byte l = l.whole.items ≡ spelled (take l.byte-index l.text)
