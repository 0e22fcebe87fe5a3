use Rattle.std.proofs.Common.{◌≡◌, ◌+◌, drop, length}
use Rattle.gs1_c.specs.Shown.{is_between}
use Rattle.gs1_c.specs.inner.Shown.{up_to}
use Rattle.gs1_c.proofs.next.word_length.Given as goal

abbrev pub invariant-loop-i : goal.invariant-loop-i
invariant-loop-i l = l.i + length (up_to is_between (drop l.i l.line)) ≡ length (up_to is_between l.line)
