use Rattle.std.proofs.Common.{◌≡◌, ◌+◌, drop, length}
use Rattle.gs1_c.specs.Dates.{before_equals}
use Rattle.gs1_c.proofs.dates.equals_at.Given as goal

abbrev pub invariant-loop-i : goal.invariant-loop-i
invariant-loop-i l = l.i + length (before_equals (drop l.i l.text)) ≡ length (before_equals l.text)
