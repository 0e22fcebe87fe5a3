use Rattle.std.proofs.Common.{◌≡◌, ◌++◌, drop, take}
use Rattle.answer_core.specs.Printed.{before_mark}
use Rattle.answer_core.proofs.printed.before_mark.Given as goal

abbrev pub invariant-loop-i : goal.invariant-loop-i
invariant-loop-i l = take l.i l.text ++ before_mark l.marks (drop l.i l.text) ≡ before_mark l.marks l.text
