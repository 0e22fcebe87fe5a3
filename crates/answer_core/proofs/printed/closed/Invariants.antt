use Rattle.std.proofs.Common.{◌≡◌, ◌++◌, drop, take}
use Rattle.std.specs.Prelude.{option_map}
use Rattle.answer_core.specs.Printed.{closed}
use Rattle.answer_core.proofs.printed.closed.Given as goal

abbrev pub invariant-loop-i : goal.invariant-loop-i
invariant-loop-i l = option_map (λ digits. take l.i l.text ++ digits) (closed l.closing (drop l.i l.text)) ≡ closed l.closing l.text
