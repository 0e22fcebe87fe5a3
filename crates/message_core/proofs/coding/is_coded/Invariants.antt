use Rattle.std.proofs.Common.{◌≡◌, drop}
use Rattle.message_core.specs.Coding.{is_coded}
use Rattle.message_core.proofs.coding.is_coded.Given as goal

abbrev pub invariant-loop-i : goal.invariant-loop-i
invariant-loop-i l = is_coded (drop l.i l.text) ≡ is_coded l.text
