use Rattle.std.proofs.Common.{◌≡◌, ◌+◌, drop, length}
use Rattle.element_core.specs.Elements.{field_of}
use Rattle.element_core.proofs.front.field_length.Given as goal

abbrev pub invariant-loop-i : goal.invariant-loop-i
invariant-loop-i l = l.i + length (field_of (drop l.i l.text)) ≡ length (field_of l.text)
