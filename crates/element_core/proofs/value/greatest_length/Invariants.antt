use Rattle.std.proofs.Common.{◌≡◌, ◌+◌, ◌*◌, ◌≤◌, drop}
use Rattle.element_core.specs.Table.{greatest_of}
use Rattle.element_core.proofs.value.greatest_length.Given as goal

abbrev pub invariant-loop-part : goal.invariant-loop-part
invariant-loop-part l = record { told : l.sum + greatest_of (drop l.part-index l.parts) ≡ greatest_of l.parts; small : l.sum ≤ 255 * l.part-index }
