use Rattle.std.proofs.Common.{◌≡◌, ◌+◌, ◌*◌, ◌≤◌, drop}
use Rattle.element_core.specs.Table.{least_of}
use Rattle.element_core.proofs.value.least_length.Given as goal

abbrev pub invariant-loop-part : goal.invariant-loop-part
invariant-loop-part l = record { told : l.sum + least_of (drop l.part-index l.parts) ≡ least_of l.parts; small : l.sum ≤ 255 * l.part-index }
