use Rattle.std.proofs.Common.{◌*◌, ◌≤◌}
use Rattle.picture_core.proofs.level.heap_of.Given as goal

abbrev pub invariant-loop-value : goal.invariant-loop-value
invariant-loop-value l = (l.heap.count ≤ 65535 * l.value) × (l.heap.sum ≤ 16711425 * l.value)
