-- Nothing waits in the slots before i, and no slot has changed.
use Rattle.std.proofs.Common.{◌≡◌, [], take}
use Rattle.lane_core.specs.NextSlots.{waiting_at}
use Rattle.lane_core.proofs.next_slot.take_first.Given as goal

abbrev pub invariant-loop-i : goal.invariant-loop-i
invariant-loop-i l = record { same : l.slots ≡ l.fn.slots; none : waiting_at (take l.i l.slots) ≡ [] }
