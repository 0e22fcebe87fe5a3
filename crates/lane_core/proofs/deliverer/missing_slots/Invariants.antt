-- After i turns there are i slots, and room for all.
use Rattle.std.proofs.Common.{◌≡◌, ◌≤◌, replicate, vec_capacity}
use Rattle.lane_core.specs.declared.next_slot.NextSlot.TheVariants.{Missing}
use Rattle.lane_core.proofs.deliverer.missing_slots.Given as goal

abbrev pub invariant-loop-i : goal.invariant-loop-i
invariant-loop-i l = record { items : l.slots.items ≡ replicate l._i Missing; room : l.fn.count ≤ vec_capacity l.slots }
