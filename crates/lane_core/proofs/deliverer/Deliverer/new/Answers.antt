-- A deliverer that took nothing in has an empty buffer.
use Rattle.std.proofs.Common.{rules, ◌≡◌, ◌∙◌, replicate}
use Rattle.lane_core.specs.NextSlots.{buffer_by_slots}
use Rattle.lane_core.proofs.BufferFacts.{new_buffer_is}
use Rattle.lane_core.proofs.deliverer.Deliverer.new.Goals as goal

pub returns : goal.returns
returns c =
    let nexts : c.in_ok-vec.field-0.items ≡ replicate c.args.lanes 0 = search rules in
    (λ i. buffer_by_slots (nexts i) (c.in_ok-missing_slots.ensures i) (c.new.ensures.empty i) (c.new-2.ensures.empty i)) ∙ new_buffer_is c.args.lanes
