use Rattle.std.specs.List.{sum_by}
use Rattle.lane_core.specs.Weights.{OneForOne}
use Rattle.hub_core.specs.inner.DrainedLists.{Drains}
use Rattle.hub_core.proofs.drain.place_waiting.Given as goal

abbrev pub decreases-loop-delivery : goal.decreases-loop-delivery
decreases-loop-delivery l = sum_by (λ _. 1) l.deliverer.waiting

abbrev pub invariant-loop-delivery : goal.invariant-loop-delivery
invariant-loop-delivery l = Drains l.initial.lists.items l.lists.items (OneForOne l.initial.deliverer.waiting l.deliverer.waiting)
