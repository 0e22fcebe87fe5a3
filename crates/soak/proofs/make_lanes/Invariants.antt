use Rattle.std.proofs.Common.{◌≡◌, map}
use Rattle.soak.proofs.make_lanes.Given as goal

abbrev pub invariant-loop-seat : goal.invariant-loop-seat
invariant-loop-seat l =
    (goal.iterator-loop-seat).can_next l.seat-iterator
    × (goal.iterator-loop-seat).is_finite l.seat-iterator
    × (map (λ x. x.seat) l.lanes.items ≡ l.yielded)
