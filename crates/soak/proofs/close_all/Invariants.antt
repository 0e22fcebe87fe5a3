use Rattle.std.proofs.Common.{◌≡◌, map}
use Rattle.soak.proofs.close_all.Given as goal

abbrev pub invariant-loop-lane : goal.invariant-loop-lane
invariant-loop-lane l =
    (goal.iterator-loop-lane).can_next l.lane-iterator
    × (goal.iterator-loop-lane).is_finite l.lane-iterator
    × (l.closed.items ≡ map (λ x. x.seat) l.yielded)
