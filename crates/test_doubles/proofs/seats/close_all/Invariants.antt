use Rattle.std.proofs.Common.{◌≡◌}
use Rattle.test_doubles.proofs.seats.close_all.Given as goal

abbrev pub invariant-loop-lane : goal.invariant-loop-lane
invariant-loop-lane l = record {
  can : (goal.iterator-loop-lane).can_next l.lane-iterator;
  ends : (goal.iterator-loop-lane).is_finite l.lane-iterator;
  closed : l.closed.items ≡ l.yielded;
}
