use Rattle.std.proofs.Common.{◌≡◌, ◌+◌, ◌≤◌, vec_capacity, vec_len}
use Rattle.std.specs.Vec.Iter.{into_iter_len}
use Rattle.hub_core.proofs.traffic_serving.close_all.Given as goal

-- `room`: there is room for the lanes that are left, as in `join_all` for its seats
abbrev pub invariant-loop-seat : goal.invariant-loop-seat
invariant-loop-seat l = record {
  can : (goal.iterator-loop-seat).can_next l.seat-iterator;
  ends : (goal.iterator-loop-seat).is_finite l.seat-iterator;
  room : vec_len l.closed + into_iter_len l.seat-iterator ≤ vec_capacity l.closed;
  items : l.closed.items ≡ l.yielded;
}
