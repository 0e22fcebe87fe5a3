use Rattle.std.proofs.Common.{◌≡◌, ◌+◌, ◌≤◌, vec_len, vec_capacity, All}
use Rattle.std.specs.Vec.Iter.{into_iter_len}
use Rattle.hub_core.proofs.worker_threads.start_all.Given as goal

-- `room`: there is room for the handles that are left, as in `join_all` for its seats
abbrev pub invariant-loop-seat : goal.invariant-loop-seat
invariant-loop-seat g l = record {
  can : (goal.iterator-loop-seat g).can_next l.seat-iterator;
  ends : (goal.iterator-loop-seat g).is_finite l.seat-iterator;
  room : vec_len l.handles + into_iter_len l.seat-iterator ≤ vec_capacity l.handles;
  count : vec_len l.handles + into_iter_len l.seat-iterator ≡ into_iter_len l.initial.seat-iterator;
  of_hub : All (λ h. h.promise.0.now ≡ l.hub) l.handles.items;
}
