use Rattle.std.proofs.Common.{◌≡◌, ◌+◌, ◌≤◌, vec_len, vec_capacity, All}
use Rattle.std.specs.Vec.Iter.{into_iter_len}
use Rattle.hub_core.specs.Hubs.{IsWorkerOf}
use Rattle.hub_core.proofs.worker_threads.join_all.Given as goal

-- `room`: there is room for the seats that are left, as in `start_all` for its handles and in `close_all`
abbrev pub invariant-loop-handle : goal.invariant-loop-handle
invariant-loop-handle g l = record {
  can : (goal.iterator-loop-handle g).can_next l.handle-iterator;
  ends : (goal.iterator-loop-handle g).is_finite l.handle-iterator;
  room : vec_len l.back + into_iter_len l.handle-iterator ≤ vec_capacity l.back;
  count : vec_len l.back + into_iter_len l.handle-iterator ≡ into_iter_len l.initial.handle-iterator;
  capacity : vec_capacity l.back ≡ vec_capacity l.initial.back;
  seats : All (IsWorkerOf l.hub) l.back.items;
}
