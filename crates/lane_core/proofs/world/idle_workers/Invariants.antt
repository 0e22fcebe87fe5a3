-- After i turns there are i workers, and room for all.
use Rattle.std.proofs.Common.{◌≡◌, ◌≤◌, None, replicate, vec_capacity}
use Rattle.lane_core.proofs.world.idle_workers.Given as goal

abbrev pub invariant-loop-i : goal.invariant-loop-i
invariant-loop-i l = record { items : l.workers.items ≡ replicate l._i None; room : l.fn.count ≤ vec_capacity l.workers }
