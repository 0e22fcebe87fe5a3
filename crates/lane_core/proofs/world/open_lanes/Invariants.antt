-- After i turns there are i open lanes, and room for all.
use Rattle.std.proofs.Common.{◌≡◌, ◌≤◌, false, [], map, replicate, vec_capacity}
use Rattle.lane_core.specs.Contents.{lane_contents}
use Rattle.lane_core.specs.Holding.{lane_held}
use Rattle.lane_core.proofs.world.open_lanes.Given as goal

abbrev pub invariant-loop-i : goal.invariant-loop-i
invariant-loop-i l = record { items : map lane_held l.lanes.items ≡ replicate l._i (lane_contents false 0 [] 0); room : l.fn.count ≤ vec_capacity l.lanes }
