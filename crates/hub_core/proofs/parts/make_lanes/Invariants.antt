use Rattle.std.proofs.Common.{◌≡◌, All, length, vec_len}
use Rattle.std.specs.List.{range_with_len}
use Rattle.crossbeam_queue.specs.Passes.{view, IsPassOf}
use Rattle.hub_core.specs.Fresh.{HasDoneNothing}
use Rattle.hub_core.specs.inner.Fresh.{IsPairedIn, IsUnsent}
use Rattle.hub_core.specs.Lanes.{numbers_of}
use Rattle.hub_core.specs.inner.Rule.{IsCut}
use Rattle.hub_core.proofs.parts.make_lanes.Given as goal

abbrev pub invariant-loop-lane : goal.invariant-loop-lane
invariant-loop-lane l = record {
  of_jobs : IsPassOf l.jobs l.all_jobs;
  left : IsCut l.lane (view l.initial.all_jobs) (view l.all_jobs);
  lanes : numbers_of l.seats.items ≡ range_with_len 0 l.lane;
  seats : All (λ s. IsPassOf l.jobs s.pass × HasDoneNothing s) l.seats.items;
  count : length l.rings.items ≡ l.lane;
  drained : vec_len l.seats ≡ l.lane;
  unsent : All (IsUnsent l.capacity) l.rings.items;
  paired : All (IsPairedIn l.rings.items) l.seats.items;
}
