use Rattle.std.proofs.Common.{◌≡◌, All, length, map}
use Rattle.hub_core.specs.Hubs.{IsDelivererOf, IsLaneOf}
use Rattle.hub_core.specs.Lanes.{lane_of}
use Rattle.soak.proofs.go_round.Given as goal

abbrev pub invariant-loop-lane : goal.invariant-loop-lane
invariant-loop-lane g l = record {
  count : length l.lane-items ≡ length l.initial.lane-items;
  lanes : All (λ x. IsLaneOf l.hub x.seat) l.lane-items;
  numbers : map (λ x. lane_of x.seat) l.lane-items ≡ map (λ x. lane_of x.seat) l.initial.lane-items;
  deliverer : IsDelivererOf l.hub l.deliverer;
}
