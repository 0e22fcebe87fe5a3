use Rattle.std.proofs.Common.{◌≡◌, All, map}
use Rattle.hub_core.specs.Hubs.{IsDelivererOf, IsLaneOf}
use Rattle.hub_core.specs.Lanes.{lane_of}
use Rattle.soak.proofs.drive.Given as goal

abbrev pub invariant-loop : goal.invariant-loop
invariant-loop g l = record {
  can : (goal.iterator-loop g).can_next l.iterator';
  ends : (goal.iterator-loop g).is_finite l.iterator';
  lanes : All (λ x. IsLaneOf l.hub x.seat) l.lanes.items;
  numbers : map (λ x. lane_of x.seat) l.lanes.items ≡ map (λ x. lane_of x.seat) l.initial.lanes.items;
  deliverer : IsDelivererOf l.hub l.deliverer;
}
