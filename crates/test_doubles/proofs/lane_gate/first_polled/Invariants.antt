use Rattle.std.proofs.Common.{◌≡◌}
use Rattle.hub_core.specs.Hubs.{IsDelivererOf, IsLaneOf}
use Rattle.hub_core.specs.Lanes.{lane_of}
use Rattle.test_doubles.proofs.lane_gate.first_polled.Given as goal

abbrev pub invariant-loop : goal.invariant-loop
invariant-loop g l = IsLaneOf l.hub l.seat × IsDelivererOf l.hub l.deliverer × (lane_of l.seat ≡ lane_of l.initial.seat)
