-- All seats are back, so that the hub can be finished.
use Rattle.std.proofs.Common.{◌∙◌, ap, arith, map, subst, sym}
use Rattle.std.specs.List.{All}
use Rattle.hub_core.specs.Hubs.{IsLaneOf, shape_of, year_of}
use Rattle.hub_core.specs.Lane.{ArePolledFirst}
use Rattle.hub_core.specs.Lanes.{as_lane, numbers_of}
use Rattle.hub_core.proofs.HubIsNew.{has_each}
use Rattle.hub_core.proofs.SeatsServeTraffic.{seats_counted}
use Rattle.hub_core.proofs.traffic_serving.finish_all.Goals as goal

pub close_all-closed-requires : goal.close_all-closed-requires
close_all-closed-requires g c =
    let seats = c.args.seats in
    let is = c.requires.seats in
    let room = c.requires.room in
    (room.0, room.1, omega (arith, seats_counted c.args.hub seats.lanes.items is.0 is.1.serves, seats.lanes.ok.0, room.2))

pub finish-requires : goal.finish-requires
finish-requires g c =
    let hub = c.args.hub in
    let is = c.requires.seats.1 in
    let closed = c.close_all-closed.ensures in
    record {
      lanes = subst (All (IsLaneOf hub)) (sym closed) is.serves.lanes;
      workers = c.put_back.ensures.are;
      deliverer = is.deliverer;
      each_lane = has_each (shape_of hub).lanes _ (ap numbers_of closed ∙ is.serves.numbers);
      each_worker = omega (arith, c.put_back.ensures.count, c.put_back.new.workers.ok.0);
    }

pub returns : goal.returns
returns g c = subst (λ seats. ArePolledFirst (year_of c.args.hub) (map as_lane seats)) c.close_all-closed.ensures c.finish.ensures.polled
