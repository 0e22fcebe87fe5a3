-- By the seats that came back the traffic was given and brought what the lanes submitted and polled.
use Rattle.std.proofs.Common.{◌≡◌, ◌∙◌, None, ap, arith, subst, sym}
use Rattle.hub_core.specs.Hubs.{year_of}
use Rattle.hub_core.specs.Serving.{served}
use Rattle.hub_core.proofs.SeatsAsLanes.{PolledFirst, first_of_seats}
use Rattle.hub_core.specs.Traffics.{AreServedFirst}
use Rattle.hub_core.specs.declared.shape.Shape.{Shape}
use Rattle.hub_core.specs.inner.CallingThread.{AreLeftLost}
use Rattle.hub_core.specs.inner.Traffics.{AreOwnSeats, given_to, polled_by_each}
use Rattle.hub_core.proofs.LanesAreCounted.{lanes_counted}
use Rattle.hub_core.proofs.traffic_serving.serve_traffic.Goals as goal
use Rattle.hub_core.proofs.NewSeatsServe.{came_fresh, serves_fresh}
use Rattle.hub_core.proofs.ServedFirst.{all_served, first_of_first, served_first}
use Rattle.hub_core.proofs.ThreadGoesOn.{if_lost}

pub take_own-own-requires : goal.take_own-own-requires
take_own-own-requires g c =
    let workers = c.in-Ok-new_hub.parts.workers in
    let seats = c.in-Ok-new_hub.ensures.new.seats in
    record {
      are = seats.workers;
      own = tt;
      count = omega (arith, seats.each_worker, workers.ok.0);
      room = omega (arith, workers.ok.1);
    }

pub serve_seats-requires-clause-seats : goal.serve_seats-requires-clause-seats
serve_seats-requires-clause-seats g c κs within =
    let hub = c.in-Ok-new_hub.parts.hub in
    let lanes = c.in-Ok-new_hub.parts.lanes.items in
    let is = c.in-Ok-new_hub.ensures.new in
    record {
      serves = serves_fresh hub lanes c.args.lanes is.seats.lanes is.lanes (ap (λ (s : Shape). s.lanes) is.shape) (ap (λ (s : Shape). s.limit) is.shape);
      workers = c.take_own-own.ensures;
      deliverer = is.seats.deliverer;
    }

pub serve_seats-requires-clause-fresh : goal.serve_seats-requires-clause-fresh
serve_seats-requires-clause-fresh g c κs within =
    let lanes = c.in-Ok-new_hub.parts.lanes.items in
    let is = c.in-Ok-new_hub.ensures.new in
    came_fresh (g.T.Traffic.Came c.in-Ok-new.traffic.value c.in-Ok-new.traffic.value) lanes c.args.lanes is.unused.lanes
    (lanes_counted lanes c.args.lanes is.lanes) (rw c.in-Ok-new.ensures.ok c.requires.fresh)

pub finish_all-requires-clause-room : goal.finish_all-requires-clause-room
finish_all-requires-clause-room g c =
    let room = c.in-Ok.ensures in
    (room.items, room.len, omega (arith, ap (λ (s : Shape). s.lanes) c.in-Ok-new_hub.ensures.new.shape, room.capacity, c.from.ensures))

pub returns-in-Ok-serve_seats-clause-served : goal.returns-in-Ok-serve_seats-clause-served
returns-in-Ok-serve_seats-clause-served g c =
    rw (c.into_inner.ensures, ← c.in-Ok-new.ensures.ok)
    (λ kept.
    let hub = c.in-Ok-new_hub.parts.hub in
    let seats = c.in-Ok-serve_seats.seats.lanes.items in
    let done = c.in-Ok-serve_seats.ensures.served.served kept in
    let first : PolledFirst hub seats = first_of_seats hub _ c.finish_all.ensures in
    let year : year_of hub ≡ c.args.year = c.in-Ok-new_hub.ensures.new.year in (
      given_to seats done.held,
      polled_by_each seats,
      done.came,
      subst (λ y. AreServedFirst y (given_to seats done.held) (polled_by_each seats)) year (served_first hub seats done.held done.serves first),
      λ ended.
          let end = done.done ended in
          let all = all_served hub seats (subst (λ o. AreOwnSeats hub seats o) end.2 done.serves) first end.1 in
          (end.0, subst (λ o. polled_by_each seats ≡ served c.args.year (given_to seats o)) (sym end.2) (all ∙ ap (λ y. served y (given_to seats None)) year)),
    ))

pub returns-in-Ok-serve_seats-clause-lost : goal.returns-in-Ok-serve_seats-clause-lost
returns-in-Ok-serve_seats-clause-lost g c =
    let hub = c.in-Ok-new_hub.parts.hub in
    let seats = c.in-Ok-serve_seats.seats.lanes.items in
    let first : PolledFirst hub seats = first_of_seats hub _ c.finish_all.ensures in
    let year : year_of hub ≡ c.args.year = c.in-Ok-new_hub.ensures.new.year in
    rw (c.into_inner.ensures, ← c.in-Ok-new.ensures.ok)
    (if_lost _ _ _
    (λ (lost : AreLeftLost g.T.Traffic.Came g.T.Traffic.Leaves hub c.in-Ok-new.traffic.value c.in-Ok-serve_seats.traffic.value seats).
    let was = lost.2 in
    let given = given_to seats lost.0 in (
      was.before,
      given,
      was.brought,
      was.came,
      first_of_first was.brought (polled_by_each seats) (served c.args.year given) was.first
          (subst (λ y. AreServedFirst y given (polled_by_each seats)) year (served_first hub seats lost.0 lost.1 first)),
      was.left,
    ))
    c.in-Ok-serve_seats.ensures.served.lost)
