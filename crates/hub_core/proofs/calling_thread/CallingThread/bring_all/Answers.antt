-- Each delivery that a lane polls is its next, and is what the traffic awaits; if it is not brought it is lost.
use Rattle.std.proofs.Common.{◌<◌, ◌∙◌, ap, arith, length, refl, set, subst, sym}
use Rattle.hub_core.specs.Hubs.{shape_of}
use Rattle.hub_core.specs.Traffics.{IsNextOf}
use Rattle.hub_core.specs.inner.Traffics.{AreOwnSeats, given_to, polled_by_each}
use Rattle.hub_core.proofs.SeatsServeTraffic.{came_brought, came_same, lane_is_place, polls_next_of, first_polled_more, room_same, rows_same_given, seat_at, seats_counted, serves_with, step_serves}
use Rattle.hub_core.proofs.calling_thread.CallingThread.bring_all.Goals as goal
use Rattle.hub_core.proofs.calling_thread.CallingThread.bring_all.Goals.{After-poll, In-Some}
use Rattle.hub_core.proofs.ThreadGoesOn.{goes_since, lost_since, lost_step, lanes_kept}

pub hand-requires : goal.hand-requires
hand-requires g c =
    let s = c.args.self.now in
    let inv = c.loop-i.invariant in
    omega (
      arith,
      c.if-index-len.false,
      c.len.ensures,
      c.from-index.ensures,
      s.lanes.ok.0,
      seats_counted s.hub.now s.lanes.items s.held c.requires.lanes,
      ap (λ h. (shape_of h).lanes) inv.hub,
      inv.serves.deliverer.lanes,
    )

-- the lane's seat is there
low : (g : _) (c : After-poll g) → c.from-index.result < length c.loop-i.self.lanes.items
low g c =
    let s = c.args.self.now in
    omega (arith, c.if-index-len.false, c.len.ensures, s.lanes.ok.0, lanes_kept g.T.Traffic.Came s c.loop-i.self c.requires c.loop-i.invariant)

-- the seats are those of all lanes still, after a poll
still_serves : (g : _) (c : After-poll g)
    → AreOwnSeats c.loop-i.self.hub.now (set c.loop-i.self.lanes.items c.from-index.result c.poll.new.self) c.loop-i.self.held
still_serves g c =
    let s = c.loop-i.self in
    let seats = s.lanes.items in
    let at = c.index_mut.ensures.value in
    let was = c.loop-i.invariant.serves.lanes in
    let is = c.poll.ensures.of_hub s.hub.now (seat_at s.hub.now seats s.held c.from-index.result c.index_mut.result.now was (low g c) at) in
    step_serves s.hub.now seats s.held s.held c.from-index.result c.index_mut.result.now c.poll.new.self at c.poll.ensures.lane is was
    (room_same seats s.held c.from-index.result c.index_mut.result.now c.poll.new.self at c.poll.ensures.submits was.room)

-- what it polled is its lane's next
is_next : (g : _) (c : In-Some g) → c.from-index.result < length c.loop-i.self.lanes.items → IsNextOf c.in-Some.delivery (given_to c.loop-i.self.lanes.items c.loop-i.self.held) (polled_by_each c.loop-i.self.lanes.items)
is_next g c there =
    let s = c.loop-i.self in
    let polls = c.in-Some.ensures.polls in
    let t = c.poll.new.self in
    polls_next_of s.hub.now s.lanes.items s.held c.from-index.result c.index_mut.result.now t c.in-Some.delivery c.loop-i.invariant.serves.lanes
    there c.index_mut.ensures.value c.poll.ensures.submits polls.0 polls.1 polls.2
    (omega (arith, t.polled_issued, t.counted, t.polls_counted))

pub bring-requires : goal.bring-requires
bring-requires g c =
    let s = c.loop-i.self in (
      s.start.value,
      given_to s.lanes.items s.held,
      polled_by_each s.lanes.items,
      rw c.deref_mut.ensures.value c.loop-i.invariant.serves.came,
      is_next g (goal.at.bring-requires g c).In-Some (low g (goal.at.bring-requires g c).After-poll),
    )

pub loop-i-preserved : goal.loop-i-preserved
loop-i-preserved g c =
    let s = c.loop-i.self in
    let seats = s.lanes.items in
    let is = c.loop-i.invariant.serves in
    let d = (goal.at.loop-i-preserved g c).After-poll in
    let at = c.index_mut.ensures.value in
    let polls = c.in-Some.ensures.polls in
    let lane = lane_is_place s.hub.now seats s.held c.from-index.result c.index_mut.result.now is.lanes (low g d) at in
    goes_since _ _ _ _ c.loop-i.invariant
    record {
      hub = refl;
      start = refl;
      seats = refl;
      serves = serves_with _ _ _ _ _ _ _ _ _ _ _ _ is (still_serves g d) (c.hand.ensures.of_hub s.hub.now)
          (came_brought (g.T.Traffic.Came s.start.value c.bring.new.self) seats s.held c.from-index.result c.in-Some.delivery.lane c.index_mut.result.now
          c.poll.new.self c.in-Some.delivery (lane ∙ sym polls.0) (low g d) at c.poll.ensures.submits polls.2
          (c.in_ok-bring-in-Some.ensures.brings s.start.value (given_to seats s.held) (polled_by_each seats) (rw c.deref_mut.ensures.value is.came)
          (is_next g (goal.at.loop-i-preserved g c).In-Some (low g d))));
    }

pub returns-in_err-bring-in-Some : goal.returns-in_err-bring-in-Some
returns-in_err-bring-in-Some g c =
    let s = c.loop-i.self in
    let seats = s.lanes.items in
    let inv = c.loop-i.invariant in
    let is = inv.serves in
    let d = (goal.at.returns-in_err-bring-in-Some g c).After-poll in
    let at = c.index_mut.ensures.value in
    lost_step _ _ _ _ _ c.from_residual.ensures.0
    (lost_since _ _ c.args.self.now s _ inv.hub inv.start inv.seats
    record {
      keeps = record {
        hub = refl;
        start = refl;
        seats = refl;
        lanes = still_serves g d;
        deliverer = c.hand.ensures.of_hub s.hub.now is.deliverer;
        own = is.own;
      };
      lost = record {
        before = s.traffic.value;
        brought = polled_by_each seats;
        came = subst (λ given. g.T.Traffic.Came s.start.value s.traffic.value given (polled_by_each seats))
            (rows_same_given seats s.held c.from-index.result c.index_mut.result.now c.poll.new.self at c.poll.ensures.submits) is.came;
        first = first_polled_more seats c.from-index.result c.index_mut.result.now c.poll.new.self c.in-Some.delivery (low g d) at c.in-Some.ensures.polls.2;
        left = rw c.deref_mut.ensures.value at c.in_err-bring-in-Some.ensures.leaves;
      };
    })

pub loop-i-preserved-in-None : goal.loop-i-preserved-in-None
loop-i-preserved-in-None g c =
    let s = c.loop-i.self in
    let is = c.loop-i.invariant.serves in
    goes_since _ _ _ _ c.loop-i.invariant
    record {
      hub = refl;
      start = refl;
      seats = refl;
      serves = serves_with _ _ _ _ _ _ _ _ _ _ _ _ is (still_serves g (goal.at.loop-i-preserved-in-None g c).After-poll) (c.hand.ensures.of_hub s.hub.now)
          (came_same (g.T.Traffic.Came s.start.value s.traffic.value) s.lanes.items s.held c.from-index.result c.index_mut.result.now c.poll.new.self
          c.index_mut.ensures.value c.poll.ensures.submits c.in-None.ensures.polls.0 is.came);
    }
