-- The row in hand or the traffic's next is submitted by its lane's seat, or stays in hand if the queue is full.
use Rattle.std.proofs.Common.{◌≡◌, ◌<◌, ◌∙◌, IfSome, List, ℕ, None, Some, arith, length, map, option_to_list, refl, set, subst, sym}
use Rattle.std.proofs.lemmas.List.{length-map}
use Rattle.hub_core.specs.Lanes.{submitted_rows}
use Rattle.hub_core.specs.Traffics.{HasRoom}
use Rattle.hub_core.specs.inner.CallingThread.{CameBySeats}
use Rattle.hub_core.specs.inner.Traffics.{given_to, polled_by_each}
use Rattle.hub_core.proofs.SeatsServeTraffic.{came_full, came_more, if_none, next_came, room_same, seat_at, serves_with, step_serves}
use Rattle.hub_core.proofs.calling_thread.CallingThread.submit_some.Goals as goal
use Rattle.hub_core.proofs.calling_thread.CallingThread.submit_some.Goals.{Joined-take, in-None, in_default}
use Rattle.hub_core.proofs.ThreadGoesOn.{goes_since}

-- the seats are those of before, and the traffic has come by them and by the next row
ready : (g : _) (c : Joined-take g)
    → (c.match-take.self.hub.now ≡ c.loop-i.self.hub.now) × (c.match-take.self.start.value ≡ c.loop-i.self.start.value)
    × (length (option_to_list c.match-take.self.own) ≡ length (option_to_list c.loop-i.self.own)) × (c.match-take.self.held ≡ None)
    × CameBySeats g.T.Traffic.Came c.match-take.self.hub.now c.match-take.self.lanes.items c.match-take.self.deliverer c.match-take.self.own c.match-take.next
    c.match-take.self.start.value c.match-take.self.traffic.value
ready g c =
    let s = c.loop-i.self in
    elim c.match-take.branch [
      | in-None w ↦ rw (w.self-is, w.next-is) (
        refl,
        refl,
        refl,
        c.take.ensures.after,
        next_came g.T.Traffic.Came s.hub.now s.lanes.items s.deliverer s.own s.held w.next-next.result s.start.value _ _
            (sym c.take.ensures.value ∙ w.in-None.is) (rw w.deref_mut.ensures.value c.loop-i.invariant.serves) w.next-next.ensures.some w.next-next.ensures.none,
      )
      | in_default w ↦ rw (w.self-is, w.next-is) (refl, refl, refl, c.take.ensures.after, rw c.take.ensures.value c.loop-i.invariant.serves)
    ]

-- the row's lane has a seat
low : (g : _) (c : Joined-take g) (lane index : ℕ) (row : List ℕ) → c.match-take.next ≡ Some (lane, row) → index ≡ lane
    → index < length c.match-take.self.lanes.items
low g c lane index row is at =
    let s = c.match-take.self in
    let room : HasRoom lane (map submitted_rows s.lanes.items) =
    subst (λ o. IfSome o (λ r. HasRoom r.0 (map submitted_rows s.lanes.items))) is (ready g c).4.lanes.room in
    omega (arith, room.0, at, length-map s.lanes.items submitted_rows)

-- the traffic has come by the rows that were submitted and by this one
came_by : (g : _) (c : Joined-take g) (lane : ℕ) (row : List ℕ) → c.match-take.next ≡ Some (lane, row)
    → g.T.Traffic.Came c.match-take.self.start.value c.match-take.self.traffic.value (given_to c.match-take.self.lanes.items (Some (lane, row)))
    (polled_by_each c.match-take.self.lanes.items)
came_by g c lane row is =
    let s = c.match-take.self in
    subst (λ o. g.T.Traffic.Came s.start.value s.traffic.value (given_to s.lanes.items o) (polled_by_each s.lanes.items)) is (ready g c).4.came

pub returns-in_default-next : goal.returns-in_default-next
returns-in_default-next g c =
    let d = (goal.at.returns-in_default-next g c).Joined-take in
    let r = ready g d in
    let s = c.match-take.self in
    let none : c.match-take.next ≡ s.held = c.in_default-next.is ∙ sym r.3 in
    goes_since _ _ _ _ c.loop-i.invariant
    record { hub = r.0; start = r.1; seats = r.2; serves = rw (← none) r.4 }

pub submit-requires : goal.submit-requires
submit-requires g c =
    let d = (goal.at.submit-requires g c).Joined-take in
    let s = c.match-take.self in
    let less = low g d c.in-Some.lane c.from-index.result c.in-Some.row c.in-Some.is c.from-index.ensures in
    seat_at s.hub.now s.lanes.items c.match-take.next c.from-index.result c.index_mut.result.now (ready g d).4.lanes less c.index_mut.ensures.value

pub loop-i-preserved : goal.loop-i-preserved
loop-i-preserved g c =
    let d = (goal.at.loop-i-preserved g c).Joined-take in
    let r = ready g d in
    let s = c.match-take.self in
    let seats = s.lanes.items in
    let at = c.index_mut.ensures.value in
    let came = came_by g d c.in-Some.lane c.in-Some.row c.in-Some.is in
    let less = low g d c.in-Some.lane c.from-index.result c.in-Some.row c.in-Some.is c.from-index.ensures in
    goes_since _ _ _ _ c.loop-i.invariant
    record {
      hub = r.0;
      start = r.1;
      seats = r.2;
      serves = serves_with _ _ _ _ _ _ _ _ _ _ _ _ r.4
          (step_serves s.hub.now seats c.match-take.next s.held c.from-index.result c.index_mut.result.now c.submit.new.seat at c.submit.ensures.lane
          c.submit.ensures.of_hub r.4.lanes
          (if_none s.held (λ x. HasRoom x.0 (map submitted_rows (set seats c.from-index.result c.submit.new.seat))) r.3))
          (λ is. is)
          (came_more (g.T.Traffic.Came s.start.value s.traffic.value) seats s.held c.from-index.result c.in-Some.lane c.index_mut.result.now
          c.submit.new.seat _ _ _ c.in-Some.row r.3 c.from-index.ensures less at c.submit.ensures.lane c.in-Ok.ensures.submits.2
          c.submit.ensures.received came);
    }

pub returns-in-Err-Full : goal.returns-in-Err-Full
returns-in-Err-Full g c =
    let d = (goal.at.returns-in-Err-Full g c).Joined-take in
    let r = ready g d in
    let s = c.match-take.self in
    let seats = s.lanes.items in
    let at = c.index_mut.ensures.value in
    let full = rw c.in-Err-Full.field-0-is at c.in-Err-Full.ensures.submits in
    let held = Some (c.in-Some.lane, c.in-Err-Full.row) in
    let came = came_by g d c.in-Some.lane c.in-Some.row c.in-Some.is in
    let room = subst (λ o. IfSome o (λ x. HasRoom x.0 (map submitted_rows seats))) c.in-Some.is r.4.lanes.room in
    goes_since _ _ _ _ c.loop-i.invariant
    record {
      hub = r.0;
      start = r.1;
      seats = r.2;
      serves = serves_with _ _ _ _ _ _ _ _ _ _ _ _ r.4
          (step_serves s.hub.now seats c.match-take.next held c.from-index.result c.index_mut.result.now c.submit.new.seat at c.submit.ensures.lane
          c.submit.ensures.of_hub r.4.lanes (room_same seats held c.from-index.result c.index_mut.result.now c.submit.new.seat at full.2 room))
          (λ is. is)
          (came_full (g.T.Traffic.Came s.start.value s.traffic.value) seats c.from-index.result c.in-Some.lane c.index_mut.result.now c.submit.new.seat
          c.in-Some.row c.in-Err-Full.row at full.2 c.submit.ensures.lane c.submit.ensures.received full.1 came);
    }
