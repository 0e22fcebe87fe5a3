-- One more of what the lane was handed counts as polled, if there is one.
use Rattle.std.proofs.Common.{◌≡◌, ◌+◌, ◌<◌, Some, true, length, map, ap, arith, set}
use Rattle.std.specs.List.{slice_get}
use Rattle.std.proofs.lemmas.List.{map-set}
use Rattle.lane_core.specs.declared.event.Event.TheVariants.{Poll}
use Rattle.lane_core.specs.declared.lane.Lane.{Lane}
use Rattle.lane_core.specs.Contents.{Steps, contents}
use Rattle.lane_core.specs.Holding.{held, lane_held}
use Rattle.lane_core.proofs.HeldFacts.{count_held, lane_at, same_lane}
use Rattle.lane_core.proofs.LaneShowFacts.{poll_done, poll_none, poll_past}
use Rattle.lane_core.proofs.WorldShowsNext.{shown_after}
use Rattle.lane_core.proofs.world.World.poll.Goals as goal
use Rattle.lane_core.proofs.world.World.poll.Goals.{After-index_mut}

pub returns-then-at-len-clause-steps : goal.returns-then-at-len-clause-steps
returns-then-at-len-clause-steps c =
    let count = count_held c.self.inside.lanes.items in
    rw (← c.self.view_is) (poll_past (held c.self.inside) c.args.lane (omega arith))

pub returns-then-polled-len-clause-steps : goal.returns-then-polled-len-clause-steps
returns-then-polled-len-clause-steps c =
    let less : c.args.lane < length c.self.inside.lanes.items = omega arith in
    let lanes = c.self.inside.lanes.items in
    let same = same_lane lanes c.args.lane c.index.result.now c.index-2.result.now less c.index.ensures c.index-2.ensures in
    let polled = ap (λ (x : Lane). x.polled) same in
    rw (← c.self.view_is) (poll_none (held c.self.inside) c.args.lane (lane_held c.index-2.result.now)
    (lane_at lanes c.args.lane c.index-2.result.now less c.index-2.ensures) (omega arith))

-- the lane is there, and has been handed more than it polled; `at` is that of `submit` and `close`
at : (c : After-index_mut) → slice_get (map lane_held c.self.inside.lanes.items) c.args.lane ≡ Some (lane_held c.index_mut.result.now)
at c = lane_at c.self.inside.lanes.items c.args.lane c.index_mut.result.now (omega arith) c.index_mut.ensures.value

same_polled : (c : After-index_mut) → c.index.result.now.polled ≡ c.index_mut.result.now.polled
same_polled c =
    let less : c.args.lane < length c.self.inside.lanes.items = omega arith in
    ap (λ (x : Lane). x.polled) (same_lane c.self.inside.lanes.items c.args.lane c.index.result.now c.index_mut.result.now less c.index.ensures
    c.index_mut.ensures.value)

one_more : (c : After-index_mut) → c.index_mut.result.now.polled < length c.index_mut.result.now.handed.items
one_more c =
    let less : c.args.lane < length c.self.inside.lanes.items = omega arith in
    let polled = same_polled c in
    let handed = ap (λ (x : Lane). length x.handed.items) (same_lane c.self.inside.lanes.items c.args.lane c.index-2.result.now c.index_mut.result.now less
    c.index-2.ensures c.index_mut.ensures.value) in
    omega arith

-- it polls one more, and nothing else of it changes
polls : (c : After-index_mut) → Steps (held c.self.inside) (Poll c.args.lane) true (contents c.self.inside.year
    (map lane_held (set c.self.inside.lanes.items c.args.lane record
    { closed = c.index_mut.result.now.closed; issued = c.index_mut.result.now.issued; handed = c.index_mut.result.now.handed; polled = c.index.result.now.polled + 1 }))
    c.self.inside.jobs.items c.self.inside.workers.items c.self.inside.results.items c.self.inside.deliverer)
polls c =
    let x = c.index_mut.result.now in
    rw (
      same_polled c,
      map-set lane_held c.self.inside.lanes.items c.args.lane record { closed = x.closed; issued = x.issued; handed = x.handed; polled = x.polled + 1 },
    )
    (poll_done (held c.self.inside) c.args.lane (lane_held x) (at c) (one_more c))

pub invariant_of-self : goal.invariant_of-self
invariant_of-self c = shown_after (held c.self.inside) _ (Poll c.args.lane) _ c.self.invariant (polls (goal.at.invariant_of-self c).After-index_mut)

pub returns-clause-steps : goal.returns-clause-steps
returns-clause-steps c = rw (← c.self.view_is) (polls (goal.at.returns-clause-steps c).After-index_mut)
