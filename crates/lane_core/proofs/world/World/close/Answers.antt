-- The lane is closed, if it is there and open.
use Rattle.std.proofs.Common.{◌≡◌, ◌<◌, false, true, Some, length, map, arith, set}
use Rattle.std.specs.List.{slice_get}
use Rattle.std.proofs.lemmas.List.{map-set}
use Rattle.lane_core.specs.declared.event.Event.TheVariants.{Close}
use Rattle.lane_core.specs.Contents.{Steps, contents}
use Rattle.lane_core.specs.Holding.{held, lane_held}
use Rattle.lane_core.proofs.HeldFacts.{count_held, lane_at, open_still}
use Rattle.lane_core.proofs.LaneShowFacts.{close_done, close_none, close_past}
use Rattle.lane_core.proofs.WorldShowsNext.{shown_after}
use Rattle.lane_core.proofs.world.World.close.Goals as goal
use Rattle.lane_core.proofs.world.World.close.Goals.{After-index_mut}

pub returns-then-at-len-clause-steps : goal.returns-then-at-len-clause-steps
returns-then-at-len-clause-steps c =
    let count = count_held c.self.inside.lanes.items in
    rw (← c.self.view_is) (close_past (held c.self.inside) c.args.lane (omega arith))

pub returns-then-index-clause-steps : goal.returns-then-index-clause-steps
returns-then-index-clause-steps c =
    let less : c.args.lane < length c.self.inside.lanes.items = omega arith in
    rw (← c.self.view_is) (close_none (held c.self.inside) c.args.lane (lane_held c.index.result.now)
    (lane_at c.self.inside.lanes.items c.args.lane c.index.result.now less c.index.ensures) c.if-index.true)

-- the lane is there and open; `submit` says the same of its own calls, and `poll` that the lane is there
at : (c : After-index_mut) → slice_get (map lane_held c.self.inside.lanes.items) c.args.lane ≡ Some (lane_held c.index_mut.result.now)
at c = lane_at c.self.inside.lanes.items c.args.lane c.index_mut.result.now (omega arith) c.index_mut.ensures.value

still_open : (c : After-index_mut) → c.index_mut.result.now.closed ≡ false
still_open c = open_still c.self.inside.lanes.items c.args.lane c.index_mut.result.now c.index.result.now (omega arith) c.index_mut.ensures.value
    c.index.ensures c.if-index.false

-- it closes, and nothing else of it changes
closes : (c : After-index_mut) → Steps (held c.self.inside) (Close c.args.lane) true (contents c.self.inside.year
    (map lane_held (set c.self.inside.lanes.items c.args.lane record
    { closed = true; issued = c.index_mut.result.now.issued; handed = c.index_mut.result.now.handed; polled = c.index_mut.result.now.polled }))
    c.self.inside.jobs.items c.self.inside.workers.items c.self.inside.results.items c.self.inside.deliverer)
closes c =
    let x = c.index_mut.result.now in
    rw (map-set lane_held c.self.inside.lanes.items c.args.lane record { closed = true; issued = x.issued; handed = x.handed; polled = x.polled })
    (close_done (held c.self.inside) c.args.lane (lane_held x) (at c) (still_open c))

pub invariant_of-self : goal.invariant_of-self
invariant_of-self c = shown_after (held c.self.inside) _ (Close c.args.lane) _ c.self.invariant (closes (goal.at.invariant_of-self c).After-index_mut)

pub returns-clause-steps : goal.returns-clause-steps
returns-clause-steps c = rw (← c.self.view_is) (closes (goal.at.returns-clause-steps c).After-index_mut)
