-- The row is the last job under the lane's next ticket; a lane that is not there, closed or spent changes nothing.
use Rattle.std.proofs.Common.{◌≡◌, List, ℕ, ◌+◌, ◌<◌, ◌^◌, [], ◌∷◌, ◌++◌, Some, false, length, map, ap, ◌∙◌, arith, true, set}
use Rattle.std.specs.declared.alloc.AllocFailed.{AllocFailed}
use Rattle.std.specs.List.{slice_get}
use Rattle.std.proofs.lemmas.List.{map-set}
use Rattle.lane_core.specs.declared.event.Event.TheVariants.{Submit}
use Rattle.lane_core.specs.declared.job.Plain.{Plain}
use Rattle.lane_core.specs.declared.lane.Lane.{Lane}
use Rattle.lane_core.specs.Contents.{Contents, Steps, contents}
use Rattle.lane_core.specs.Plain.{plain_of}
use Rattle.lane_core.specs.Holding.{held, lane_held}
use Rattle.lane_core.proofs.HeldFacts.{count_held, count_put, lane_at, same_lane, open_still}
use Rattle.lane_core.proofs.LaneShowFacts.{submit_closed, submit_done, submit_spent, submit_past}
use Rattle.lane_core.proofs.WorldShowsNext.{shown_after}
use Rattle.lane_core.proofs.world.World.submit.Goals as goal
use Rattle.lane_core.proofs.world.World.submit.Goals.{After-index, After-index_mut}

-- there is such a lane
low : (c : After-index) → c.args.lane < length c.self.inside.lanes.items
low c = omega arith

pub returns-then-at-len-clause-steps : goal.returns-then-at-len-clause-steps
returns-then-at-len-clause-steps c =
    let count = count_held c.self.inside.lanes.items in
    rw (← c.self.view_is) (submit_past (held c.self.inside) c.args.lane c.args.row (omega arith))

pub returns-then-index-clause-steps : goal.returns-then-index-clause-steps
returns-then-index-clause-steps c =
    let less : c.args.lane < length c.self.inside.lanes.items = omega arith in
    rw (← c.self.view_is) (submit_closed (held c.self.inside) c.args.lane c.args.row (lane_held c.index.result.now)
    (lane_at c.self.inside.lanes.items c.args.lane c.index.result.now less c.index.ensures) c.if-index.true)

pub returns-then-issued-from-clause-steps : goal.returns-then-issued-from-clause-steps
returns-then-issued-from-clause-steps c =
    let less : c.args.lane < length c.self.inside.lanes.items = omega arith in
    rw (← c.self.view_is) (submit_spent (held c.self.inside) c.args.lane c.args.row (lane_held c.index-2.result.now)
    (lane_at c.self.inside.lanes.items c.args.lane c.index-2.result.now less c.index-2.ensures) (omega arith))

-- the lane is there and open; `close` says the same of its own calls, and `poll` that the lane is there
at : (c : After-index_mut) → slice_get (map lane_held c.self.inside.lanes.items) c.args.lane ≡ Some (lane_held c.index_mut.result.now)
at c = lane_at c.self.inside.lanes.items c.args.lane c.index_mut.result.now (omega arith) c.index_mut.ensures.value

still_open : (c : After-index_mut) → c.index_mut.result.now.closed ≡ false
still_open c = open_still c.self.inside.lanes.items c.args.lane c.index_mut.result.now c.index.result.now (omega arith) c.index_mut.ensures.value
    c.index.ensures c.if-index.false

-- both readings of its issued number agree, which is below the limit
same_issued : (c : After-index_mut) → c.index-2.result.now.issued ≡ c.index_mut.result.now.issued
same_issued c =
    let less : c.args.lane < length c.self.inside.lanes.items = omega arith in
    ap (λ (x : Lane). x.issued) (same_lane c.self.inside.lanes.items c.args.lane c.index-2.result.now c.index_mut.result.now less c.index-2.ensures
    c.index_mut.ensures.value)

room : (c : After-index_mut) → c.index_mut.result.now.issued < 2 ^ 32
room c = let issued = same_issued c in omega arith

-- one more is issued, and its job queued
submits : (c : After-index_mut) (jobs : List Plain)
    → jobs ≡ c.self.inside.jobs.items ++ plain_of c.args.lane c.index-2.result.now.issued c.self.inside.year c.args.row ∷ []
    → Steps (held c.self.inside) (Submit c.args.lane c.args.row) true (contents c.self.inside.year
    (map lane_held (set c.self.inside.lanes.items c.args.lane record
    { closed = c.index_mut.result.now.closed; issued = c.index-2.result.now.issued + 1; handed = c.index_mut.result.now.handed; polled = c.index_mut.result.now.polled }))
    jobs c.self.inside.workers.items c.self.inside.results.items c.self.inside.deliverer)
submits c jobs is =
    let x = c.index_mut.result.now in
    let job = ap (λ (n : ℕ). c.self.inside.jobs.items ++ plain_of c.args.lane n c.self.inside.year c.args.row ∷ []) (same_issued c) in
    rw (
      same_issued c,
      map-set lane_held c.self.inside.lanes.items c.args.lane record
          { closed = x.closed; issued = x.issued + 1; handed = x.handed; polled = x.polled },
      is ∙ job,
    )
    (submit_done (held c.self.inside) c.args.lane c.args.row (lane_held x) (at c) (still_open c) (room c))

pub invariant_of-self : goal.invariant_of-self
invariant_of-self c = shown_after (held c.self.inside) _ (Submit c.args.lane c.args.row) _ c.self.invariant
    (submits (goal.at.invariant_of-self c).After-index_mut _ c.in-Ok.ensures.items)

pub returns-in-Ok-clause-steps : goal.returns-in-Ok-clause-steps
returns-in-Ok-clause-steps c = rw (← c.self.view_is) (submits (goal.at.returns-in-Ok-clause-steps c).After-index_mut _ c.in-Ok.ensures.items)

-- memory for the job is refused: the row comes back, and the machine would have done the event
pub returns-in-Err-clause-refused : goal.returns-in-Err-clause-refused
returns-in-Err-clause-refused c =
    let less = low (goal.at.returns-in-Err-clause-refused c).After-index in
    let lanes = c.self.inside.lanes.items in
    let x = c.index-2.result.now in
    let at = lane_at lanes c.args.lane x less c.index-2.ensures in
    let open_ = open_still lanes c.args.lane x c.index.result.now less c.index-2.ensures c.index.ensures c.if-index.false in
    let room : x.issued < 2 ^ 32 = omega arith in
    let steps = submit_done (held c.self.inside) c.args.lane c.args.row (lane_held x) at open_ room in
    let row = ap (λ (f : AllocFailed Plain). f.value.widths) c.failed.view_is ∙ ap (λ (x : Plain). x.widths) c.in-Err.ensures.value_returned in
    rw (← c.self.view_is) ((λ i. Submit c.args.lane (row i)), λ s reached shows. (steps s reached shows).0)

pub returns-in-Ok-clause-lanes : goal.returns-in-Ok-clause-lanes
returns-in-Ok-clause-lanes c = count_put c.self.inside.lanes.items c.args.lane _ ∙ ap (λ (x : Contents). length x.lanes) c.self.view_is
