-- The lane's next number goes from the deliverer to the lane's outbox, if it waits and memory is there.
use Rattle.std.proofs.Common.{◌≡◌, List, ◌<◌, [], ◌∷◌, ◌++◌, map, set, length, Bor, ap, ◌∙◌, arith, true}
use Rattle.lane_core.specs.declared.event.Event.TheVariants.{Hand}
use Rattle.lane_core.specs.declared.job.Plain.{Plain}
use Rattle.lane_core.specs.Contents.{Contents, lane_contents, Steps, contents}
use Rattle.lane_core.specs.ReorderBuffer.{WaitsAsNext}
use Rattle.lane_core.specs.Holding.{held, lane_held}
use Rattle.lane_core.proofs.HandShowFacts.{hand_done, hand_enabled, hand_none}
use Rattle.lane_core.proofs.HeldFacts.{count_held, count_put, lane_at, lane_put, lane_same}
use Rattle.lane_core.proofs.LaneShowFacts.{hand_past}
use Rattle.lane_core.proofs.NextFacts.{none_has}
use Rattle.lane_core.proofs.ResultFacts.{of_refusal, if_some}
use Rattle.lane_core.proofs.WorldShowsNext.{shown_after, lane_count_kept}
use Rattle.lane_core.proofs.world.World.hand.Goals as goal
use Rattle.lane_core.proofs.world.World.hand.Goals.{After-index_mut, After-push_reserved, After-reserve}

-- there is such a lane
low : (c : After-index_mut) → c.args.lane < length c.self.inside.lanes.items
low c = omega arith

-- room for one more changes no lane
same_lanes : (c : After-reserve)
    → map lane_held (set c.self.inside.lanes.items c.args.lane record
    { closed = c.index_mut.result.now.closed; issued = c.index_mut.result.now.issued; handed = c.reserve.new.self; polled = c.index_mut.result.now.polled })
    ≡ map lane_held c.self.inside.lanes.items
same_lanes c =
    let x = c.index_mut.result.now in
    lane_same c.self.inside.lanes.items c.args.lane x record { closed = x.closed; issued = x.issued; handed = c.reserve.new.self; polled = x.polled }
    c.index_mut.ensures.value (λ i. lane_contents x.closed x.issued (c.reserve.ensures.items i) x.polled)

pub returns-then-at-len-clause-steps : goal.returns-then-at-len-clause-steps
returns-then-at-len-clause-steps c =
    let count = count_held c.self.inside.lanes.items in
    rw (← c.self.view_is) (hand_past (held c.self.inside) c.args.lane (omega arith))

pub returns-then-is_none-clause-steps : goal.returns-then-is_none-clause-steps
returns-then-is_none-clause-steps c =
    let none = none_has c.self.inside.deliverer c.args.lane c.next.result c.if-is_none.ensures c.next.ensures.exactly.1 in
    rw (← c.self.view_is) (hand_none (held c.self.inside) c.args.lane none)

pub invariant_of-self : goal.invariant_of-self
invariant_of-self c = rw (same_lanes (goal.at.invariant_of-self c).After-reserve) c.self.invariant

-- memory for one more is refused, though the next number waits
pub returns-in_err-reserve-clause-refused : goal.returns-in_err-reserve-clause-refused
returns-in_err-reserve-clause-refused c =
    let less = low (goal.at.returns-in_err-reserve-clause-refused c).After-index_mut in
    let x = c.index_mut.result.now in
    let next = if_some c.next.result (λ (y : Bor Plain). WaitsAsNext c.self.inside.deliverer c.args.lane y.now) c.if-is_none.ensures c.next.ensures.some in
    of_refusal c.from_residual.result _ (rw (← c.self.view_is)
    (hand_enabled (held c.self.inside) c.args.lane (lane_held x) next.0.now (lane_at c.self.inside.lanes.items c.args.lane x less c.index_mut.ensures.value)
    next.1))

pub returns-in_err-reserve-clause-unchanged : goal.returns-in_err-reserve-clause-unchanged
returns-in_err-reserve-clause-unchanged c =
    of_refusal c.from_residual.result _ (rw (same_lanes (goal.at.returns-in_err-reserve-clause-unchanged c).After-reserve) c.self.view_is)

-- `take_next` answers none: never so, but the proof need not know that
pub invariant_of-self-in_default : goal.invariant_of-self-in_default
invariant_of-self-in_default c =
    rw (same_lanes (goal.at.invariant_of-self-in_default c).After-reserve, c.in_default.ensures.none.1) c.self.invariant

pub returns-in_default-clause-steps : goal.returns-in_default-clause-steps
returns-in_default-clause-steps c =
    rw (← c.self.view_is) (rw (same_lanes (goal.at.returns-in_default-clause-steps c).After-reserve, c.in_default.ensures.none.1)
    (hand_none (held c.self.inside) c.args.lane c.in_default.ensures.none.0))

pub returns-in_default-clause-disabled : goal.returns-in_default-clause-disabled
returns-in_default-clause-disabled c =
    λ _. rw (same_lanes (goal.at.returns-in_default-clause-disabled c).After-reserve, c.in_default.ensures.none.1) c.self.view_is

-- the outbox has one more, which the deliverer gave
hands : (c : After-push_reserved) → Steps (held c.self.inside) (Hand c.args.lane) true (contents c.self.inside.year
    (map lane_held (set c.self.inside.lanes.items c.args.lane record
    { closed = c.index_mut.result.now.closed; issued = c.index_mut.result.now.issued; handed = c.push_reserved.new.self; polled = c.index_mut.result.now.polled }))
    c.self.inside.jobs.items c.self.inside.workers.items c.self.inside.results.items c.take_next.new.self)
hands c =
    let less : c.args.lane < length c.self.inside.lanes.items = omega arith in
    let lanes = c.self.inside.lanes.items in
    let x = c.index_mut.result.now in
    let items = ◌∙◌ {A = List Plain} c.push_reserved.ensures.items (ap (λ (xs : List Plain). xs ++ c.in-Some.delivery ∷ []) c.reserve.ensures.items) in
    rw (lane_put lanes c.args.lane record { closed = x.closed; issued = x.issued; handed = c.push_reserved.new.self; polled = x.polled } _
    (λ i. lane_contents x.closed x.issued (items i) x.polled))
    (hand_done (held c.self.inside) c.args.lane (lane_held x) c.in-Some.delivery c.take_next.new.self
    (lane_at lanes c.args.lane x less c.index_mut.ensures.value) c.in-Some.ensures.some)

pub invariant_of-self-2 : goal.invariant_of-self-2
invariant_of-self-2 c = shown_after (held c.self.inside) _ (Hand c.args.lane) _ c.self.invariant (hands (goal.at.invariant_of-self-2 c).After-push_reserved)

pub returns-clause-steps : goal.returns-clause-steps
returns-clause-steps c = rw (← c.self.view_is) (hands (goal.at.returns-clause-steps c).After-push_reserved)

-- the deliverer has this lane too
pub next-requires : goal.next-requires
next-requires c =
    let kept = lane_count_kept (held c.self.inside) c.self.invariant in
    let count = count_held c.self.inside.lanes.items in
    omega arith

pub take_next-requires : goal.take_next-requires
take_next-requires c =
    let kept = lane_count_kept (held c.self.inside) c.self.invariant in
    let count = count_held c.self.inside.lanes.items in
    omega arith

-- whatever became of its outbox, the lanes are as many
pub returns-in_err-reserve-clause-lanes : goal.returns-in_err-reserve-clause-lanes
returns-in_err-reserve-clause-lanes c = count_put c.self.inside.lanes.items c.args.lane _ ∙ ap (λ (x : Contents). length x.lanes) c.self.view_is

pub returns-in_default-clause-lanes : goal.returns-in_default-clause-lanes
returns-in_default-clause-lanes c = count_put c.self.inside.lanes.items c.args.lane _ ∙ ap (λ (x : Contents). length x.lanes) c.self.view_is

pub returns-clause-lanes : goal.returns-clause-lanes
returns-clause-lanes c = count_put c.self.inside.lanes.items c.args.lane _ ∙ ap (λ (x : Contents). length x.lanes) c.self.view_is
