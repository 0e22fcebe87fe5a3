-- The first job goes to the worker, if there is one and the worker has none.
use Rattle.std.proofs.Common.{◌≡◌, ◌<◌, length, map, set, arith, sym, ◌∙◌, Some, None, true, false}
use Rattle.std.specs.List.{slice_get}
use Rattle.std.specs.Option.{is_some}
use Rattle.lane_core.specs.Contents.{Steps, contents}
use Rattle.lane_core.specs.Holding.{held, lane_held}
use Rattle.lane_core.specs.declared.event.Event.TheVariants.{Take}
use Rattle.lane_core.proofs.WorkerShowFacts.{busy_at, free_at, take_busy, take_done, take_empty, take_past}
use Rattle.lane_core.proofs.WorldShowsNext.{shown_after}
use Rattle.lane_core.proofs.world.World.take.Goals as goal
use Rattle.lane_core.proofs.world.World.take.Goals.{After-index, In-Some}

-- there is such a worker, and it has no job
free : (c : After-index) → is_some c.index.result.now ≡ false → slice_get c.self.inside.workers.items c.args.worker ≡ Some None
free c none = free_at c.self.inside.workers.items c.args.worker c.index.result.now (omega arith) c.index.ensures none

pub returns-then-at-len-clause-steps : goal.returns-then-at-len-clause-steps
returns-then-at-len-clause-steps c = rw (← c.self.view_is) (take_past (held c.self.inside) c.args.worker (omega arith))

pub returns-then-is_some-clause-steps : goal.returns-then-is_some-clause-steps
returns-then-is_some-clause-steps c =
    let less : c.args.worker < length c.self.inside.workers.items = omega arith in
    let busy = busy_at c.self.inside.workers.items c.args.worker c.index.result.now less c.index.ensures (sym c.is_some.ensures ∙ c.if-is_some.true) in
    rw (← c.self.view_is) (take_busy (held c.self.inside) c.args.worker busy.0 busy.1)

-- no job is queued
pub invariant_of-self : goal.invariant_of-self
invariant_of-self c = rw (← c.in_default.ensures.items) c.self.invariant

pub returns-in_default-clause-steps : goal.returns-in_default-clause-steps
returns-in_default-clause-steps c =
    let none = free (goal.at.returns-in_default-clause-steps c).After-index (sym c.is_some.ensures ∙ c.if-is_some.false) in
    let empty : length c.self.inside.jobs.items ≡ 0 = omega (arith, c.in_default.ensures.cases.0) in
    rw (← c.self.view_is) (rw (← c.in_default.ensures.items) (take_empty (held c.self.inside) c.args.worker none empty))

pub returns-in_default-clause-disabled : goal.returns-in_default-clause-disabled
returns-in_default-clause-disabled c = λ _. rw (← c.in_default.ensures.items) c.self.view_is

-- the worker has the first job, and the queue has the others
takes : (c : In-Some) → Steps (held c.self.inside) (Take c.args.worker) true (contents c.self.inside.year (map lane_held c.self.inside.lanes.items)
    c.pop_front.new.self.items (set c.self.inside.workers.items c.args.worker (Some c.in-Some.job)) c.self.inside.results.items c.self.inside.deliverer)
takes c =
    let none = free_at c.self.inside.workers.items c.args.worker c.index.result.now (omega arith) c.index.ensures (sym c.is_some.ensures ∙ c.if-is_some.false) in
    take_done (held c.self.inside) c.args.worker c.in-Some.job c.pop_front.new.self.items none c.in-Some.ensures.items

pub invariant_of-self-2 : goal.invariant_of-self-2
invariant_of-self-2 c = shown_after (held c.self.inside) _ (Take c.args.worker) _ c.self.invariant (takes (goal.at.invariant_of-self-2 c).In-Some)

pub returns-clause-steps : goal.returns-clause-steps
returns-clause-steps c = rw (← c.self.view_is) (takes (goal.at.returns-clause-steps c).In-Some)
