-- What was popped is taken in, set aside or in hand, at each way out.
use Rattle.std.proofs.Common.{ap, sym, ◌∙◌}
use Rattle.crossbeam_queue.specs.Passes.{view}
use Rattle.hub_core.specs.Rings.{all_sent}
use Rattle.hub_core.proofs.RuleIsKept.{learns, takes}
use Rattle.hub_core.proofs.DeliveriesAreAccounted.{Stands, stands_again, stands_popped, accounted_taken, accounted_aside, accounted_held, accounted_at}
use Rattle.hub_core.proofs.hub.Hub.collect_by_lane.Goals as goal
use Rattle.hub_core.proofs.hub.Hub.collect_by_lane.Goals.{After-take_in, in-Some, in-None+in-Some-pop_as}

pub pop_as-requires-clause-rule : goal.pop_as-requires-clause-rule
pop_as-requires-clause-rule g c = (takes _ _ _ c.args.seat.now.shares.1, learns _ _ _)

-- what the seat has with the delivery that it popped or had in hand
stands_at : (g : _) (c : After-take_in g) → Stands (view c.match-take.seat.1.1.0) c.args.seat.now.deliverer c.match-take.delivery
    (all_sent c.args.seat.now.rings.items)
stands_at g c =
    let s = c.args.seat.now in
    elim c.match-take.branch [
      | in-Some w ↦ stands_again _ _ _ _ _ _ _ s.collects_only s.shares.1 s.accounted (sym c.take.ensures.value ∙ w.in-Some.is)
          (ap (λ s. view s.1.1.0) w.seat-is) w.delivery-is
      | in-None+in-Some-pop_as w ↦ stands_popped _ _ _ _ _ _ _ s.collects_only s.shares.1 s.accounted (sym c.take.ensures.value ∙ w.in-None.is)
          (ap (λ s. view s.1.1.0) w.seat-is ∙ w.in-Some-pop_as.ensures.rule) w.delivery-is
    ]

pub invariant_of-seat-in-Ok : goal.invariant_of-seat-in-Ok
invariant_of-seat-in-Ok g c =
    let s = c.args.seat.now in
    let stands = stands_at g (goal.at.invariant_of-seat-in-Ok g c).After-take_in in
    record {
      idle_at_jobs = s.idle_at_jobs;
      shares = (s.shares.0, stands.share);
      collects_only = stands.pops_only;
      accounted = accounted_at _ _ _ _ _ c.take.ensures.after (accounted_taken _ _ _ _ _ stands.pending c.in-Ok.ensures.taken);
    }

pub invariant_of-seat-in-Err-NoMemory : goal.invariant_of-seat-in-Err-NoMemory
invariant_of-seat-in-Err-NoMemory g c =
    let s = c.args.seat.now in
    let stands = stands_at g (goal.at.invariant_of-seat-in-Err-NoMemory g c).After-take_in in
    let t = rw c.in-Err-NoMemory.field-0-is at c.in-Err-NoMemory.ensures.refused in
    record {
      idle_at_jobs = s.idle_at_jobs;
      shares = (s.shares.0, stands.share);
      collects_only = stands.pops_only;
      accounted = accounted_held _ _ _ _ _ _ stands.pending t.0 t.1 c.in-Err-NoMemory.ensures.unchanged;
    }

pub invariant_of-seat-in-Err-Stranger : goal.invariant_of-seat-in-Err-Stranger
invariant_of-seat-in-Err-Stranger g c =
    let s = c.args.seat.now in
    let stands = stands_at g (goal.at.invariant_of-seat-in-Err-Stranger g c).After-take_in in
    let t = rw c.in-Err-Stranger.field-0-is at c.in-Err-Stranger.ensures.refused in
    record {
      idle_at_jobs = s.idle_at_jobs;
      shares = (s.shares.0, stands.share);
      collects_only = stands.pops_only;
      accounted = accounted_at _ _ _ _ _ c.take.ensures.after (accounted_aside _ _ _ _ _ stands.pending t.0 c.in-Err-Stranger.ensures.unchanged);
    }
