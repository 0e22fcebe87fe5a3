use Rattle.std.specs.List.{flat_map}
use Rattle.crossbeam_queue.specs.Passes.{view, IsPassOf}
use Rattle.hub_core.specs.inner.Rule.{JoinsPops, JoinsPushes}
use Rattle.hub_core.specs.inner.Workers.{deliveries_in_hand}
use Rattle.hub_core.specs.Workers.{posted, taken}
use Rattle.hub_core.specs.inner.DrainedLists.{DrainsInto}
use Rattle.hub_core.proofs.drain.place_hands.Given as goal

abbrev pub invariant-loop-seat : goal.invariant-loop-seat
invariant-loop-seat l = record {
  can : (goal.iterator-loop-seat).can_next l.seat-iterator;
  ends : (goal.iterator-loop-seat).is_finite l.seat-iterator;
  same_jobs : IsPassOf l.hub.jobs l.all_jobs;
  same_results : IsPassOf l.hub.results l.all_results;
  jobs : JoinsPops taken l.yielded (view l.initial.all_jobs) (view l.all_jobs);
  results : JoinsPushes posted l.yielded (view l.initial.all_results) (view l.all_results);
  drained : DrainsInto l.initial.lists.items l.lists.items (flat_map deliveries_in_hand l.yielded);
}
