use Rattle.std.proofs.Common.{◌≡◌, ◌++◌}
use Rattle.std.specs.List.{All}
use Rattle.std.specs.Vec.Iter.{into_iter_items}
use Rattle.crossbeam_queue.specs.Passes.{view, IsPassOf}
use Rattle.hub_core.specs.inner.DrainedLists.{Drains}
use Rattle.hub_core.specs.inner.Fresh.{IsPairedIn}
use Rattle.hub_core.specs.Lanes.{submitted}
use Rattle.hub_core.specs.inner.Draining.{AreFromFirst, AreLeftInRings}
use Rattle.hub_core.specs.Rings.{AreSameEnds, all_sent}
use Rattle.hub_core.specs.inner.Rule.{JoinsPushes}
use Rattle.hub_core.proofs.drain.place_rings.Given as goal

abbrev pub invariant-loop-closed : goal.invariant-loop-closed
invariant-loop-closed l = record {
  can : (goal.iterator-loop-closed).can_next l.closed-iterator;
  ends : (goal.iterator-loop-closed).is_finite l.closed-iterator;
  same : IsPassOf l.hub.jobs l.all_jobs;
  all : l.yielded ++ into_iter_items l.closed-iterator ≡ into_iter_items l.initial.closed-iterator;
  left : All (IsPairedIn l.initial.rings.items) (into_iter_items l.closed-iterator);
  jobs : JoinsPushes submitted l.yielded (view l.initial.all_jobs) (view l.all_jobs);
  rings : AreSameEnds l.initial.rings.items l.rings.items;
  sent : all_sent l.rings.items ≡ all_sent l.initial.rings.items;
  drained : Drains l.initial.lists.items l.lists.items (AreLeftInRings l.initial.rings.items l.yielded);
  received : AreFromFirst l.initial.rings.items l.yielded;
}
