use Rattle.std.proofs.Common.{◌≡◌}
use Rattle.crossbeam_queue.specs.Passes.{IsPassOf}
use Rattle.hub_core.specs.Passes.{shares_of, popped_by, pushed_by}
use Rattle.lane_core.specs.Weights.{OneForOne}
use Rattle.hub_core.specs.inner.DrainedLists.{Drains}
use Rattle.hub_core.proofs.drain.place_queue.Given as goal

abbrev pub invariant-loop : goal.invariant-loop
invariant-loop g l = record {
  can : (goal.iterator-loop g).can_next l.iterator';
  ends : (goal.iterator-loop g).is_finite l.iterator';
  same : IsPassOf l.queue l.all;
  whole : shares_of l.all ≡ 1024;
  put : pushed_by l.all ≡ pushed_by l.initial.all;
  drained : Drains l.initial.lists.items l.lists.items (OneForOne (popped_by l.all) (popped_by l.initial.all));
}
