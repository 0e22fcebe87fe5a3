use Rattle.std.proofs.Common.{◌≡◌, All, length}
use Rattle.crossbeam_queue.specs.Passes.{view, IsPassOf}
use Rattle.hub_core.specs.inner.Fresh.{IsNewWorker}
use Rattle.hub_core.specs.inner.Rule.{IsCut}
use Rattle.hub_core.proofs.parts.make_workers.Given as goal

abbrev pub invariant-loop-i : goal.invariant-loop-i
invariant-loop-i l = record {
  of_jobs : IsPassOf l.jobs l.all_jobs;
  of_results : IsPassOf l.results l.all_results;
  left_jobs : IsCut l._i (view l.initial.all_jobs) (view l.all_jobs);
  left_results : IsCut l._i (view l.initial.all_results) (view l.all_results);
  count : length l.seats.items ≡ l._i;
  seats : All (IsNewWorker l.jobs l.results) l.seats.items;
}
