use Rattle.hub_core.specs.Hubs.{IsWorkerOf}
use Rattle.hub_core.proofs.worker_threads.run_worker.Given as goal

abbrev pub invariant-loop : goal.invariant-loop
invariant-loop g l = record {
  can : (goal.iterator-loop g).can_next l.iterator';
  ends : (goal.iterator-loop g).is_finite l.iterator';
  seat : IsWorkerOf l.hub l.seat;
}
