use Rattle.hub_core.specs.inner.CallingThread.{GoesOn}
use Rattle.hub_core.proofs.calling_thread.CallingThread.run.Given as goal

abbrev pub invariant-loop : goal.invariant-loop
invariant-loop g l = record {
  can : (goal.iterator-loop g).can_next l.iterator';
  ends : (goal.iterator-loop g).is_finite l.iterator';
  goes : GoesOn g.T.Traffic.Came l.fn.self l.thread;
}
