use Rattle.hub_core.specs.inner.CallingThread.{GoesOn}
use Rattle.hub_core.proofs.calling_thread.CallingThread.bring_all.Given as goal

abbrev pub invariant-loop-i : goal.invariant-loop-i
invariant-loop-i g l = GoesOn g.T.Traffic.Came l.initial.self l.self
