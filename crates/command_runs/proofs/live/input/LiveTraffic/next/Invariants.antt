-- The lines that were taken so far gave no row.
use Rattle.hub_core.specs.Traffics.{Stays}
use Rattle.command_runs.specs.inner.Came.{HasLived}
use Rattle.command_runs.proofs.live.input.LiveTraffic.next.Given as goal

abbrev pub invariant-lines : goal.invariant-lines
invariant-lines g l = Stays (HasLived g.W.Wire.Did g.W.Wire.read_failed g.W.Wire.write_failed g.W.Wire.at_end) l.fn.self l.self
