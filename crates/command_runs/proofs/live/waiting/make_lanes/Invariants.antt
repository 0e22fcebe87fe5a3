-- Nothing has come of the lanes so far.
use Rattle.command_runs.proofs.live.Words.{AreFresh}
use Rattle.command_runs.proofs.live.waiting.make_lanes.Given as goal

abbrev pub invariant-loop-lane : goal.invariant-loop-lane
invariant-loop-lane l = AreFresh l._lane l.lanes.items
