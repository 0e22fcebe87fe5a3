use Rattle.std.proofs.Common.{subst}
use Rattle.hub_core.specs.Lanes.{HasPolledInOrder}
use Rattle.hub_core.proofs.closed_lane.ClosedLane.issued.Goals as goal

pub returns-clause-polled : goal.returns-clause-polled
returns-clause-polled c = subst HasPolledInOrder c.self.view_is c.issued.ensures.polled
