use Rattle.std.proofs.Common.{subst}
use Rattle.hub_core.specs.Polling.{IsPolled}
use Rattle.hub_core.specs.declared.lane_seat.LaneSeat.{LaneSeat}
use Rattle.hub_core.proofs.closed_lane.ClosedLane.poll.Goals as goal

pub returns : goal.returns
returns c = subst (λ (s : LaneSeat). IsPolled s c.poll.result c.poll.new.self) c.self.view_is c.poll.ensures
