-- The counts of the seat that was closed.
use Rattle.std.proofs.Common.{◌≡◌, ◌==◌, subst}
use Rattle.hub_core.specs.Lanes.{issued_count, polled_count}
use Rattle.hub_core.specs.declared.lane_seat.LaneSeat.{LaneSeat}
use Rattle.hub_core.proofs.closed_lane.ClosedLane.is_done.Goals as goal

pub returns : goal.returns
returns c =
    let s = c.self.inside.seat in
    subst (λ (t : LaneSeat). (s.polled == s.issued) ≡ (polled_count t == issued_count t)) c.self.view_is (λ i. s.polls_counted i == s.counted i)
