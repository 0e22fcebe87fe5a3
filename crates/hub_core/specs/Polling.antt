-- What a lane's seat is after a poll.
use Rattle.std.specs.Prelude.{◌≡◌, MatchOption, None, Option}
use Rattle.lane_core.specs.declared.job.Plain.{Plain}
use Rattle.hub_core.specs.Hubs.{IsLaneOf}
use Rattle.hub_core.specs.Lane.{with_delivery}
use Rattle.hub_core.specs.Lanes.{Polls, as_lane, issued_count, lane_of, polled_count, submitted}
use Rattle.hub_core.specs.declared.hub.Hub.{Hub}
use Rattle.hub_core.specs.declared.lane_seat.LaneSeat.{LaneSeat}

-- its lane has polled this delivery, or nothing; if all that it issued was polled, nothing has changed
pub record IsPolled (s : LaneSeat) (result : Option Plain) (t : LaneSeat) : Type 0 where
  pub seen : MatchOption result (as_lane t ≡ as_lane s) (λ x. as_lane t ≡ with_delivery (as_lane s) x)
  pub polls : Polls s result t
  pub finished : polled_count s ≡ issued_count s → (result ≡ None) × (t ≡ s)
  pub lane : lane_of t ≡ lane_of s
  pub submits : submitted t ≡ submitted s
  pub of_hub : (h : Hub) → IsLaneOf h s → IsLaneOf h t
