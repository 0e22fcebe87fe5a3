-- The seats of all lanes of a hub that serves a traffic: what they were given and have polled.
use Rattle.std.specs.Prelude.{◌≡◌, ℕ, List, All, map, IfSome, Option, Some, None}
use Rattle.std.specs.List.{range_with_len}
use Rattle.lane_core.specs.declared.job.Plain.{Plain}
use Rattle.hub_core.specs.Hubs.{IsLaneOf, shape_of}
use Rattle.hub_core.specs.Lanes.{numbers_of, polled, polled_count, issued_count, submitted_rows}
use Rattle.hub_core.specs.declared.hub.Hub.{Hub}
use Rattle.hub_core.specs.declared.lane_seat.LaneSeat.{LaneSeat}
use Rattle.hub_core.specs.Traffics.{with_more, HasRoom}

-- the lists with the row that is in hand
abbrev pub with_held : Option (ℕ × List ℕ) → List (List (List ℕ)) → List (List (List ℕ))
with_held None lists = lists
with_held (Some r) lists = with_more r.0 r.1 lists

-- the rows of each lane that were given to these seats: those submitted, and the one in hand
abbrev pub given_to : List LaneSeat → Option (ℕ × List ℕ) → List (List (List ℕ))
given_to seats held = with_held held (map submitted_rows seats)

-- the deliveries that each lane has polled
abbrev pub polled_by_each : List LaneSeat → List (List Plain)
polled_by_each seats = map polled seats

-- the seats of all lanes of this hub, by lane, with the tickets of `shape_for`, and a row in hand for which its lane has one
pub record AreOwnSeats (h : Hub) (seats : List LaneSeat) (held : Option (ℕ × List ℕ)) : Type 0 where
  pub lanes : All (IsLaneOf h) seats
  pub numbers : numbers_of seats ≡ range_with_len 0 (shape_of h).lanes
  pub limit : (shape_of h).limit ≡ 4294967295
  pub room : IfSome held (λ r. HasRoom r.0 (map submitted_rows seats))

-- each ticket that was issued was polled
abbrev pub HavePolledAll : List LaneSeat → Type 0
HavePolledAll seats = All (λ s. polled_count s ≡ issued_count s) seats
