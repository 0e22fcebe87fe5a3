-- Seats of a new hub have been given nothing and have polled nothing: for `serve_traffic`.
use Rattle.std.proofs.Common.{◌≡◌, ℕ, List, [], All, None, length, map, replicate, sym, ap, ◌∙◌, subst}
use Rattle.std.specs.List.{range_with_len}
use Rattle.lane_core.specs.Settling.{kept}
use Rattle.lane_core.specs.declared.job.Plain.{Plain}
use Rattle.hub_core.specs.Fresh.{HasDoneNothing}
use Rattle.hub_core.specs.Hubs.{IsLaneOf, shape_of}
use Rattle.hub_core.specs.Lanes.{lane_of, numbers_of, polled, submitted_rows}
use Rattle.hub_core.specs.inner.Traffics.{AreOwnSeats, given_to, polled_by_each}
use Rattle.hub_core.proofs.ListsOfLists.{all_empty}
use Rattle.hub_core.specs.declared.hub.Hub.{Hub}
use Rattle.hub_core.specs.declared.lane_seat.LaneSeat.{LaneSeat}

-- seats that have done nothing were given nothing and have polled nothing
pub came_fresh : (C : List (List (List ℕ)) → List (List Plain) → Type 0) (seats : List LaneSeat) (n : ℕ) → All HasDoneNothing seats → length seats ≡ n
    → C (replicate n []) (replicate n []) → C (given_to seats None) (polled_by_each seats)
came_fresh C seats n none count was =
    let rows : map submitted_rows seats ≡ replicate n [] =
    all_empty submitted_rows HasDoneNothing seats (λ s is. ap (map (λ (x : Plain). x.widths)) is.0) none ∙ ap (λ m. replicate m []) count in
    let polls : map polled seats ≡ replicate n [] =
    all_empty polled HasDoneNothing seats (λ s is. ap (kept (lane_of s) 0) is.1) none ∙ ap (λ m. replicate m []) count in
    subst (λ v. C v (polled_by_each seats)) (sym rows) (subst (λ v. C (replicate n []) v) (sym polls) was)

-- they are the hub's own, with the tickets of `shape_for`, and no row is in hand
pub serves_fresh : (h : Hub) (seats : List LaneSeat) (n : ℕ) → All (IsLaneOf h) seats → numbers_of seats ≡ range_with_len 0 n → (shape_of h).lanes ≡ n
    → (shape_of h).limit ≡ 4294967295 → AreOwnSeats h seats None
serves_fresh h seats n lanes numbers count limit = record {
  lanes = lanes;
  numbers = numbers ∙ ap (range_with_len 0) (sym count);
  limit = limit;
  room = tt;
}
