-- What a deliverer's seat is after it has collected or handed.
use Rattle.std.specs.Prelude.{◌≡◌, ℕ}
use Rattle.hub_core.specs.Delivering.{Collects, Hands, lane_count}
use Rattle.hub_core.specs.Hubs.{IsDelivererOf}
use Rattle.hub_core.specs.declared.deliverer_seat.Collected.{Collected}
use Rattle.hub_core.specs.declared.deliverer_seat.DelivererSeat.{DelivererSeat}
use Rattle.hub_core.specs.declared.deliverer_seat.Handed.{Handed}
use Rattle.hub_core.specs.declared.hub.Hub.{Hub}

-- its lists have grown as the answer of `collect` says, and it is the hub's deliverer still
pub record IsCollected (h : Hub) (s : DelivererSeat) (answer : Collected) (t : DelivererSeat) : Type 0 where
  pub collects : Collects s answer t
  pub lanes : lane_count t ≡ lane_count s
  pub of_hub : IsDelivererOf h t

-- its lists have grown as the answer of `hand` says, and it is the deliverer of each hub that it was of
pub record IsHanded (s : DelivererSeat) (lane : ℕ) (answer : Handed) (t : DelivererSeat) : Type 0 where
  pub hands : Hands s lane answer t
  pub lanes : lane_count t ≡ lane_count s
  pub of_hub : (h : Hub) → IsDelivererOf h s → IsDelivererOf h t
