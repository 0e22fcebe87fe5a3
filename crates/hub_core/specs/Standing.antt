-- The parts of a hub as a state of the machine of lane_core.
use Rattle.std.specs.Prelude.{◌≡◌, ℕ, List, ◌++◌, All, true, Some, length, map, slice_get}
use Rattle.std.specs.List.{flat_map}
use Rattle.lane_core.specs.Machine.{State, lane_state}
use Rattle.lane_core.specs.Weights.{OneForOne}
use Rattle.lane_core.specs.Whereabouts.{EachOnce}
use Rattle.hub_core.specs.Lanes.{lane_of, polled, polled_count, received, submitted}
use Rattle.hub_core.specs.Hubs.{shape_of, year_of}
use Rattle.hub_core.specs.Workers.{delivery_in_hand, posted, taken}
use Rattle.hub_core.specs.Delivering.{collected, buffer_of, hand_of, handed, taken_in}
use Rattle.hub_core.specs.declared.hub.Hub.{Hub}
use Rattle.hub_core.specs.declared.lane_seat.LaneSeat.{LaneSeat}
use Rattle.hub_core.specs.declared.worker_seat.WorkerSeat.{WorkerSeat}
use Rattle.hub_core.specs.declared.deliverer_seat.DelivererSeat.{DelivererSeat}

-- the state that these parts are: its queues hold what was pushed and not popped, and what is in the deliverer's hand waits
pub record StandsFor (s : State) (h : Hub) (ls : List LaneSeat) (ws : List WorkerSeat) (d : DelivererSeat) : Type 0 where
  pub year : s.year ≡ year_of h
  pub count : length s.lanes ≡ (shape_of h).lanes
  pub lanes : (i : ℕ) (v : LaneSeat) → slice_get ls i ≡ Some v → slice_get s.lanes (lane_of v)
      ≡ Some (lane_state (submitted v) true (polled_count v) (length (handed d (lane_of v))))
  pub jobs : OneForOne (flat_map submitted ls) (flat_map taken ws) s.jobs
  pub workers : s.workers ≡ map delivery_in_hand ws
  pub results : OneForOne (flat_map posted ws) (collected d) s.results
  pub waiting : s.waiting ≡ (buffer_of d).waiting ++ hand_of d

-- the parts are a state of the machine in which each ticket is in one place; no lane has dropped a delivery, and the deliverer has set none aside
pub record IsWhole (h : Hub) (ls : List LaneSeat) (ws : List WorkerSeat) (d : DelivererSeat) : Type 0 where
  pub state : (s : State) × StandsFor s h ls ws d × EachOnce s
  pub none_dropped : All (λ lane. polled lane ≡ received lane) ls
  pub none_aside : taken_in d ≡ collected d
