-- What was found in the rings, and in all: for `drain.rt`.
use Rattle.std.specs.Prelude.{◌≡◌, ◌+◌, ◌++◌, ℕ, List, [], All, slice_index_or}
use Rattle.std.specs.List.{flat_map, sum_by}
use Rattle.lane_core.specs.declared.job.Plain.{Plain}
use Rattle.lane_core.specs.Weights.{OneForOne}
use Rattle.hub_core.specs.Delivering.{collected, buffer_of, hand_of}
use Rattle.hub_core.specs.Lanes.{lane_of, numbers_of, received, submitted}
use Rattle.hub_core.specs.Rings.{PushEnd, all_sent}
use Rattle.hub_core.specs.inner.DrainedLists.{DrainsInto, Listed}
use Rattle.hub_core.specs.inner.Workers.{deliveries_in_hand}
use Rattle.hub_core.specs.Workers.{posted, taken}
use Rattle.hub_core.specs.declared.lane_seat.LaneSeat.{LaneSeat}
use Rattle.hub_core.specs.declared.worker_seat.WorkerSeat.{WorkerSeat}
use Rattle.hub_core.specs.declared.deliverer_seat.DelivererSeat.{DelivererSeat}

-- what came out of each lane's ring is the first of what the lane was sent
abbrev pub AreFromFirst : List PushEnd → List LaneSeat → Type 0
AreFromFirst rings lanes = All (λ s. (left : List Plain) × (received s ++ left ≡ slice_index_or (all_sent rings) (lane_of s) [])) lanes

-- the sum over all that came out of the rings of these lanes
abbrev pub all_received : (Plain → ℕ) → List LaneSeat → ℕ
all_received h lanes = sum_by (λ s. sum_by h (received s)) lanes

-- the sum over all that the lanes of these numbers were sent
abbrev pub to_lanes : (Plain → ℕ) → List PushEnd → List ℕ → ℕ
to_lanes h rings numbers = sum_by (λ l. sum_by h (slice_index_or (all_sent rings) l [])) numbers

-- these deliveries are what is left in the rings of these lanes
abbrev pub AreLeftInRings : List PushEnd → List LaneSeat → List Plain → Type 0
AreLeftInRings rings lanes xs = (h : Plain → ℕ) → sum_by h xs + all_received h lanes ≡ to_lanes h rings (numbers_of lanes)

-- what was found of all that the lanes had not polled: the jobs and the results of the queues, and all of it
pub record Finds (ls : List LaneSeat) (ws : List WorkerSeat) (d : DelivererSeat) (queued_jobs queued_results found : List Plain) : Type 0 where
  pub jobs : OneForOne (flat_map submitted ls) (flat_map taken ws) queued_jobs
  pub results : OneForOne (flat_map posted ws) (collected d) queued_results
  pub first : AreFromFirst d.rings.items ls
  pub whole : (h : Plain → ℕ) → sum_by h found + all_received h ls
      ≡ ((((sum_by h queued_jobs + sum_by h (flat_map deliveries_in_hand ws)) + sum_by h queued_results) + sum_by h (buffer_of d).waiting) + sum_by h (hand_of d)) +
      to_lanes h d.rings.items (numbers_of ls)

-- all that was found went into the lists
abbrev pub DrainsAll : List LaneSeat → List WorkerSeat → DelivererSeat → List Listed → List Listed → Type 0
DrainsAll ls ws d old new = (jobs results found : List Plain) × Finds ls ws d jobs results found × DrainsInto old new found
