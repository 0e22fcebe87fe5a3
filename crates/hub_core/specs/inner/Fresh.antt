-- Lanes, workers and rings as they are made for a new hub, and which ring is whose.
use Rattle.std.specs.Prelude.{◌≡◌, ◌<◌, ℕ, List, [], All, Option, Some, length, slice_get}
use Rattle.std.specs.List.{range_with_len}
use Rattle.crossbeam_queue.specs.Passes.{IsPassOf}
use Rattle.crossbeam_queue.specs.declared.array_queue.Doing.{Doing}
use Rattle.crossbeam_queue.specs.declared.array_queue.Slotted.{Slotted}
use Rattle.rtrb.specs.Ring.{IsPair, producer_capacity, sent}
use Rattle.lane_core.specs.declared.job.Plain.{Plain}
use Rattle.hub_core.specs.Fresh.{HasDoneNothing, HasWorkedNothing}
use Rattle.hub_core.specs.Lanes.{lane_of, numbers_of}
use Rattle.hub_core.specs.Rings.{PushEnd}
use Rattle.hub_core.specs.declared.lane_seat.LaneSeat.{LaneSeat}
use Rattle.hub_core.specs.declared.rule.Trace.{Trace}
use Rattle.hub_core.specs.declared.shape.Shape.{Shape}
use Rattle.hub_core.specs.declared.worker_seat.WorkerSeat.{WorkerSeat}

-- the numbers of a hub that serves a traffic, as `new_hub` has them: `CAPACITY`, and all tickets that there are
abbrev pub shape_for : ℕ → ℕ → Shape
shape_for lanes workers = record { lanes = lanes; workers = workers; capacity = 64; limit = 4294967295 }

-- a ring of this capacity that was sent nothing
abbrev pub IsUnsent : ℕ → PushEnd → Type 0
IsUnsent capacity r = (sent r ≡ []) × (producer_capacity r ≡ capacity)

-- the lane's ring is that of its number, which is there
abbrev pub IsPairedIn : List PushEnd → LaneSeat → Type 0
IsPairedIn rings s = (lane_of s < length rings) × ((r : PushEnd) → slice_get rings (lane_of s) ≡ Some r → IsPair r s.ring)

module _ {Q R A B : Type 0} where
  -- a worker of these queues that has done nothing
  abbrev pub IsNewWorker : Slotted (Option Plain) (Doing Plain Trace) Q A → Slotted (Option Plain) (Doing Plain Trace) R B → WorkerSeat → Type 0
  IsNewWorker jobs results s = IsPassOf jobs s.takes × IsPassOf results s.posts × HasWorkedNothing s

-- this many lanes that have done nothing, by lane, each with a ring of this capacity
pub record AreNewLanes {Q A : Type 0} (jobs : Slotted (Option Plain) (Doing Plain Trace) Q A) (count capacity : ℕ) (lanes : List LaneSeat)
    (ends : List PushEnd) : Type 0 where
  pub numbers : numbers_of lanes ≡ range_with_len 0 count
  pub seats : All (λ s. IsPassOf jobs s.pass × HasDoneNothing s) lanes
  pub rings : (length ends ≡ count) × All (IsUnsent capacity) ends
  pub paired : All (IsPairedIn ends) lanes

-- this many workers of these queues that have done nothing
pub record AreNewWorkers {Q R A B : Type 0} (jobs : Slotted (Option Plain) (Doing Plain Trace) Q A) (results : Slotted (Option Plain) (Doing Plain Trace) R B)
    (count : ℕ) (workers : List WorkerSeat) : Type 0 where
  pub number : length workers ≡ count
  pub seats : All (IsNewWorker jobs results) workers
