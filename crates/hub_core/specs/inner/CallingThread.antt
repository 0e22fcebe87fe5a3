-- What stays true of the calling thread in each of its steps, and of the seats that it begins with and leaves: for `calling_thread.rt` and `traffic_serving.rt`.
use Rattle.std.specs.Prelude.{◌≡◌, ◌≤◌, ◌+◌, ℕ, All, Bool, true, List, Err, IfSome, None, Ok, Option, Result, length, option_to_list, vec_capacity, vec_len}
use Rattle.std.specs.declared.vec.Vec.{Vec}
use Rattle.std.proofs.Common.{Global}
use Rattle.hub_core.specs.Hubs.{IsDelivererOf, IsWorkerOf, shape_of}
use Rattle.hub_core.specs.Traffics.{AreFirstOf, History, IfLost, IsKept}
use Rattle.lane_core.specs.declared.job.Plain.{Plain}
use Rattle.hub_core.specs.inner.Traffics.{HavePolledAll, AreOwnSeats, given_to, polled_by_each}
use Rattle.hub_core.specs.declared.ended.Ended.{Ended}
use Rattle.hub_core.specs.declared.ended.Ended.TheVariants.{Done}
use Rattle.hub_core.specs.declared.hub.Hub.{Hub}
use Rattle.hub_core.specs.declared.lane_seat.LaneSeat.{LaneSeat}
use Rattle.hub_core.specs.declared.calling_thread.CallingThread.{CallingThread}
use Rattle.hub_core.specs.declared.deliverer_seat.DelivererSeat.{DelivererSeat}
use Rattle.hub_core.specs.declared.traffic_serving.Left.{Left}
use Rattle.hub_core.specs.declared.traffic_serving.Seats.{Seats}
use Rattle.hub_core.specs.declared.worker_seat.WorkerSeat.{WorkerSeat}

-- these are seats of the hub, and the traffic has come from its start by giving their rows and by being brought what they polled
pub record CameBySeats {T : Type 0} (Came : History T) (h : Hub) (seats : List LaneSeat) (d : DelivererSeat) (w : Option WorkerSeat)
    (held : Option (ℕ × List ℕ)) (start now : T) : Type 0 where
  pub lanes : AreOwnSeats h seats held
  pub deliverer : IsDelivererOf h d
  pub own : IfSome w (IsWorkerOf h)
  pub came : Came start now (given_to seats held) (polled_by_each seats)

-- `CameBySeats` of this thread: its seats, its row in hand, and its traffic
abbrev pub IsServing : {T : Type 0} → History T → CallingThread T → Type 0
IsServing came s = CameBySeats came s.hub.now s.lanes.items s.deliverer s.own s.held s.start.value s.traffic.value

-- it serves the same traffic by the same hub, with as many seats: `KeepsSeats` too, field by field
pub record GoesOn {T : Type 0} (Came : History T) (s t : CallingThread T) : Type 0 where
  pub hub : t.hub.now ≡ s.hub.now
  pub start : t.start.value ≡ s.start.value
  pub seats : length (option_to_list t.own) ≡ length (option_to_list s.own)
  pub serves : IsServing Came t

-- it has the seats of its hub still, and serves what it served: `GoesOn` without what the traffic has given and was brought
pub record KeepsSeats {T : Type 0} (s t : CallingThread T) : Type 0 where
  pub hub : t.hub.now ≡ s.hub.now
  pub start : t.start.value ≡ s.start.value
  pub seats : length (option_to_list t.own) ≡ length (option_to_list s.own)
  pub lanes : AreOwnSeats t.hub.now t.lanes.items t.held
  pub deliverer : IsDelivererOf t.hub.now t.deliverer
  pub own : IfSome t.own (IsWorkerOf t.hub.now)

-- the traffic had been brought the first of what these lanes have polled, and is what its `bring` left then
pub record WasLost {T : Type 0} (Came : History T) (Leaves : T → T → Type 0) (start now : T) (lanes : List LaneSeat) (held : Option (ℕ × List ℕ)) : Type 0 where
  pub before : T
  pub brought : List (List Plain)
  pub came : Came start before (given_to lanes held) brought
  pub first : AreFirstOf brought (polled_by_each lanes)
  pub left : Leaves before now

-- it has its seats still, and the delivery that it polled last is lost
pub record HasLost {T : Type 0} (Came : History T) (Leaves : T → T → Type 0) (s t : CallingThread T) : Type 0 where
  pub keeps : KeepsSeats s t
  pub lost : WasLost Came Leaves t.start.value t.traffic.value t.lanes.items t.held

-- a step of the thread: it goes on, or the delivery that it polled last is lost
abbrev pub TakesStep : {T X B : Type 0} → History T → (T → T → Type 0) → CallingThread T → Result X B → CallingThread T → Type 0
TakesStep came leaves s (Ok x) t = GoesOn came s t
TakesStep came leaves s (Err fault) t = HasLost came leaves s t

-- no row is in hand, and each that was submitted has come back
abbrev pub HasAllBack : {T : Type 0} → CallingThread T → Type 0
HasAllBack s = HavePolledAll s.lanes.items × (s.held ≡ None)

-- `HasAllBack`, and the thread's traffic gives nothing more
abbrev pub IsAtEnd : {T : Type 0} → (T → Bool) → CallingThread T → Type 0
IsAtEnd has_ended s = (has_ended s.traffic.value ≡ true) × HasAllBack s

-- by these lanes' seats the traffic has come from its start so far; at a regular end it gives nothing more, and all has come back
pub record WasServed {T W B : Type 0} (Came : History T) (has_ended : T → Bool) (h : Hub) (start now : T)
    (lanes : List LaneSeat) (ended : Ended W B) : Type 0 where
  pub held : Option (ℕ × List ℕ)
  pub serves : AreOwnSeats h lanes held
  pub came : Came start now (given_to lanes held) (polled_by_each lanes)
  pub done : ended ≡ Done → (has_ended now ≡ true) × HavePolledAll lanes × (held ≡ None)

-- all workers' seats of a hub; one may be apart, and there is room for it
pub record AreWorkers (h : Hub) (workers : Vec WorkerSeat Global) (apart : Option WorkerSeat) : Type 0 where
  pub are : All (IsWorkerOf h) workers.items
  pub own : IfSome apart (IsWorkerOf h)
  pub count : vec_len workers + length (option_to_list apart) ≡ (shape_of h).workers
  pub room : vec_len workers + length (option_to_list apart) ≤ vec_capacity workers

-- all seats of a hub, while its lanes are served (`AreAllSeats` of specs/Hubs says it where the hub is settled)
pub record AreSeats (h : Hub) (s : Seats) (held : Option (ℕ × List ℕ)) : Type 0 where
  pub serves : AreOwnSeats h s.lanes.items held
  pub workers : AreWorkers h s.workers s.own
  pub deliverer : IsDelivererOf h s.deliverer

-- all lanes' seats came back, and by them the traffic is as `WasLost` says
abbrev pub AreLeftLost : {T : Type 0} → History T → (T → T → Type 0) → Hub → T → T → List LaneSeat → Type 0
AreLeftLost came leaves h start now lanes = (held : Option (ℕ × List ℕ)) × AreOwnSeats h lanes held × WasLost came leaves start now lanes held

-- how the thread has run: it has its seats still, and serves what it served, to the end of that; or the delivery that it polled last is lost
pub record EndsServing {T W B : Type 0} (Came : History T) (Leaves : T → T → Type 0) (has_ended : T → Bool) (s t : CallingThread T) (ended : Ended W B)
    : Type 0 where
  pub seats : KeepsSeats s t
  pub serves : IsKept ended → GoesOn Came s t
  pub lost : IfLost ended (HasLost Came Leaves s t)
  pub done : ended ≡ Done → IsAtEnd has_ended t

-- what the calling thread leaves: its seats, by which the traffic was served
pub record HasLeft {T W B : Type 0} (Came : History T) (Leaves : T → T → Type 0) (has_ended : T → Bool) (h : Hub) (own : Option WorkerSeat) (start : T)
    (l : Left T) (ended : Ended W B) : Type 0 where
  pub seats : IsDelivererOf h l.deliverer × IfSome l.own (IsWorkerOf h) × (length (option_to_list l.own) ≡ length (option_to_list own))
  pub lanes : (held : Option (ℕ × List ℕ)) × AreOwnSeats h l.lanes.items held
  pub served : IsKept ended → WasServed Came has_ended h start l.traffic.value l.lanes.items ended
  pub lost : IfLost ended (AreLeftLost Came Leaves h start l.traffic.value l.lanes.items)

-- all seats came back, and by them the traffic was served
pub record HaveServed {T W B : Type 0} (Came : History T) (Leaves : T → T → Type 0) (has_ended : T → Bool) (h : Hub) (start now : T) (s : Seats)
    (ended : Ended W B) : Type 0 where
  pub seats : (held : Option (ℕ × List ℕ)) × AreSeats h s held
  pub served : IsKept ended → WasServed Came has_ended h start now s.lanes.items ended
  pub lost : IfLost ended (AreLeftLost Came Leaves h start now s.lanes.items)
