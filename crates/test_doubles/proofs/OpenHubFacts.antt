-- All seats of a hub: one of which was used, or all of them in the other order.
use Rattle.std.proofs.Common.{◌≡◌, ◌==◌, ℕ, ◌+◌, ◌-◌, ◌<◌, All, Option, List, [], ◌∷◌, get_or, length, map, reverse, set, sym, ap, ◌∙◌, subst, arith}
use mathlib.Core.List.{reverse_aux}
use Rattle.std.specs.List.{sum_by}
use Rattle.std.proofs.Math.Seq.{map-set_same}
use Rattle.std.proofs.lemmas.List.{get_or-reverse, length-map, length-reverse}
use Rattle.std.proofs.lemmas.List.Elements.{All-set}
use Rattle.std.proofs.lemmas.List.Sums.{sum_by-cons}
use Rattle.hub_core.specs.Delivering.{lane_count}
use Rattle.lane_core.specs.Weights.{once}
use Rattle.lane_core.specs.declared.job.Plain.{Plain}
use Rattle.hub_core.specs.Hubs.{AreAllSeats, HasEach, IsDelivererOf, IsLaneOf, IsWorkerOf, shape_of}
use Rattle.hub_core.specs.Lanes.{lane_of, numbers_of}
use Rattle.hub_core.specs.Polling.{IsPolled}
use Rattle.hub_core.specs.declared.hub.Hub.{Hub}
use Rattle.hub_core.specs.declared.lane_seat.LaneSeat.{LaneSeat}
use Rattle.hub_core.specs.declared.worker_seat.WorkerSeat.{WorkerSeat}
use Rattle.hub_core.specs.declared.deliverer_seat.DelivererSeat.{DelivererSeat}

pub lane_used : (h : Hub) (ls : List LaneSeat) (ws : List WorkerSeat) (d : DelivererSeat) (i : ℕ) (s t : LaneSeat)
    → lane_of t ≡ lane_of (get_or ls i s) → IsLaneOf h t → AreAllSeats h ls ws d → AreAllSeats h (set ls i t) ws d
lane_used h ls ws d i s t same is all = record {
  lanes = All-set (IsLaneOf h) ls i t is all.lanes;
  workers = all.workers;
  deliverer = all.deliverer;
  each_lane = subst (HasEach (shape_of h).lanes) (sym (map-set_same lane_of ls i t s same)) all.each_lane;
  each_worker = all.each_worker;
}

-- one lane's seat was polled
pub lane_polled : (h : Hub) (ls : List LaneSeat) (ws : List WorkerSeat) (d : DelivererSeat) (i : ℕ) (s t : LaneSeat) (x : Option Plain)
    → i < length ls → s ≡ get_or ls i s → IsPolled s x t → AreAllSeats h ls ws d → AreAllSeats h (set ls i t) ws d
lane_polled h ls ws d i s t x low at polled all = lane_used h ls ws d i s t (polled.lane ∙ ap lane_of at)
    (polled.of_hub h (subst (IsLaneOf h) (sym at) (all.lanes i s low))) all

-- each seat's number, from the last seat to the first
sum_turned : {X : Type 0} (h : ℕ → ℕ) (g : X → ℕ) (xs ys : List X) → sum_by h (map g (reverse_aux xs ys)) ≡ sum_by h (map g xs) + sum_by h (map g ys)
sum_turned h g [] ys = omega arith
sum_turned h g (x ∷ xs) ys = omega (arith, sum_by-cons h (g x) (map g xs), sum_by-cons h (g x) (map g ys), sum_turned h g xs (x ∷ ys))

all_turned : {X : Type 0} (P : X → Type 0) (xs : List X) → All P xs → All P (reverse xs)
all_turned P xs all k d low =
    let below : k < length xs = subst (λ n. k < n) (length-reverse xs) low in
    subst P (sym (get_or-reverse xs k d below)) (all (length xs - 1 - k) d (omega (arith, below)))

pub seats_turned : (h : Hub) (ls : List LaneSeat) (ws : List WorkerSeat) (d : DelivererSeat) → AreAllSeats h ls ws d → AreAllSeats h (reverse ls) (reverse ws) d
seats_turned h ls ws d all = record {
  lanes = all_turned (IsLaneOf h) ls all.lanes;
  workers = all_turned (IsWorkerOf h) ws all.workers;
  deliverer = all.deliverer;
  each_lane = λ l. omega (arith, sum_turned (λ k. once (k == l)) lane_of ls [], all.each_lane l);
  each_worker = length-reverse ws ∙ all.each_worker;
}

-- the same lanes and as many workers, after a turn of all
pub seats_kept : (h : Hub) (ls ls' : List LaneSeat) (ws ws' : List WorkerSeat) (d d' : DelivererSeat)
    → numbers_of ls' ≡ numbers_of ls → All (IsLaneOf h) ls' → All (IsWorkerOf h) ws' → length ws' ≡ length ws → IsDelivererOf h d' → AreAllSeats h ls ws d
    → AreAllSeats h ls' ws' d'
seats_kept h ls ls' ws ws' d d' numbers lanes workers count deliverer all = record {
  lanes = lanes;
  workers = workers;
  deliverer = deliverer;
  each_lane = subst (HasEach (shape_of h).lanes) (sym numbers) all.each_lane;
  each_worker = count ∙ all.each_worker;
}

pub count_kept : (h : Hub) (ls ls' : List LaneSeat) (d d' : DelivererSeat) → numbers_of ls' ≡ numbers_of ls → IsDelivererOf h d → IsDelivererOf h d' → length ls
    ≡ lane_count d → length ls' ≡ lane_count d'
count_kept h ls ls' d d' numbers before after count = sym (length-map ls' lane_of)
    ∙ (ap length numbers ∙ (length-map ls lane_of ∙ (count ∙ (before.lanes ∙ sym after.lanes))))
