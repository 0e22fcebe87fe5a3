-- Lanes, and the seats that they have.
use Rattle.std.proofs.Common.{◌≡◌, List, [], ◌∷◌, All, length, map, suc, zero, refl, sym, ap, ◌∙◌, subst, arith}
use Rattle.hub_core.specs.Hubs.{AreAllSeats, HasEach, IsDelivererOf, IsLaneOf, IsWorkerOf, shape_of}
use Rattle.hub_core.specs.Lanes.{lane_of, numbers_of}
use Rattle.hub_core.specs.declared.hub.Hub.{Hub}
use Rattle.hub_core.specs.declared.lane_seat.LaneSeat.{LaneSeat}
use Rattle.hub_core.specs.declared.worker_seat.WorkerSeat.{WorkerSeat}
use Rattle.hub_core.specs.declared.deliverer_seat.DelivererSeat.{DelivererSeat}
use Rattle.soak.specs.declared.Lane.{Lane}

numbers_are : (ls : List Lane) → numbers_of (map (λ l. l.seat) ls) ≡ map (λ l. lane_of l.seat) ls
numbers_are [] = refl
numbers_are (l ∷ ls) = ap (λ ns. lane_of l.seat ∷ ns) (numbers_are ls)

lanes_are : (h : Hub) (ls : List Lane) → All (λ l. IsLaneOf h l.seat) ls → All (IsLaneOf h) (map (λ l. l.seat) ls)
lanes_are h [] are k d low = absurd (omega arith)
lanes_are h (l ∷ ls) are zero d low = are zero l (omega arith)
lanes_are h (l ∷ ls) are (suc k) d low = lanes_are h ls (λ j e under. are (suc j) e (omega arith)) k d (omega arith)

pub seats_are : (h : Hub) (ls : List Lane) → All (IsLaneOf h) (map (λ l. l.seat) ls) → All (λ l. IsLaneOf h l.seat) ls
seats_are h [] are k d low = absurd (omega arith)
seats_are h (l ∷ ls) are zero d low = are zero l.seat (omega arith)
seats_are h (l ∷ ls) are (suc k) d low = seats_are h ls (λ j e under. are (suc j) e (omega arith)) k d (omega arith)

-- the seats are all seats of the hub still
pub all_seats_kept : (h : Hub) (ss : List LaneSeat) (ws vs : List WorkerSeat) (d e : DelivererSeat) (ls ms : List Lane)
    → AreAllSeats h ss ws d → map (λ l. l.seat) ls ≡ ss → map (λ l. lane_of l.seat) ms ≡ map (λ l. lane_of l.seat) ls → All (λ l. IsLaneOf h l.seat) ms
    → All (IsWorkerOf h) vs → length vs ≡ length ws → IsDelivererOf h e → AreAllSeats h (map (λ l. l.seat) ms) vs e
all_seats_kept h ss ws vs d e ls ms all is same lanes workers count deliverer =
    let numbers : numbers_of (map (λ l. l.seat) ms) ≡ numbers_of ss = numbers_are ms ∙ (same ∙ (sym (numbers_are ls) ∙ ap numbers_of is)) in
    record {
      lanes = lanes_are h ms lanes;
      workers = workers;
      deliverer = deliverer;
      each_lane = subst (HasEach (shape_of h).lanes) (sym numbers) all.each_lane;
      each_worker = count ∙ all.each_worker;
    }
