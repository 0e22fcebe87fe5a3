-- The parts of a hub as a state of the machine in which nothing is lost: what `Hub::settle` and `Hub::finish` share.
use Rattle.std.proofs.Common.{◌≡◌, ◌≢◌, ⊎_elim, ℕ, ◌+◌, ◌<◌, ◌≤◌, ◌==◌, cond, nat_lt, true, zero, suc, List, [], ◌∷◌, ◌++◌, append_assoc, drop, get_or, length, length-append, map, take, Option, Some, None, option_to_list, refl, sym, ap, ◌∙◌, subst, arith}
use Rattle.std.specs.List.{All, flat_map, range_with_len, slice_get, sum_by, count_by}
use Rattle.std.proofs.lemmas.Bool.{cases_eq, cases_lt, eq-eqb, ne_eqb}
use Rattle.std.proofs.lemmas.List.{length-take, take-append-drop}
use Rattle.std.proofs.lemmas.List.FromFn.{get_or-map-range_with_len, length-map-range_with_len}
use Rattle.std.proofs.lemmas.Option.{same_Some, slice_get-get_or, slice_get_past}
use Rattle.std.proofs.lemmas.List.Sums.{sum_by-append, sum_by-cons}
use Rattle.lane_core.specs.declared.job.Plain.{Plain}
use Rattle.lane_core.specs.Machine.{LaneState, State, lane_state, of_lane, state}
use Rattle.lane_core.specs.Settling.{Account, AllFound, KeptWhole, ReceivedFirst}
use Rattle.lane_core.specs.Tickets.{numbered}
use Rattle.lane_core.specs.Weights.{OneForOne, once}
use Rattle.lane_core.specs.Whereabouts.{NothingLost, LostIsNone}
use Rattle.lane_core.proofs.ListFacts.{get_back, get_map}
use Rattle.hub_core.specs.declared.deliverer_seat.DelivererSeat.{DelivererSeat}
use Rattle.hub_core.specs.declared.hub.Hub.{Hub}
use Rattle.hub_core.specs.declared.lane_seat.LaneSeat.{LaneSeat}
use Rattle.hub_core.specs.declared.worker_seat.WorkerSeat.{WorkerSeat}
use Rattle.hub_core.specs.Delivering.{collected, buffer_of, hand_of, handed, lane_count, taken_in}
use Rattle.hub_core.specs.Hubs.{AreAllSeats, HasEach, IsLaneOf, shape_of, year_of}
use Rattle.hub_core.specs.Lanes.{lane_of, numbers_of, polled, polled_count, received, submitted}
use Rattle.hub_core.specs.inner.Draining.{AreFromFirst, Finds}
use Rattle.hub_core.specs.Rings.{PushEnd, all_sent}
use Rattle.hub_core.specs.inner.Sums.{sum_all}
use Rattle.hub_core.specs.Standing.{StandsFor, IsWhole}
use Rattle.hub_core.specs.Workers.{delivery_in_hand, posted, taken}
use Rattle.hub_core.specs.inner.Workers.{deliveries_in_hand}
use Rattle.hub_core.proofs.SeatsAsLanes.{PolledFirst}
use Rattle.hub_core.proofs.UnpolledIsCounted.{at_least}
use Rattle.hub_core.proofs.EachNumberOnce.{sum_each}
use Rattle.lane_core.proofs.TruthFacts.{once_le}
use Rattle.hub_core.proofs.ListsByPlace.{all_at}
use Rattle.hub_core.proofs.SumFacts.{sum_by-map, sum_same, sum_by-flat_map, sum_by_places}
use Rattle.lane_core.proofs.TicketFacts.{numbered_front}

-- no lane has two seats
pub one_seat_a_lane : (n : ℕ) (ls : List LaneSeat) → HasEach n (numbers_of ls) → (l : ℕ) → count_by (λ (s : LaneSeat). lane_of s == l) ls ≤ 1
one_seat_a_lane n ls each l = subst (λ m. m ≤ 1) (sym (each l) ∙ sum_by-map (λ k. once (k == l)) (λ (s : LaneSeat). lane_of s) ls) (once_le (nat_lt l n))

-- all lanes of a hub, by number or by seat
pub by_seat : (n : ℕ) (ls : List LaneSeat) → HasEach n (numbers_of ls) → (F : ℕ → ℕ) → sum_by (λ (s : LaneSeat). F (lane_of s)) ls
    ≡ sum_by F (range_with_len 0 n)
by_seat n ls each F = sym (sum_by-map F (λ (s : LaneSeat). lane_of s) ls) ∙ sum_each n (numbers_of ls) each F

-- what the workers have taken they have posted, or have in hand
hands_whole : (ws : List WorkerSeat) → OneForOne (flat_map taken ws) (flat_map posted ws) (flat_map deliveries_in_hand ws)
hands_whole [] h = refl
hands_whole (w ∷ ws) h =
    let a = ap (sum_by h) w.none_lost in
    omega (
      arith,
      hands_whole ws h,
      sum_by-append h (taken w) (flat_map taken ws),
      sum_by-append h (posted w) (flat_map posted ws),
      sum_by-append h
          (deliveries_in_hand w) (flat_map deliveries_in_hand ws),
      sum_by-append h (posted w) (deliveries_in_hand w),
    )

-- all that the lanes have submitted: in the queues, the hands and what waits, or sent to a lane
abbrev pub IsAllSubmitted : List LaneSeat → List WorkerSeat → DelivererSeat → List Plain → List Plain → Type 0
IsAllSubmitted ls ws d jobs results = (g : Plain → ℕ) → sum_by (λ (s : LaneSeat). sum_by g (submitted s)) ls
    ≡ ((((sum_by g jobs + sum_by g (flat_map deliveries_in_hand ws)) + sum_by g results) + sum_by g (buffer_of d).waiting) + sum_by g (hand_of d)) + sum_all g
    (all_sent d.rings.items)

-- what all lanes were handed is all that was sent
abbrev pub IsAllSent : List LaneSeat → DelivererSeat → Type 0
IsAllSent ls d = (g : Plain → ℕ) → sum_by (λ (s : LaneSeat). sum_by g (handed d (lane_of s))) ls ≡ sum_all g (all_sent d.rings.items)

-- what all parts of a hub are, and where all that was submitted is
pub record Whole (ls : List LaneSeat) (ws : List WorkerSeat) (d : DelivererSeat) (jobs results : List Plain) : Type 0 where
  pub each : HasEach (lane_count d) (numbers_of ls)
  pub low : (i : ℕ) (s : LaneSeat) → slice_get ls i ≡ Some s → lane_of s < lane_count d
  pub long : length (all_sent d.rings.items) ≡ lane_count d
  pub aside : taken_in d ≡ collected d
  pub sum : IsAllSubmitted ls ws d jobs results
  pub sent : IsAllSent ls d
  pub polled : (i : ℕ) (s : LaneSeat) → slice_get ls i ≡ Some s → (polled s ≡ received s) × (polled_count s ≤ length (handed d (lane_of s)))
  pub handed : (i : ℕ) (s : LaneSeat) → slice_get ls i ≡ Some s → take (length (handed d (lane_of s))) (submitted s) ≡ handed d (lane_of s)

-- a lane's account, for the laws of lane_core: by what it received, and by what it was handed
abbrev account : LaneSeat → Account
account s = record { lane = lane_of s; submitted = submitted s; received = received s }

abbrev handed_account : DelivererSeat → LaneSeat → Account
handed_account d s = record { lane = lane_of s; submitted = submitted s; received = handed d (lane_of s) }

-- what one lane received is the first of what it was sent
received_at : (rings : List PushEnd) (ls : List LaneSeat) (i : ℕ) (s : LaneSeat) → AreFromFirst rings ls → slice_get ls i ≡ Some s
    → (left : List Plain) × (received s ++ left ≡ get_or (all_sent rings) (lane_of s) [])
received_at rings ls i s all e = all_at (λ (v : LaneSeat). (left : List Plain) × (received v ++ left ≡ get_or (all_sent rings) (lane_of v) [])) ls i s all e

-- all that `Whole` says, by the laws `all_found`, `received_first` and `kept_whole`
whole_from : (h : Hub) (ls : List LaneSeat) (ws : List WorkerSeat) (d : DelivererSeat) (jobs results found : List Plain)
    → AllFound → ReceivedFirst → KeptWhole → AreAllSeats h ls ws d → Finds ls ws d jobs results found → Whole ls ws d jobs results
whole_from h ls ws d jobs results found all_found received_first kept_whole seats finds =
    let n = lane_count d in
    let count : (shape_of h).lanes ≡ n = sym seats.deliverer.lanes in
    let each : HasEach n (numbers_of ls) = subst (λ m. HasEach m (numbers_of ls)) count seats.each_lane in
    let low : (i : ℕ) (s : LaneSeat) → slice_get ls i ≡ Some s → lane_of s < n = λ i s e. let less =
    (all_at (IsLaneOf h) ls i s seats.lanes e).lane in omega arith in
    let giving = d.accounted.giving in
    let one = one_seat_a_lane n ls each in
    let found_all = all_found n (map account ls) (flat_map taken ws) (flat_map posted ws) (collected d) jobs (flat_map deliveries_in_hand ws) results
    (buffer_of d).waiting (hand_of d) (λ g. sum_all g (all_sent d.rings.items))
    (λ i a e. let p = get_back account ls i a e in subst (λ (b : Account). numbered b.lane 0 b.submitted ≡ true) p.2 p.0.in_order)
    (λ i a e. let p = get_back account ls i a e in subst (λ (b : Account). b.lane < n) p.2 (low i p.0 p.1))
    (λ l. subst (λ m. m ≤ 1) (sym (sum_by-map (λ (a : Account). once (a.lane == l)) account ls)) (one l))
    (λ g. sum_by-map (λ (a : Account). sum_by g a.submitted) account ls ∙ (sym (sum_by-flat_map g (λ (s : LaneSeat). submitted s) ls) ∙ finds.jobs g))
    (hands_whole ws)
    finds.results
    d.accounted.none_lost in
    let sum : IsAllSubmitted ls ws d jobs results = λ g.
    sym (sum_by-map (λ (a : Account). sum_by g a.submitted) account ls) ∙ found_all.1 g in
    let sent : IsAllSent ls d = λ g.
    by_seat n ls each (λ l. sum_by g (handed d l)) ∙ sum_by_places (sum_by g) (all_sent d.rings.items) n [] giving.lanes in
    let first = received_first (map (handed_account d) ls)
    (λ i a e. let p = get_back (handed_account d) ls i a e in subst (λ (b : Account). numbered b.lane 0 b.submitted ≡ true) p.2 p.0.in_order)
    (λ i a e. let p = get_back (handed_account d) ls i a e in subst (λ (b : Account). numbered b.lane 0 b.received ≡ true) p.2 (giving.in_order (lane_of p.0)))
    (λ l. subst (λ m. m ≤ 1) (sym (sum_by-map (λ (a : Account). once (a.lane == l)) (handed_account d) ls)) (one l))
    (λ g.
    let a = sum_by-map (λ (a : Account). sum_by g a.received) (handed_account d) ls ∙ sent g in
    let b = sum_by-map (λ (a : Account). sum_by g a.submitted) (handed_account d) ls ∙ sum g in
    omega arith) in
    record {
      each = each;
      low = low;
      long = giving.lanes;
      aside = found_all.0;
      sum = sum;
      sent = sent;
      polled = λ i s e.
          let front = received_at d.rings.items ls i s finds.first e in
          let order = numbered_front (lane_of s) 0 (received s) front.0 (ap (numbered (lane_of s) 0) front.1 ∙ giving.in_order (lane_of s)) in
          let same = kept_whole (lane_of s) 0 (received s) order in
          (same, (let a = ap length same in let b = ap length front.1 in let c = length-append (received s) front.0 in omega arith));
      handed = λ i s e. first i (handed_account d s) (get_map (handed_account d) ls i s e);
    }

-- a seat as a lane of the machine
abbrev lane_shown : DelivererSeat → LaneSeat → LaneState
lane_shown d v = lane_state (submitted v) true (polled_count v) (length (handed d (lane_of v)))

-- the state of lane l: that of its seat
abbrev state_at : DelivererSeat → List LaneSeat → ℕ → LaneState
state_at d [] l = lane_state [] true 0 0
state_at d (v ∷ vs) l = cond (lane_of v == l) (lane_shown d v) (state_at d vs l)

-- what is so of each seat of a lane is so of its state
state_is : (d : DelivererSeat) (P : LaneState → Type 0) (ls : List LaneSeat) (l : ℕ) → P (lane_state [] true 0 0)
    → ((i : ℕ) (v : LaneSeat) → slice_get ls i ≡ Some v → lane_of v ≡ l → P (lane_shown d v)) → P (state_at d ls l)
state_is d P [] l none each = none
state_is d P (v ∷ vs) l none each = ⊎_elim
    (λ (e : lane_of v ≡ l). subst P (sym (ap (λ b. cond b (lane_shown d v) (state_at d vs l)) (eq-eqb (lane_of v) l e))) (each 0 v refl e))
    (λ (e : lane_of v ≢ l). subst P (sym (ap (λ b. cond b (lane_shown d v) (state_at d vs l)) (ne_eqb (lane_of v) l e)))
    (state_is d P vs l none (λ i u f. each (suc i) u f)))
    (cases_eq (lane_of v) l)

-- it is that of this seat, if no lane has two
state_there : (d : DelivererSeat) (ls : List LaneSeat) (l i : ℕ) (v : LaneSeat) → slice_get ls i ≡ Some v → lane_of v ≡ l
    → count_by (λ (s : LaneSeat). lane_of s == l) ls ≤ 1 → state_at d ls l ≡ lane_shown d v
state_there d [] l i v e at one = absurd (cc)
state_there d (x ∷ xs) l zero v e at one =
    let same = same_Some x v e in
    ap (λ b. cond b (lane_shown d x) (state_at d xs l)) (eq-eqb (lane_of x) l (ap (λ (s : LaneSeat). lane_of s) same ∙ at)) ∙ ap (lane_shown d) same
state_there d (x ∷ xs) l (suc i) v e at one =
    let count = sum_by-cons (λ (s : LaneSeat). once (lane_of s == l)) x xs in
    let there = at_least (λ (s : LaneSeat). lane_of s) xs l i v e at in
    ap (λ b. cond b (lane_shown d x) (state_at d xs l)) (ne_eqb (lane_of x) l
    (λ f. let a : once (lane_of x == l) ≡ 1 = ap once (eq-eqb (lane_of x) l f) in omega arith))
    ∙ state_there d xs l i v e at (omega arith)

-- the state that the parts are
abbrev state_of : Hub → List LaneSeat → List WorkerSeat → DelivererSeat → List Plain → List Plain → State
state_of h ls ws d jobs results = state (year_of h) (map (state_at d ls) (range_with_len 0 (lane_count d))) jobs (map delivery_in_hand ws) results
    ((buffer_of d).waiting ++ hand_of d)

-- the state's lanes by place: lane l's state is there if l is below n, and else none is
state_by_place : (f : ℕ → LaneState) (n l : ℕ) → l < n → slice_get (map f (range_with_len 0 n)) l ≡ Some (f l)
state_by_place f n l low =
    slice_get-get_or (map f (range_with_len 0 n)) l (f l) (let e = length-map-range_with_len f 0 n in omega arith)
    ∙ ap Some (get_or-map-range_with_len f 0 n l l (f l) low (omega arith))

by_lane : (f : ℕ → LaneState) (n l : ℕ) (P : Option LaneState → Type 0) → P None → P (Some (f l)) → P (slice_get (map f (range_with_len 0 n)) l)
by_lane f n l P none some = ⊎_elim
    (λ (e : l < n). subst P (sym (state_by_place f n l e)) some)
    (λ (past : n ≤ l). subst P (sym (slice_get_past (map f (range_with_len 0 n)) l (let e = length-map-range_with_len f 0 n in omega arith))) none)
    (cases_lt l n)

-- the parts stand for that state
stands_for : (h : Hub) (ls : List LaneSeat) (ws : List WorkerSeat) (d : DelivererSeat) (jobs results found : List Plain)
    → AreAllSeats h ls ws d → Finds ls ws d jobs results found → Whole ls ws d jobs results → StandsFor (state_of h ls ws d jobs results) h ls ws d
stands_for h ls ws d jobs results found seats finds whole = record {
  year = refl;
  count = length-map-range_with_len (state_at d ls) 0 (lane_count d) ∙ seats.deliverer.lanes;
  lanes = λ i v e. state_by_place (state_at d ls) (lane_count d) (lane_of v) (whole.low i v e)
      ∙ ap Some (state_there d ls (lane_of v) i v e refl (one_seat_a_lane (lane_count d) ls whole.each (lane_of v)));
  jobs = finds.jobs;
  workers = refl;
  results = finds.results;
  waiting = refl;
}

-- all lanes of the state, by seat
sum_lanes : (n : ℕ) (d : DelivererSeat) (ls : List LaneSeat) (G : LaneState → ℕ) → HasEach n (numbers_of ls)
    → sum_by G (map (state_at d ls) (range_with_len 0 n)) ≡ sum_by (λ (s : LaneSeat). G (lane_shown d s)) ls
sum_lanes n d ls G each =
    sum_by-map G (state_at d ls) (range_with_len 0 n) ∙ (sym (by_seat n ls each (λ l. G (state_at d ls l)))
    ∙ sum_same (λ (s : LaneSeat). G (state_at d ls (lane_of s))) (λ (s : LaneSeat). G (lane_shown d s)) ls
    (λ i s e. ap G (state_there d ls (lane_of s) i s e refl (one_seat_a_lane n ls each (lane_of s)))))

-- nothing was lost in it
nothing_lost : (h : Hub) (ls : List LaneSeat) (ws : List WorkerSeat) (d : DelivererSeat) (jobs results : List Plain) → Whole ls ws d jobs results
    → NothingLost (state_of h ls ws d jobs results)
nothing_lost h ls ws d jobs results whole =
    let n = lane_count d in
    let f = state_at d ls in
    record {
      in_order = λ l. by_lane f n l (λ o. numbered l 0 (of_lane [] (λ v. v.submitted) o) ≡ true) refl
          (state_is d (λ v. numbered l 0 v.submitted ≡ true) ls l refl (λ i v e at. subst (λ m. numbered m 0 (submitted v) ≡ true) at v.in_order));
      polled = λ l. by_lane f n l (λ o. of_lane 0 (λ v. v.polled) o ≤ of_lane 0 (λ v. v.handed) o) (omega arith)
          (state_is d (λ v. v.polled ≤ v.handed) ls l (omega arith) (λ i v e at. (whole.polled i v e).1));
      handed = λ l. by_lane f n l (λ o. of_lane 0 (λ v. v.handed) o ≤ length (of_lane [] (λ v. v.submitted) o)) (omega arith)
          (state_is d (λ v. v.handed ≤ length v.submitted) ls l (omega arith)
          (λ i v e at. omega (arith, ap length (whole.handed i v e), length-take (length (handed d (lane_of v))) (submitted v))));
      whole = λ g.
          let a = sum_lanes n d ls (λ v. sum_by g v.submitted) whole.each ∙ whole.sum g in
          let b = sum_lanes n d ls (λ v. sum_by g (take v.handed v.submitted)) whole.each
          ∙ (sum_same (λ (s : LaneSeat). sum_by g (take (length (handed d (lane_of s))) (submitted s))) (λ (s : LaneSeat). sum_by g (handed d (lane_of s))) ls
          (λ i s e. ap (sum_by g) (whole.handed i s e)) ∙ whole.sent g) in
          let c = sum_by-map (λ o. sum_by g (option_to_list o)) delivery_in_hand ws ∙ sym (sum_by-flat_map g deliveries_in_hand ws) in
          let e = sum_by-append g (buffer_of d).waiting (hand_of d) in
          omega arith;
    }

-- no lane has dropped a delivery
all_polled : (ls : List LaneSeat) (ws : List WorkerSeat) (d : DelivererSeat) (jobs results : List Plain) → Whole ls ws d jobs results
    → All (λ (s : LaneSeat). polled s ≡ received s) ls
all_polled ls ws d jobs results whole i s low = (whole.polled i (get_or ls i s) (slice_get-get_or ls i s low)).0

-- and so each ticket is in one place, by the law `lost_is_none`
is_whole : (h : Hub) (ls : List LaneSeat) (ws : List WorkerSeat) (d : DelivererSeat) (jobs results found : List Plain) → LostIsNone
    → AreAllSeats h ls ws d → Finds ls ws d jobs results found → Whole ls ws d jobs results → IsWhole h ls ws d
is_whole h ls ws d jobs results found lost_is_none seats finds whole = record {
  state = (
    state_of h ls ws d jobs results,
    stands_for h ls ws d jobs results found seats finds whole,
    lost_is_none (state_of h ls ws d jobs results) (nothing_lost h ls ws d jobs results whole),
  );
  none_dropped = all_polled ls ws d jobs results whole;
  none_aside = whole.aside;
}

-- what `settle` and `finish` show of the parts that were drained, by the laws that they call
pub parts_are : (h : Hub) (ls : List LaneSeat) (ws : List WorkerSeat) (d : DelivererSeat) (jobs results found : List Plain)
    → AllFound → ReceivedFirst → KeptWhole → LostIsNone → AreAllSeats h ls ws d → Finds ls ws d jobs results found
    → Whole ls ws d jobs results × IsWhole h ls ws d
parts_are h ls ws d jobs results found all_found received_first kept_whole lost_is_none seats finds =
    let whole = whole_from h ls ws d jobs results found all_found received_first kept_whole seats finds in
    (whole, is_whole h ls ws d jobs results found lost_is_none seats finds whole)

-- what each lane received is the first of what it was handed, and so of its rows
pub first_of_rows : (h : Hub) (ls : List LaneSeat) (ws : List WorkerSeat) (d : DelivererSeat) (jobs results found : List Plain)
    → AreAllSeats h ls ws d → Finds ls ws d jobs results found → Whole ls ws d jobs results → PolledFirst h ls
first_of_rows h ls ws d jobs results found seats finds whole i v e =
    let front = received_at d.rings.items ls i v finds.first e in
    let n = length (handed d (lane_of v)) in
    let rest = drop n (submitted v) in (
      front.0 ++ rest,
      ap (λ (xs : List Plain). xs ++ (front.0 ++ rest)) (whole.polled i v e).0
          ∙ (sym (append_assoc (received v) front.0 rest)
          ∙ (ap (λ (xs : List Plain). xs ++ rest) (front.1 ∙ sym (whole.handed i v e))
          ∙ (take-append-drop n (submitted v) ∙ (all_at (IsLaneOf h) ls i v seats.lanes e).rows))),
    )
