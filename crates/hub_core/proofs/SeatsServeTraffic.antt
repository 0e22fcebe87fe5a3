-- The seats of a hub that serves a traffic: one of them takes a step (`submit_some`, `bring_all`), or all have polled all (`wait_for_more`).
use Rattle.std.proofs.Common.{◌≡◌, ◌≢◌, ⊎_elim, ℕ, ◌<◌, ◌≤◌, ◌+◌, ◌++◌, List, [], ◌∷◌, suc, IfSome, Option, Some, None, get_or, length, length-append, map, set, refl, sym, ap, ◌∙◌, append-nil, subst, arith}
use Rattle.std.specs.List.{range_with_len}
use Rattle.std.proofs.Math.Seq.{map-set_same}
use Rattle.std.proofs.lemmas.Bool.{cases_eq}
use Rattle.std.proofs.lemmas.Grind.{get_or-set_at}
use Rattle.std.proofs.lemmas.List.{get_or-map, get_or-set_other, length-map, map-append}
use Rattle.std.proofs.lemmas.List.Elements.{All-set}
use Rattle.std.proofs.lemmas.List.FromFn.{get_or-range_with_len}
use Rattle.lane_core.specs.Plain.{plain_of}
use Rattle.lane_core.specs.Settling.{kept}
use Rattle.lane_core.specs.declared.job.Plain.{Plain}
use Rattle.hub_core.specs.Hubs.{IsDelivererOf, IsLaneOf, shape_of}
use Rattle.hub_core.specs.Lanes.{issued_count, lane_of, polled, polled_count, received, submitted, submitted_rows}
use Rattle.hub_core.specs.inner.Traffics.{HavePolledAll, AreOwnSeats, given_to, polled_by_each, with_held}
use Rattle.hub_core.specs.Traffics.{AreFirstOf, Gives, HasRoom, History, IsAllBrought, IsNextOf, Stays, with_more}
use Rattle.hub_core.specs.inner.CallingThread.{CameBySeats}
use Rattle.hub_core.specs.declared.hub.Hub.{Hub}
use Rattle.hub_core.specs.declared.deliverer_seat.DelivererSeat.{DelivererSeat}
use Rattle.hub_core.specs.declared.lane_seat.LaneSeat.{LaneSeat}
use Rattle.hub_core.specs.declared.worker_seat.WorkerSeat.{WorkerSeat}
use Rattle.hub_core.proofs.LanesAreCounted.{lanes_counted}
use Rattle.hub_core.proofs.ListsOfLists.{list_more_at}
use Rattle.element_core.specs.Terms.{Terms}

-- of no row anything is so
pub if_none : (o : Option (ℕ × List ℕ)) (P : (ℕ × List ℕ) → Type 0) → o ≡ None → IfSome o P
if_none o P none = subst (λ x. IfSome x P) (sym none) tt

-- no row was in hand, and the traffic gives one or none
pub next_came : {T : Type 0} (C : History T) (h : Hub) (seats : List LaneSeat) (d : DelivererSeat) (w : Option WorkerSeat) (held next : Option (ℕ × List ℕ))
    (start old new : T)
    → held ≡ None → CameBySeats C h seats d w held start old → IfSome next (λ r. Gives C r old new) → (next ≡ None → Stays C old new)
    → CameBySeats C h seats d w next start new
next_came C h seats d w held None start old new none was gives stays = record {
  lanes = record { lanes = was.lanes.lanes; numbers = was.lanes.numbers; limit = was.lanes.limit; room = tt };
  deliverer = was.deliverer;
  own = was.own;
  came = stays refl start (given_to seats None) (polled_by_each seats) (subst (λ o. C start old (given_to seats o) (polled_by_each seats)) none was.came);
}
next_came C h seats d w held (Some r) start old new none was gives stays =
    let more = gives start (given_to seats None) (polled_by_each seats) (subst (λ o. C start old (given_to seats o) (polled_by_each seats)) none was.came) in
    record {
      lanes = record { lanes = was.lanes.lanes; numbers = was.lanes.numbers; limit = was.lanes.limit; room = more.0 };
      deliverer = was.deliverer;
      own = was.own;
      came = more.1;
    }

-- the thread serves on, with other seats of lanes
pub serves_with : {T : Type 0} (C : History T) (h : Hub) (seats others : List LaneSeat) (d e : DelivererSeat) (w : Option WorkerSeat)
    (held new : Option (ℕ × List ℕ)) (start was now : T)
    → CameBySeats C h seats d w held start was → AreOwnSeats h others new → (IsDelivererOf h d → IsDelivererOf h e)
    → C start now (given_to others new) (polled_by_each others) → CameBySeats C h others e w new start now
serves_with C h seats others d e w held new start was now serves lanes of_hub came = record {
  lanes = lanes;
  deliverer = of_hub serves.deliverer;
  own = serves.own;
  came = came;
}

-- the seats are those of all lanes still, after a step at one of them
pub step_serves : (h : Hub) (seats : List LaneSeat) (held new : Option (ℕ × List ℕ)) (i : ℕ) (s t : LaneSeat)
    → s ≡ get_or seats i s → lane_of t ≡ lane_of s → IsLaneOf h t → AreOwnSeats h seats held
    → IfSome new (λ r. HasRoom r.0 (map submitted_rows (set seats i t))) → AreOwnSeats h (set seats i t) new
step_serves h seats held new i s t at lane is was room = record {
  lanes = All-set (IsLaneOf h) seats i t is was.lanes;
  numbers = map-set_same lane_of seats i t s (lane ∙ ap lane_of at) ∙ was.numbers;
  limit = was.limit;
  room = room;
}

-- what a step at one seat leaves as it was, and the row that it may add
step_same : {X : Type 0} (f : LaneSeat → X) (seats : List LaneSeat) (i : ℕ) (s t : LaneSeat) → s ≡ get_or seats i s → f t ≡ f s → map f (set seats i t)
    ≡ map f seats
step_same f seats i s t at same = map-set_same f seats i t s (same ∙ ap f at)

rows_same : (s t : LaneSeat) → submitted t ≡ submitted s → submitted_rows t ≡ submitted_rows s
rows_same s t same = ap (λ (xs : List Plain). map (λ (x : Plain). x.widths) xs) same

submitted_one_more : (s t : LaneSeat) (l n : ℕ) (y : Terms) (row : List ℕ) → submitted t ≡ submitted s ++ plain_of l n y row ∷ [] → submitted_rows t ≡ submitted_rows s ++ row ∷ []
submitted_one_more s t l n y row more = ap (λ (xs : List Plain). map (λ (x : Plain). x.widths) xs) more
    ∙ map-append (λ (x : Plain). x.widths) (submitted s) (plain_of l n y row ∷ [])

polled_same : (s t : LaneSeat) → lane_of t ≡ lane_of s → received t ≡ received s → polled t ≡ polled s
polled_same s t lane same = ap (λ l. kept l 0 (received t)) lane ∙ ap (λ xs. kept (lane_of s) 0 xs) same

-- what the lanes were given is the same
pub rows_same_given : (seats : List LaneSeat) (held : Option (ℕ × List ℕ)) (i : ℕ) (s t : LaneSeat) → s ≡ get_or seats i s → submitted t ≡ submitted s
    → given_to seats held ≡ given_to (set seats i t) held
rows_same_given seats held i s t at same = ap (with_held held) (sym (step_same submitted_rows seats i s t at (rows_same s t same)))

-- a row was submitted that was in hand
pub came_more : (C : List (List (List ℕ)) → List (List Plain) → Type 0) (seats : List LaneSeat) (new : Option (ℕ × List ℕ)) (i lane : ℕ) (s t : LaneSeat)
    (l n : ℕ) (y : Terms) (row : List ℕ)
    → new ≡ None → i ≡ lane → i < length seats → s ≡ get_or seats i s → lane_of t ≡ lane_of s → submitted t ≡ submitted s ++ plain_of l n y row ∷ []
    → received t ≡ received s
    → C (with_more lane row (map submitted_rows seats)) (map polled seats) → C (given_to (set seats i t) new) (polled_by_each (set seats i t))
came_more C seats new i lane s t l n y row none is low at same more sees was =
    let rows : with_more lane row (map submitted_rows seats) ≡ given_to (set seats i t) new =
    ap (λ k. with_more k row (map submitted_rows seats)) (sym is)
    ∙ (sym (list_more_at submitted_rows seats i s t row at low (submitted_one_more s t l n y row more))
    ∙ ap (λ o. with_held o (map submitted_rows (set seats i t))) (sym none)) in
    let polls : map polled seats ≡ polled_by_each (set seats i t) = sym (step_same polled seats i s t at (polled_same s t same sees)) in
    subst (λ v. C v (polled_by_each (set seats i t))) rows (subst (λ v. C (with_more lane row (map submitted_rows seats)) v) polls was)

-- nothing was submitted
pub came_same : (C : List (List (List ℕ)) → List (List Plain) → Type 0) (seats : List LaneSeat) (new : Option (ℕ × List ℕ)) (i : ℕ) (s t : LaneSeat)
    → s ≡ get_or seats i s → submitted t ≡ submitted s → polled t ≡ polled s
    → C (with_held new (map submitted_rows seats)) (map polled seats) → C (given_to (set seats i t) new) (polled_by_each (set seats i t))
came_same C seats new i s t at same sees was =
    let rows = rows_same_given seats new i s t at same in
    let polls : map polled seats ≡ polled_by_each (set seats i t) = sym (step_same polled seats i s t at sees) in
    subst (λ v. C v (polled_by_each (set seats i t))) rows (subst (λ v. C (with_held new (map submitted_rows seats)) v) polls was)

-- nothing was submitted, since the queue was full: the row stays in hand
pub came_full : (C : List (List (List ℕ)) → List (List Plain) → Type 0) (seats : List LaneSeat) (i lane : ℕ) (s t : LaneSeat) (row back : List ℕ)
    → s ≡ get_or seats i s → submitted t ≡ submitted s → lane_of t ≡ lane_of s → received t ≡ received s → back ≡ row
    → C (with_more lane row (map submitted_rows seats)) (map polled seats) → C (given_to (set seats i t) (Some (lane, back))) (polled_by_each (set seats i t))
came_full C seats i lane s t row back at same is sees given was =
    came_same C seats (Some (lane, back)) i s t at same (polled_same s t is sees)
    (subst (λ (r : List ℕ). C (with_more lane r (map submitted_rows seats)) (map polled seats)) (sym given) was)

-- a delivery was polled and brought
pub came_brought : (C : List (List (List ℕ)) → List (List Plain) → Type 0) (seats : List LaneSeat) (held : Option (ℕ × List ℕ)) (i lane : ℕ) (s t : LaneSeat)
    (x : Plain)
    → i ≡ lane → i < length seats → s ≡ get_or seats i s → submitted t ≡ submitted s → polled t ≡ polled s ++ x ∷ []
    → C (given_to seats held) (with_more lane x (polled_by_each seats)) → C (given_to (set seats i t) held) (polled_by_each (set seats i t))
came_brought C seats held i lane s t x is low at same more was =
    let rows = rows_same_given seats held i s t at same in
    let polls : with_more lane x (polled_by_each seats) ≡ polled_by_each (set seats i t) =
    ap (λ k. with_more k x (polled_by_each seats)) (sym is) ∙ sym (list_more_at polled seats i s t x at low more) in
    subst (λ v. C v (polled_by_each (set seats i t))) rows (subst (λ v. C (given_to seats held) v) polls was)

-- a row's lane has a ticket left still if nothing was submitted
pub room_same : (seats : List LaneSeat) (new : Option (ℕ × List ℕ)) (i : ℕ) (s t : LaneSeat) → s ≡ get_or seats i s → submitted t ≡ submitted s
    → IfSome new (λ r. HasRoom r.0 (map submitted_rows seats)) → IfSome new (λ r. HasRoom r.0 (map submitted_rows (set seats i t)))
room_same seats new i s t at same room = subst (λ lists. IfSome new (λ r. HasRoom r.0 lists))
    (sym (step_same submitted_rows seats i s t at (rows_same s t same))) room

-- there are as many seats as the hub has lanes
pub seats_counted : (h : Hub) (seats : List LaneSeat) (held : Option (ℕ × List ℕ)) → AreOwnSeats h seats held → length seats ≡ (shape_of h).lanes
seats_counted h seats held was = lanes_counted seats _ was.numbers

-- a seat stands at the place of its lane's number
pub lane_is_place : (h : Hub) (seats : List LaneSeat) (held : Option (ℕ × List ℕ)) (i : ℕ) (s : LaneSeat) → AreOwnSeats h seats held → i < length seats → s
    ≡ get_or seats i s → i ≡ lane_of s
lane_is_place h seats held i s was low at =
    let count = seats_counted h seats held was in
    let number : get_or (range_with_len 0 (shape_of h).lanes) i 0 ≡ 0 + i = get_or-range_with_len 0 (shape_of h).lanes i 0 (omega (arith, low, count)) in
    let there : lane_of s ≡ get_or (map lane_of seats) i 0 = ap lane_of at ∙ sym (get_or-map lane_of seats i s 0 low) in
    let same : get_or (map lane_of seats) i 0 ≡ get_or (range_with_len 0 (shape_of h).lanes) i 0 = ap (λ (ns : List ℕ). get_or ns i 0) was.numbers in
    omega (arith, number, there, same)

-- the rows that a seat's lane was given: those submitted, and maybe the one in hand
rows_at : (seats : List LaneSeat) (i : ℕ) (s : LaneSeat) → i < length seats → s ≡ get_or seats i s → get_or (map submitted_rows seats) i [] ≡ submitted_rows s
rows_at seats i s low at = get_or-map submitted_rows seats i s [] low ∙ ap submitted_rows (sym at)

pub given_at : (seats : List LaneSeat) (held : Option (ℕ × List ℕ)) (i : ℕ) (s : LaneSeat) → i < length seats → s ≡ get_or seats i s → (more : List (List ℕ))
    × (get_or (given_to seats held) i [] ≡ submitted_rows s ++ more)
given_at seats None i s low at = ([], rows_at seats i s low at ∙ sym (append-nil (submitted_rows s)))
given_at seats (Some r) i s low at =
    let lists = map submitted_rows seats in
    let v = get_or lists r.0 [] ++ r.1 ∷ [] in
    ⊎_elim
    (λ (e : i ≡ r.0).
    let here : get_or lists r.0 [] ≡ submitted_rows s = ap (λ k. get_or lists k []) (sym e) ∙ rows_at seats i s low at in
    (r.1 ∷ [], get_or-set_at lists r.0 i v [] e (omega (arith, low, e, length-map seats submitted_rows)) ∙ ap (λ (w : List (List ℕ)). w ++ r.1 ∷ []) here))
    (λ (e : i ≢ r.0). ([], get_or-set_other lists r.0 i v [] e ∙ (rows_at seats i s low at ∙ sym (append-nil (submitted_rows s)))))
    (cases_eq i r.0)

-- what was polled is the next that its lane is owed
pub polls_next_of : (h : Hub) (seats : List LaneSeat) (held : Option (ℕ × List ℕ)) (i : ℕ) (s t : LaneSeat) (x : Plain)
    → AreOwnSeats h seats held → i < length seats → s ≡ get_or seats i s → submitted t ≡ submitted s
    → x.lane ≡ lane_of s → x.number ≡ polled_count s → polled t ≡ polled s ++ x ∷ [] → polled_count t ≤ issued_count t
    → IsNextOf x (given_to seats held) (polled_by_each seats)
polls_next_of h seats held i s t x was low at same lane number more room =
    let is : i ≡ x.lane = lane_is_place h seats held i s was low at ∙ sym lane in
    let mine : get_or (polled_by_each seats) i [] ≡ polled s = get_or-map polled seats i s [] low ∙ ap polled (sym at) in
    let there : length (get_or (polled_by_each seats) x.lane []) ≡ polled_count s =
    ap (λ k. length (get_or (polled_by_each seats) k [])) (sym is) ∙ ap length mine in
    let given = given_at seats held i s low at in
    let longer : length (get_or (given_to seats held) i []) ≡ issued_count s + length given.0 =
    ap length given.1 ∙ omega (arith, length-append (submitted_rows s) given.0, length-map (submitted s) (λ (x : Plain). x.widths)) in
    let moved : length (get_or (given_to seats held) x.lane []) ≡ length (get_or (given_to seats held) i []) =
    ap (λ k. length (get_or (given_to seats held) k [])) (sym is) in
    record {
      lane = omega (arith, low, is, length-map seats polled);
      owed = omega (arith, there, longer, moved, room, ap length more, length-append (polled s) (x ∷ []), ap length same);
      number = number ∙ sym there;
    }

-- lanes that have polled all that they issued were brought as many as they were given
even_lanes : (seats : List LaneSeat) → HavePolledAll seats → IsAllBrought (map submitted_rows seats) (map polled seats)
even_lanes [] even = refl
even_lanes (s ∷ seats) even =
    let here : length (polled s) ≡ length (submitted_rows s) = even 0 s (omega arith) ∙ sym (length-map (submitted s) (λ (x : Plain). x.widths)) in
    let rest = even_lanes seats (λ k d low. even (suc k) d (omega (arith, low))) in
    (λ j. here j ∷ rest j)

-- and with no row in hand that is all that they were given
pub even_given : (seats : List LaneSeat) → HavePolledAll seats → IsAllBrought (given_to seats None) (polled_by_each seats)
even_given seats even = even_lanes seats even

-- the seat at a place is one of the hub
pub seat_at : (h : Hub) (seats : List LaneSeat) (held : Option (ℕ × List ℕ)) (i : ℕ) (s : LaneSeat) → AreOwnSeats h seats held → i < length seats → s
    ≡ get_or seats i s → IsLaneOf h s
seat_at h seats held i s was low at = subst (IsLaneOf h) (sym at) (was.lanes i s low)

-- ---- a delivery that was polled and not brought

-- lists are the first of what they are with one item more
first_more : (lists : List (List Plain)) (k : ℕ) (x : Plain) → k < length lists → AreFirstOf lists (with_more k x lists)
first_more lists k x low i = ⊎_elim
    (λ (e : i ≡ k). (x ∷ [], ap (λ n. get_or lists n [] ++ x ∷ []) e ∙ sym (get_or-set_at lists k i (get_or lists k [] ++ x ∷ []) [] e low)))
    (λ (e : i ≢ k). ([], append-nil (get_or lists i []) ∙ sym (get_or-set_other lists k i (get_or lists k [] ++ x ∷ []) [] e)))
    (cases_eq i k)

-- and so what the lanes have polled, once one of them has polled one more
pub first_polled_more : (seats : List LaneSeat) (i : ℕ) (s t : LaneSeat) (x : Plain) → i < length seats → s ≡ get_or seats i s → polled t ≡ polled s ++ x ∷ []
    → AreFirstOf (polled_by_each seats) (polled_by_each (set seats i t))
first_polled_more seats i s t x low at more = subst (λ v. AreFirstOf (polled_by_each seats) v) (sym (list_more_at polled seats i s t x at low more))
    (first_more (polled_by_each seats) i x (omega (arith, low, length-map seats polled)))
