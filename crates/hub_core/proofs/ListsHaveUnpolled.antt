-- What each lane's list has at the end: what the lane had not polled. For `Hub::settle`.
use Rattle.std.proofs.Common.{◌≡◌, ◌++◌, ℕ, ◌<◌, ◌≤◌, ◌==◌, zero, suc, List, [], ◌∷◌, get_or, length, map, Some, refl, sym, ap, ◌∙◌, subst, arith}
use Rattle.std.specs.List.{list_all, slice_get, sum_by}
use Rattle.std.proofs.lemmas.List.{length-map, nil_from_length}
use Rattle.std.proofs.lemmas.Option.{get_or_from_slice_get, same_Some}
use Rattle.std.specs.List.Sorted.{IsPermutation}
use Rattle.std.proofs.lemmas.List.Sums.{sum_by-cons}
use Rattle.std.proofs.lemmas.List.Sorted.{sum_by-IsPermutation, length_permutation}
use Rattle.lane_core.specs.declared.job.Plain.{Plain}
use Rattle.lane_core.specs.Settling.{Claim, ClaimsSettle, GivesDue, IsClaim, rises}
use Rattle.lane_core.specs.Weights.{once}
use Rattle.hub_core.specs.declared.deliverer_seat.DelivererSeat.{DelivererSeat}
use Rattle.hub_core.specs.declared.lane_seat.LaneSeat.{LaneSeat}
use Rattle.hub_core.specs.declared.worker_seat.WorkerSeat.{WorkerSeat}
use Rattle.hub_core.specs.Delivering.{handed, lane_count}
use Rattle.hub_core.specs.inner.DrainedLists.{AreMade, AreOwn, DrainsInto, Listed, Sorts}
use Rattle.hub_core.specs.Serving.{items_of}
use Rattle.hub_core.specs.Lanes.{lane_of, polled, received, submitted}
use Rattle.hub_core.specs.inner.Draining.{Finds}
use Rattle.hub_core.specs.inner.Sums.{sum_all}
use Rattle.lane_core.proofs.ListFacts.{get_back, get_map}
use Rattle.hub_core.proofs.PartsAreAState.{Whole, by_seat, one_seat_a_lane}
use Rattle.hub_core.proofs.ListIsSorted.{all_same}
use Rattle.hub_core.proofs.ListsByPlace.{is_there}
use Rattle.hub_core.proofs.SumFacts.{sum_by-map, sum_same, sum_by_places}
use Rattle.lane_core.proofs.WeightFacts.{sum_ones}

-- lists with no item in all are empty, and so each has deliveries of its own lane alone (`AreOwn`)
empty_at : (lists : List Listed) (l : ℕ) (v : Listed) → sum_all (λ (_ : Plain). 1) (items_of lists) ≡ 0 → slice_get lists l ≡ Some v → v.items ≡ []
empty_at [] l v none e = absurd (cc)
empty_at (x ∷ xs) zero v none e =
    let a = ap (λ (u : Listed). length u.items) (same_Some x v e) in
    nil_from_length v.items (omega (arith, sum_by-cons (λ (ys : List Plain). sum_by (λ _. 1) ys) x.items (items_of xs), sum_ones x.items))
empty_at (x ∷ xs) (suc l) v none e = empty_at xs l v (omega (arith, sum_by-cons (λ (ys : List Plain). sum_by (λ _. 1) ys) x.items (items_of xs))) e

own_empty : (lists : List Listed) → sum_all (λ (_ : Plain). 1) (items_of lists) ≡ 0 → AreOwn lists
own_empty lists none l v e = ap (list_all (λ (x : Plain). x.lane == l)) (empty_at lists l v none e)

-- sorted lists have the same sum
sum_sorted : (h : Plain → ℕ) (old new : List Listed) → length new ≡ length old
    → ((l : ℕ) (v w : Listed) → slice_get old l ≡ Some v → slice_get new l ≡ Some w → IsPermutation v.items w.items)
    → sum_all h (items_of new) ≡ sum_all h (items_of old)
sum_sorted h [] [] long same = refl
sum_sorted h [] (w ∷ ws) long same = absurd (omega arith)
sum_sorted h (v ∷ vs) [] long same = absurd (omega arith)
sum_sorted h (v ∷ vs) (w ∷ ws) long same =
    let here = sum_by-IsPermutation h v.items w.items (same 0 v w refl refl) in
    omega (
      arith,
      sum_by-cons (λ (ys : List Plain). sum_by h ys) v.items (items_of vs),
      sum_by-cons (λ (ys : List Plain). sum_by h ys) w.items (items_of ws),
      sum_sorted h vs ws (omega arith) (λ l a b e f. same (suc l) a b e f),
    )

-- lane l's list at the end
abbrev list_at : List Listed → ℕ → List Plain
list_at lists l = get_or (items_of lists) l []

-- the same, by `slice_get`
list_is : (lists : List Listed) (l : ℕ) (w : Listed) → slice_get lists l ≡ Some w → w.items ≡ list_at lists l
list_is lists l w e = sym (get_or_from_slice_get (items_of lists) l w.items [] (get_map (λ (u : Listed). u.items) lists l w e))

-- a lane's claim, for the law `claims_settle` of lane_core
abbrev claim_of : List Listed → LaneSeat → Claim
claim_of lists s = record { lane = lane_of s; submitted = submitted s; polled = polled s; given = list_at lists (lane_of s) }

-- one lane's lists: as they were made, drained into and sorted
record Lists (made drained sorted : List Listed) (l : ℕ) : Type 0 where
  start : Listed
  end : Listed
  list : Listed
  at_start : slice_get made l ≡ Some start
  at_end : slice_get drained l ≡ Some end
  at_list : slice_get sorted l ≡ Some list

-- they are there, if there are n of each kind
lists_at : (made drained sorted : List Listed) (l n : ℕ) → l < n → length made ≡ n → length drained ≡ n → length sorted ≡ n → Lists made drained sorted l
lists_at made drained sorted l n low a b c =
    let x = is_there made l (omega arith) in
    let y = is_there drained l (omega arith) in
    let z = is_there sorted l (omega arith) in
    record { start = x.0; end = y.0; list = z.0; at_start = x.1; at_end = y.1; at_list = z.1 }

-- each lane's list is what it had not polled of what it has submitted
abbrev pub Owes : List LaneSeat → List (List Plain) → Type 0
Owes lanes lists = (i : ℕ) (v : LaneSeat) → slice_get lanes i ≡ Some v → polled v ++ get_or lists (lane_of v) [] ≡ submitted v

-- so it is at the end, by the law `claims_settle`: the lists were made empty, drained into and sorted
pub owed : (ls : List LaneSeat) (ws : List WorkerSeat) (d : DelivererSeat) (jobs results found : List Plain) (n : ℕ) (made drained sorted : List Listed)
    → ClaimsSettle → Finds ls ws d jobs results found → Whole ls ws d jobs results → lane_count d ≡ n → AreMade ls n made → DrainsInto made drained found
    → Sorts drained sorted → Owes ls (items_of sorted)
owed ls ws d jobs results found n made drained sorted claims_settle finds whole count are_made drains sorts =
    let m = lane_count d in
    let one = one_seat_a_lane m ls whole.each in
    let long_made : length made ≡ m = are_made.counted ∙ sym count in
    let long_drained : length drained ≡ m = drains.counted ∙ long_made in
    let long_sorted : length sorted ≡ m = sorts.0 ∙ long_drained in
    let own = drains.own (own_empty made (are_made.empty (λ (_ : Plain). 1))) in
    let given : (g : Plain → ℕ) → sum_by (λ (s : LaneSeat). sum_by g (list_at sorted (lane_of s))) ls ≡ sum_all g (items_of drained) = λ g.
    by_seat m ls whole.each (λ l. sum_by g (list_at sorted l))
    ∙ (sum_by_places (sum_by g) (items_of sorted) m [] (length-map sorted (λ (v : Listed). v.items) ∙ long_sorted)
    ∙ sum_sorted g drained sorted sorts.0 (λ l v w e f. (sorts.1 l v w e f).0)) in
    let settled = claims_settle (map (claim_of sorted) ls) found drains.dropped
    (λ i c e.
    let p = get_back (claim_of sorted) ls i c e in
    let s = p.0 in
    let l = lane_of s in
    let at = lists_at made drained sorted l m (whole.low i s p.1) long_made long_drained long_sorted in
    let same = sorts.1 l at.end at.list at.at_end at.at_list in
    let list = list_is sorted l at.list at.at_list in
    subst (λ (c : Claim). IsClaim c × GivesDue c drains.dropped) p.2 (
      record {
        submitted = s.in_order;
        polled = s.polled_in_order;
        own = ap (list_all (λ (x : Plain). x.lane == l)) (sym {A = List Plain} list)
            ∙ all_same (λ (x : Plain). x.lane == l) at.end.items at.list.items same.0 (own l at.end at.at_end);
        rising = ap rises (sym {A = List Plain} list) ∙ same.1;
      },
      λ less.
          let unpolled = are_made.room l at.start at.at_start i s p.1 refl (one l) in
          let room = drains.room l at.start at.end at.at_start at.at_end in
          let counted = length_permutation at.end.items at.list.items same.0 in
          let at_list = ap length list in
          let len = at.end.ok.0 in
          drains.full l at.end at.at_end (omega (arith, room.0)),
    ))
    (λ l. subst (λ k. k ≤ 1) (sym (sum_by-map (λ (c : Claim). once (c.lane == l)) (claim_of sorted) ls)) (one l))
    (λ g.
    let a = sum_by-map (λ (c : Claim). sum_by g c.submitted) (claim_of sorted) ls ∙ whole.sum g in
    let b = sum_by-map (λ (c : Claim). sum_by g c.polled) (claim_of sorted) ls
    ∙ sum_same (λ (s : LaneSeat). sum_by g (polled s)) (λ (s : LaneSeat). sum_by g (received s)) ls (λ i s e. ap (sum_by g) (whole.polled i s e).0) in
    let e = sum_by-map (λ l. sum_by g (handed d l)) (λ (s : LaneSeat). lane_of s) ls ∙ whole.sent g in
    let f = finds.whole g in
    omega arith)
    (λ g.
    let a = sum_by-map (λ (c : Claim). sum_by g c.given) (claim_of sorted) ls ∙ given g in
    let b = drains.whole g in
    let c = are_made.empty g in
    omega arith) in
    λ i v e. settled i (claim_of sorted v) (get_map (claim_of sorted) ls i v e)
