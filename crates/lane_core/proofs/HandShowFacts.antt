-- A world shows the machine's next state: a lane is handed its next number (`World::hand`).
-- From `hand_done` on `x`, `v` and `w` are as in LaneShowFacts, and `y` is the delivery that is handed.
use Rattle.std.proofs.Common.{◌≡◌, ◌≢◌, ⊎_elim, ℕ, ◌+◌, ◌==◌, ◌&&◌, ◌||◌, not, nat_lt, cond, Bool, true, false, List, [], ◌∷◌, ◌++◌, set, get_or, Option, Some, None, refl, sym, ap, ◌∙◌, arith, map, take}
use Rattle.std.specs.List.{slice_get, sum_by, count_by}
use Rattle.std.specs.Option.{is_some}
use Rattle.std.proofs.lemmas.List.Sums.{sum_by-cons}
use Rattle.std.proofs.lemmas.List.Sorted.{sum_by-IsPermutation}
use Rattle.std.proofs.lemmas.Bool.{cases_eq, and_left, cond-false, cond-true, eq-eqb, lt-ltb, ne_eqb}
use Rattle.std.proofs.Math.Bool.{or-false, or-true, or_comm, or_assoc}
use Rattle.std.proofs.lemmas.List.{map-set, take_more}
use Rattle.std.proofs.lemmas.Option.{get_or_from_slice_get, slice_get_within}
use Rattle.lane_core.specs.declared.event.Event.TheVariants.{Hand}
use Rattle.lane_core.specs.declared.job.Plain.{Plain}
use Rattle.lane_core.specs.Contents.{Contents, IsEnabled, LaneContents, ShowsState, Steps, contents, lane_contents, shown_lane}
use Rattle.lane_core.specs.ReorderBuffer.{ReorderBuffer, GivesNext, WaitsAsNext, has_next, next_of}
use Rattle.lane_core.specs.Machine.{LaneState, State, hand, handed_of, lane_state, of_lane, state, submitted_by, without}
use Rattle.lane_core.specs.Tickets.{is_among, is_ticket_of}
use Rattle.lane_core.specs.Weights.{once}
use Rattle.lane_core.proofs.GoodFacts.{is_item, is_own}
use Rattle.lane_core.proofs.ChangedLane.{lane_else, lane_here, lane_was}
use Rattle.lane_core.proofs.LaneShowFacts.{found}
use Rattle.lane_core.proofs.ListFacts.{get_map}
use Rattle.lane_core.proofs.SameFacts.{permutation_from, same_from}
use Rattle.lane_core.proofs.WorldShowsNext.{done, idle}
use Rattle.lane_core.proofs.StepFacts.{reached_good}
use Rattle.lane_core.proofs.TruthFacts.{true_from_once_not, below_next, or_false}
use Rattle.lane_core.proofs.TicketFacts.{among_from, among_times, not_among, not_among_times, ticket_parts, ticket_from}
use Rattle.lane_core.proofs.UnderWay.{times_without}
use Rattle.lane_core.proofs.WeightFacts.{any_counted}
use Rattle.lane_core.proofs.NextFacts.{next_has}

-- the lane's next number is as many as it was handed
next_is : (c : Contents) (s : State) (l : ℕ) (v : LaneState) → ShowsState c s → slice_get s.lanes l ≡ Some v → next_of c.buffer l ≡ v.handed
next_is c s l v shows at = ap (λ (xs : List ℕ). get_or xs l 0) shows.nexts
    ∙ get_or_from_slice_get (map (λ (u : LaneState). u.handed) s.lanes) l v.handed 0 (get_map (λ (u : LaneState). u.handed) s.lanes l v at)

-- where no next number of the lane waits, the machine hands none
none_at : (c : Contents) (s : State) (l : ℕ) (o : Option LaneState) → slice_get s.lanes l ≡ o → ShowsState c s → has_next c.buffer l ≡ false → hand s l o ≡ None
none_at c s l None at shows none = refl
none_at c s l (Some v) at shows none =
    let gone : is_among l v.handed c.buffer.waiting ≡ false = ap (λ n. is_among l n c.buffer.waiting) (sym (next_is c s l v shows at)) ∙ none in
    let off = not_among l v.handed s.waiting (sum_by-IsPermutation (λ y. once (is_ticket_of l v.handed y)) c.buffer.waiting s.waiting shows.waiting
    ∙ not_among_times l v.handed c.buffer.waiting gone) in
    cond-false (is_among l v.handed s.waiting) _ None off

pub hand_none : (c : Contents) (l : ℕ) → has_next c.buffer l ≡ false → Steps c (Hand l) false c
hand_none c l none = λ s r shows. idle c s (Hand l) (none_at c s l (slice_get s.lanes l) refl shows none) shows

-- what was looked up, if it is x
item_from : (x : Plain) (o : Option Plain) → is_item x o ≡ true → o ≡ Some x
item_from x None e = absurd (cc)
item_from x (Some y) e = let same = same_from x y e in λ i. Some (sym same i)

-- what is its lane's own is what was submitted under its number
own_from : (s : State) (x : Plain) (l n : ℕ) → once (not (is_own s x)) ≡ 0 → x.lane ≡ l → x.number ≡ n → slice_get (submitted_by s l) n ≡ Some x
own_from s x l n own lane number =
    (λ i. slice_get (submitted_by s (sym lane i)) (sym number i)) ∙ item_from x (slice_get (submitted_by s x.lane) x.number) (true_from_once_not (is_own s x) own)

-- by whether the first is the lane's next number
first_by : (b : Bool) (s : State) (l n : ℕ) (x y : Plain) (xs : List Plain) (h : Plain → ℕ) → slice_get (submitted_by s l) n ≡ Some x → once (not (is_own s y))
    ≡ 0 → is_ticket_of l n y ≡ b → (b || is_among l n xs) ≡ true
    → (is_among l n xs ≡ true → sum_by h (without l n xs) + h x ≡ sum_by h xs)
    → sum_by h (cond b xs (y ∷ without l n xs)) + h x ≡ h y + sum_by h xs
first_by true s l n x y xs h at own is any rest =
    let t = ticket_parts l n y is in
    let there = own_from s y l n own t.0 t.1 in
    let both : Some x ≡ Some y = sym at ∙ there in
    let same : x ≡ y = cc in
    let weight = ap h same in omega arith
first_by false s l n x y xs h at own is any rest = let e = rest any in omega (arith, sum_by-cons h y (without l n xs))

-- what waits without the lane's next number
without_own : (s : State) (l n : ℕ) (x : Plain) (xs : List Plain) (h : Plain → ℕ) → slice_get (submitted_by s l) n ≡ Some x
    → count_by (λ y. not (is_own s y)) xs ≡ 0 → is_among l n xs ≡ true
    → sum_by h (without l n xs) + h x ≡ sum_by h xs
without_own s l n x [] h at own any = absurd (cc)
without_own s l n x (y ∷ xs) h at own any =
    let lost = sum_by-cons (λ z. once (not (is_own s z))) y xs in
    omega (arith, sum_by-cons h y xs, first_by (is_ticket_of l n y) s l n x y xs h at (omega arith) refl any (λ f. without_own s l n x xs h at (omega arith) f))

-- what is among all that waits is among the rest, or is the lane's next number: `times_without`, of the test
among_without : (l n m k : ℕ) (xs : List Plain) → is_among l n xs ≡ true → is_among m k xs ≡ (is_among m k (without l n xs) || ((l == m) && (n == k)))
among_without l n m k xs any =
    any_counted (is_ticket_of m k) xs
    ∙ (ap (nat_lt 0) (sym (times_without l n m k xs any))
    ∙ (above_none (count_by (is_ticket_of m k) (without l n xs)) ((l == m) && (n == k))
    ∙ ap (λ b. b || ((l == m) && (n == k))) (sym (any_counted (is_ticket_of m k) (without l n xs)))))
  where
    above_none : (c : ℕ) (b : Bool) → nat_lt 0 (c + once b) ≡ (nat_lt 0 c || b)
    above_none c true = lt-ltb 0 (c + 1) (omega arith) ∙ sym (or-true (nat_lt 0 c))
    above_none c false = ap (nat_lt 0) (let z : c + 0 ≡ c = omega arith in z) ∙ sym (or-false (nat_lt 0 c))

-- what is below the number after the lane's next is below that or is it
below_handed : (s : State) (l m k : ℕ) (v : LaneState) → slice_get s.lanes l ≡ Some v
    → nat_lt k (of_lane 0 (λ u. u.handed) (slice_get (set s.lanes l (lane_state v.submitted v.closed v.polled (v.handed + 1))) m))
    ≡ (nat_lt k (handed_of s m) || ((l == m) && (v.handed == k)))
below_handed s l m k v at =
    let w = lane_state v.submitted v.closed v.polled (v.handed + 1) in ⊎_elim
    (λ (e : m ≡ l). ap (λ n. nat_lt k n) (lane_here 0 (λ u. u.handed) s.lanes l m v w at e)
    ∙ (below_next v.handed k
    ∙ (λ i. nat_lt k (sym (lane_was 0 (λ u. u.handed) s.lanes l m v at e) i) || (sym (eq-eqb l m (sym e)) i && (v.handed == k)))))
    (λ (e : m ≢ l). ap (λ n. nat_lt k n) (lane_else 0 (λ u. u.handed) s.lanes l m w e)
    ∙ sym (or_false (nat_lt k (handed_of s m)) ((l == m) && (v.handed == k)) (and_left (l == m) (v.handed == k) (ne_eqb l m (λ f. e (sym f))))))
    (cases_eq m l)

-- std's `take_more`, where that place has y
one_longer : (xs : List Plain) (n : ℕ) (y : Plain) → slice_get xs n ≡ Some y → take (n + 1) xs ≡ take n xs ++ y ∷ []
one_longer xs n y at = take_more xs n y (slice_get_within xs n y at) ∙ ap (λ z. take n xs ++ z ∷ []) (get_or_from_slice_get xs n y y at)

-- std's `or_comm` and `or_assoc`, of three
last_to_front : (a b c : Bool) → (a || (b || c)) ≡ ((a || c) || b)
last_to_front a b c = ap (λ d. a || d) (or_comm b c) ∙ sym (or_assoc a c b)

pub hand_done : (c : Contents) (l : ℕ) (x : LaneContents) (y : Plain) (e : ReorderBuffer) → slice_get c.lanes l ≡ Some x → GivesNext c.buffer l y e
    → Steps c (Hand l) true (contents c.year (set c.lanes l (lane_contents x.closed x.issued (x.handed ++ y ∷ []) x.polled)) c.jobs c.workers c.results e)
hand_done c l x y e at gives = λ s r shows.
    let f = found c s l x shows at in
    let v = f.0 in
    let good = reached_good s r in
    let number : y.number ≡ v.handed = gives.number ∙ next_is c s l v shows f.1 in
    let own_all = good.own in
    let there = sum_by-IsPermutation (λ z. once (not (is_own s z))) c.buffer.waiting s.waiting shows.waiting in
    let less = gives.leaves.waiting (λ z. once (not (is_own s z))) in
    let none : count_by (λ z. not (is_own s z)) s.waiting ≡ 0 = omega arith in
    let own : once (not (is_own s y)) ≡ 0 = omega arith in
    let row = own_from s y l v.handed own gives.lane number in
    let row_here : slice_get v.submitted v.handed ≡ Some y =
    ap (λ (xs : List Plain). slice_get xs v.handed) (sym (lane_was [] (λ u. u.submitted) s.lanes l l v f.1 refl)) ∙ row in
    let ticket = ap once (ticket_from l v.handed y gives.lane number) in
    let times_there = sum_by-IsPermutation (λ z. once (is_ticket_of l v.handed z)) c.buffer.waiting s.waiting shows.waiting in
    let times_less = gives.leaves.waiting (λ z. once (is_ticket_of l v.handed z)) in
    let waits = among_from l v.handed s.waiting (omega arith) in
    let w = lane_state v.submitted v.closed v.polled (v.handed + 1) in
    let t = state s.year (set s.lanes l w) s.jobs s.workers s.results (without l v.handed s.waiting) in
    let shown : shown_lane w ≡ lane_contents x.closed x.issued (x.handed ++ y ∷ []) x.polled =
    λ i. lane_contents (f.2 i).closed (f.2 i).issued ((one_longer v.submitted v.handed y row_here ∙ ap (λ (u : LaneContents). u.handed ++ y ∷ []) f.2) i)
    (f.2 i).polled in
    done _ s t (Hand l) (ap (hand s l) f.1 ∙ (λ i. cond (waits i) (Some t) None))
    record {
      year = shows.year;
      lanes = (λ i. set (shows.lanes i) l (sym shown i)) ∙ sym (map-set shown_lane s.lanes l w);
      jobs = shows.jobs;
      workers = shows.workers;
      results = shows.results;
      nexts = gives.nexts ∙ ((λ i. set (shows.nexts i) l (next_is c s l v shows f.1 i + 1)) ∙ sym (map-set (λ (u : LaneState). u.handed) s.lanes l w));
      waiting = permutation_from e.waiting (without l v.handed s.waiting)
          (λ h. let a = gives.leaves.waiting h in let b = sum_by-IsPermutation h c.buffer.waiting s.waiting shows.waiting in let d =
          without_own s l v.handed y s.waiting h row none waits in omega arith);
      known = λ m k.
          gives.leaves.known m k
          ∙ (shows.known m k
          ∙ (ap (λ b. nat_lt k (handed_of s m) || b) (among_without l v.handed m k s.waiting waits)
          ∙ (last_to_front (nat_lt k (handed_of s m)) (is_among m k (without l v.handed s.waiting)) ((l == m) && (v.handed == k))
          ∙ ap (λ b. b || is_among m k (without l v.handed s.waiting)) (sym (below_handed s l m k v f.1)))));
    }

-- where the lane's next number waits, it may be handed
pub hand_enabled : (c : Contents) (l : ℕ) (x : LaneContents) (y : Plain) → slice_get c.lanes l ≡ Some x → WaitsAsNext c.buffer l y → IsEnabled c (Hand l)
hand_enabled c l x y at next = λ s r shows.
    let f = found c s l x shows at in
    let v = f.0 in
    let here = ap (λ n. is_among l n c.buffer.waiting) (sym (next_is c s l v shows f.1)) ∙ next_has c.buffer l y next in
    let there = sum_by-IsPermutation (λ z. once (is_ticket_of l v.handed z)) c.buffer.waiting s.waiting shows.waiting in
    let least = among_times l v.handed c.buffer.waiting here in
    let waits = among_from l v.handed s.waiting (omega arith) in
    ap (λ o. is_some o) (ap (hand s l) f.1 ∙ cond-true (is_among l v.handed s.waiting) _ None waits)
