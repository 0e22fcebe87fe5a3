-- A new hub and its seats: for `Hub::new`. `count_small` is for `serve` too, and `has_each` for `finish_all`.
use Rattle.std.proofs.Common.{◌≡◌, ◌==◌, ◌&&◌, ℕ, ◌+◌, ◌-◌, ◌<◌, ◌≤◌, nat_lt, nat_le, true, zero, suc, List, [], get_or, length, map, refl, replicate, sym, ap, ◌∙◌, subst, arith, Some}
use Rattle.std.specs.List.{slice_get, All, range_with_len, sum_by, count_by}
use Rattle.std.proofs.lemmas.Bool.{and_parts, leb-true}
use Rattle.std.proofs.lemmas.List.Sums.{sum_by-cons}
use Rattle.rtrb.specs.Ring.{IsPair, sent}
use Rattle.lane_core.specs.declared.job.Plain.{Plain}
use Rattle.lane_core.specs.ReorderBuffer.{ReorderBuffer, new_buffer, was_taken}
use Rattle.lane_core.specs.Weights.{once}
use Rattle.hub_core.specs.declared.rule.Trace.{Trace}
use Rattle.hub_core.specs.declared.shape.Shape.{Shape}
use Rattle.hub_core.specs.declared.lane_seat.LaneSeat.{LaneSeat}
use Rattle.hub_core.specs.inner.Fresh.{IsPairedIn, IsUnsent}
use Rattle.hub_core.specs.Lanes.{lane_of}
use Rattle.hub_core.specs.Hubs.{HasEach}
use Rattle.hub_core.specs.Rings.{PushEnd, all_sent}
use Rattle.hub_core.specs.Rule.{trace}
use Rattle.hub_core.specs.Serving.{is_seat_count, numbered_rows}
use Rattle.hub_core.specs.Shapes.{is_allowed}
use Rattle.hub_core.specs.inner.Accounting.{Accounted}
use Rattle.hub_core.proofs.GivesInOrder.{fresh_in_order}
use Rattle.element_core.specs.Terms.{Terms}
use Rattle.hub_core.proofs.ListsOfLists.{all_empty, empties_at, sum_empties}
use Rattle.lane_core.proofs.TruthFacts.{false_from_once, once_below_zero, once_below_next}
use Rattle.std.proofs.Math.Bool.{or-false}

-- what the test of a count of seats says
pub count_small : (n : ℕ) → is_seat_count n ≡ true → n ≤ 16
count_small n e = leb-true n 16 (and_parts (nat_le 1 n) (nat_le n 16) e).1

-- 16 lanes and 16 workers at most, so that each seat gets one of the 1,024 shares and the deliverer has some left
pub few_seats : (s : Shape) → is_allowed s ≡ true → (s.lanes ≤ 16) × (s.workers ≤ 16)
few_seats s e =
    let a = and_parts (is_seat_count s.lanes) _ e in
    let b = and_parts (is_seat_count s.workers) _ a.1 in
    (count_small s.lanes a.0, count_small s.workers b.0)

-- the shares of the queue of results that are left, once the workers have theirs
pub left_after_cut : (a b : Trace) (w : ℕ) → w ≤ 16 → a ≡ trace 1024 [] [] → b ≡ trace (a.shares - w) a.pushed a.popped
    → (b.pushed ≡ []) × (b.popped ≡ []) × (0 < b.shares) × (b.shares + w ≡ 1024)
left_after_cut a b w few first cut =
    let p = ap (λ (t : Trace). t.shares) first in
    let q = ap (λ (t : Trace). t.shares) cut in (
      ap (λ (t : Trace). t.pushed) cut ∙ ap (λ (t : Trace). t.pushed) first,
      ap (λ (t : Trace). t.popped) cut ∙ ap (λ (t : Trace). t.popped) first,
      omega arith,
      omega arith,
    )

-- the shares of the queue of jobs that are left, once the lanes and the workers have theirs
pub left_of_jobs : (a b c : Trace) (n w : ℕ) → n ≤ 16 → w ≤ 16 → a ≡ trace 1024 [] [] → b ≡ trace (a.shares - n) a.pushed a.popped → c
    ≡ trace (b.shares - w) b.pushed b.popped
    → (c.pushed ≡ []) × (c.popped ≡ []) × (0 < c.shares) × (c.shares + n + w ≡ 1024)
left_of_jobs a b c n w few fewer first cut cut' =
    let lanes = left_after_cut a b n few first cut in
    let shares = ap (λ (t : Trace). t.shares) cut' in (
      ap (λ (t : Trace). t.pushed) cut' ∙ lanes.0,
      ap (λ (t : Trace). t.popped) cut' ∙ lanes.1,
      omega (arith, lanes.3),
      omega (arith, lanes.3),
    )

-- rings that were sent nothing, and the account of a deliverer that took nothing in
unsent_all : (capacity : ℕ) (rings : List PushEnd) → All (IsUnsent capacity) rings → all_sent rings ≡ replicate (length rings) []
unsent_all capacity rings unsent = all_empty (λ (r : PushEnd). sent r) (IsUnsent capacity) rings (λ r is. is.0) unsent

pub fresh_accounted : (n capacity : ℕ) (rings : List PushEnd) (d : ReorderBuffer) (collected : List Plain) → d ≡ new_buffer n → length rings ≡ n
    → All (IsUnsent capacity) rings → collected ≡ []
    → Accounted d collected [] (all_sent rings)
fresh_accounted n capacity rings d collected is long unsent none =
    let given = unsent_all capacity rings unsent ∙ ap (λ m. replicate m []) long in
    let giving = fresh_in_order n d is in
    let waiting = ap (λ (e : ReorderBuffer). e.waiting) is in
    subst (λ (x : List Plain × List (List Plain)). Accounted d x.0 [] x.1) (λ i. (sym none i, sym given i)) record {
      giving = giving;
      none_lost = λ h. let a = ap (sum_by h) waiting in let b = sum_empties h n in omega arith;
      known = λ l k. or-false (was_taken d l k) ∙ (false_from_once (was_taken d l k) (
          let t = giving.taken l k in
          let w = ap (count_by (λ x. (x.lane == l) && (x.number == k))) waiting in
          let z = sym (giving.counted l) ∙ ap length (empties_at n l) in
          let y = ap (λ m. once (nat_lt k m)) z in
          omega (arith, t, w, y, once_below_zero k)));
      fresh = refl;
    }

-- the n numbers from a on, each once
numbers_counted_once : (a n l : ℕ) → count_by (λ k. k == l) (range_with_len a n) + once (nat_lt l a) ≡ once (nat_lt l (a + n))
numbers_counted_once a zero l = let e : a ≡ a + 0 = omega arith in let w = ap (λ m. once (nat_lt l m)) e in omega arith
numbers_counted_once a (suc n) l =
    let rest = numbers_counted_once (a + 1) n l in
    let e : a + 1 + n ≡ a + suc n = omega arith in
    let w = ap (λ m. once (nat_lt l m)) e in
    omega (arith, sum_by-cons (λ k. once (k == l)) a (range_with_len (a + 1) n), once_below_next l a)

-- the numbers below n, each once
pub has_each : (n : ℕ) (numbers : List ℕ) → numbers ≡ range_with_len 0 n → HasEach n numbers
has_each n numbers is l =
    let e : 0 + n ≡ n = omega arith in
    let w = ap (λ m. once (nat_lt l m)) e in
    let a = ap (count_by (λ k. k == l)) is in
    omega (arith, numbers_counted_once 0 n l, once_below_zero l)

-- no lane was handed anything
pub given_none : (capacity : ℕ) (rings : List PushEnd) (l : ℕ) → All (IsUnsent capacity) rings → get_or (all_sent rings) l [] ≡ []
given_none capacity rings l unsent = ap (λ gs. get_or gs l []) (unsent_all capacity rings unsent) ∙ empties_at (length rings) l

-- the lane's ring is that of its number in the hub, whose list is the rings as they were made (`IsPopEnd`)
pub ring_of : (made rings : List PushEnd) (s : LaneSeat) → made ≡ rings → IsPairedIn rings s → (r : PushEnd) → slice_get made (lane_of s) ≡ Some r
    → IsPair r s.ring
ring_of made rings s is paired r at = paired.1 r (ap (λ rs. slice_get rs (lane_of s)) (sym is) ∙ at)

-- a lane that has submitted nothing has submitted its rows: `rows` of `IsLaneOf`
pub no_rows : (l : ℕ) (year : Terms) (xs : List Plain) → xs ≡ [] → xs ≡ numbered_rows l 0 year (map (λ x. x.widths) xs)
no_rows l year xs is = is ∙ sym (ap (λ ys. numbered_rows l 0 year (map (λ (x : Plain). x.widths) ys)) is)
