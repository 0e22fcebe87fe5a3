-- What holds of every state that a machine comes to (`Good`), and that each event keeps it: `StepFacts` goes through the events.
-- `v` is lane l before an event, and `w` after it. A proof looks at lane l and at the other lanes apart.
use Rattle.std.proofs.Common.{◌≡◌, ◌≢◌, ⊎_elim, ℕ, ◌+◌, ◌≤◌, ◌==◌, ◌&&◌, not, nat_lt, Bool, true, false, zero, suc, List, [], ◌∷◌, ◌++◌, length, length-append, set, Option, Some, None, option_to_list, refl, sym, ap, ◌∙◌, subst, arith}
use Rattle.std.specs.List.{AllByRecursion, slice_get, sum_by}
use Rattle.std.proofs.lemmas.List.Sums.{sum_by-append, sum_by-le-sum_by}
use Rattle.std.proofs.lemmas.Bool.{cases_eq, ne_eqb, eq-eqb}
use Rattle.std.proofs.lemmas.List.Elements.{All-from_recursion, All-push, recursion_from_All}
use Rattle.lane_core.specs.declared.job.Plain.{Plain}
use Rattle.lane_core.specs.Machine.{LaneState, State, lane_state, state, handed_of, issued_of, of_lane, polled_of, submitted_by, without}
use Rattle.lane_core.specs.Tickets.{is_among, is_ticket_of, numbered}
use Rattle.lane_core.specs.Weights.{once}
use Rattle.lane_core.specs.Whereabouts.{times_under_way, sum_under_way}
use Rattle.lane_core.proofs.ChangedLane.{lane_else, lane_here, lane_kept, lane_was}
use Rattle.lane_core.proofs.SameFacts.{is_same, same_self}
use Rattle.lane_core.proofs.UnderWay.{times_without, under_way_more, sum_without}
use Rattle.lane_core.proofs.TruthFacts.{once_below_next, once_le}
use Rattle.lane_core.proofs.TicketFacts.{other_ticket, own_ticket, numbered_more}

-- whether x is what was looked up, if something was
abbrev pub is_item : Plain → Option Plain → Bool
is_item x None = false
is_item x (Some y) = is_same x y

-- whether it is what its lane submitted under its number
abbrev pub is_own : State → Plain → Bool
is_own s x = is_item x (slice_get (submitted_by s x.lane) x.number)

-- each issued ticket is under way or handed, once, and no other is; a lane has polled no more than it was handed; what it has submitted is its numbers in
-- order under the machine's year; and what is under way was submitted
pub record Good (s : State) : Type 0 where
  pub one : (l k : ℕ) → times_under_way s l k + once (nat_lt k (handed_of s l)) ≡ once (nat_lt k (issued_of s l))
  pub few : (l : ℕ) → polled_of s l ≤ handed_of s l
  pub in_order : (l : ℕ) → numbered l 0 (submitted_by s l) ≡ true
  pub same_year : (l : ℕ) → AllByRecursion (λ x. x.year ≡ s.year) (submitted_by s l)
  pub own : sum_under_way (λ x. once (not (is_own s x))) s ≡ 0

-- where items only went from place to place
pub moved : (s : State) (jobs : List Plain) (workers : List (Option Plain)) (results waiting : List Plain)
    → ((h : Plain → ℕ) → sum_under_way h (state s.year s.lanes jobs workers results waiting) ≡ sum_under_way h s)
    → Good s → Good (state s.year s.lanes jobs workers results waiting)
moved s jobs workers results waiting same good = record {
  one = λ l k. let e = same (λ x. once (is_ticket_of l k x)) in omega (arith, good.one l k);
  few = good.few;
  in_order = good.in_order;
  same_year = good.same_year;
  own = same (λ x. once (not (is_own s x))) ∙ good.own;
}

-- where nothing is submitted and nothing handed: `sub` and `h` say of each lane that its submitted rows and its handed number stay
pub settled : (s : State) (l : ℕ) (v w : LaneState) → slice_get s.lanes l ≡ Some v → w.submitted ≡ v.submitted → w.handed ≡ v.handed → w.polled ≤ w.handed
    → Good s
    → Good (state s.year (set s.lanes l w) s.jobs s.workers s.results s.waiting)
settled s l v w at submitted handed few good =
    let sub : (m : ℕ) → of_lane [] (λ u. u.submitted) (slice_get (set s.lanes l w) m) ≡ submitted_by s m =
    λ m. lane_kept [] (λ u. u.submitted) s.lanes l m v w at submitted in
    let h : (m : ℕ) → of_lane 0 (λ u. u.handed) (slice_get (set s.lanes l w) m) ≡ handed_of s m = λ m. lane_kept 0 (λ u. u.handed) s.lanes l m v w at handed in
    record {
      one = λ m k. ap (λ n. times_under_way s m k + once (nat_lt k n)) (h m) ∙ (good.one m k ∙ ap (λ xs. once (nat_lt k (length xs))) (sym (sub m)));
      few = λ m.
          let a = h m in
          let b = good.few m in
          ⊎_elim
          (λ (e : m ≡ l).
          let x = lane_here 0 (λ u. u.polled) s.lanes l m v w at e in
          let y = lane_here 0 (λ u. u.handed) s.lanes l m v w at e in omega arith)
          (λ (e : m ≢ l). let x = lane_else 0 (λ u. u.polled) s.lanes l m w e in omega arith)
          (cases_eq m l);
      in_order = λ m. ap (numbered m 0) (sub m) ∙ good.in_order m;
      same_year = λ m. subst (AllByRecursion (λ (x : Plain). x.year ≡ s.year)) (sym (sub m)) (good.same_year m);
      own = (λ i. sum_under_way (λ x. once (not (is_item x (slice_get (sub x.lane i) x.number)))) s) ∙ good.own;
    }

-- where a lane was handed its next number: `sub` and `p` say of each lane that its submitted rows and its polled number stay
pub given : (s : State) (l : ℕ) (v : LaneState) → slice_get s.lanes l ≡ Some v → is_among l v.handed s.waiting ≡ true → Good s
    → Good (state s.year (set s.lanes l (lane_state v.submitted v.closed v.polled (v.handed + 1))) s.jobs s.workers s.results (without l v.handed s.waiting))
given s l v at waits good =
    let w = lane_state v.submitted v.closed v.polled (v.handed + 1) in
    let sub : (m : ℕ) → of_lane [] (λ u. u.submitted) (slice_get (set s.lanes l w) m) ≡ submitted_by s m =
    λ m. lane_kept [] (λ u. u.submitted) s.lanes l m v w at refl in
    let p : (m : ℕ) → of_lane 0 (λ u. u.polled) (slice_get (set s.lanes l w) m) ≡ polled_of s m = λ m. lane_kept 0 (λ u. u.polled) s.lanes l m v w at refl in
    record {
      one = λ m k.
          let out = times_without l v.handed m k s.waiting waits in
          let ii = ap (λ (xs : List Plain). once (nat_lt k (length xs))) (sub m) in
          let was = good.one m k in
          ⊎_elim
          (λ (e : m ≡ l).
          let a = ap (λ j. once (nat_lt k j)) (lane_here 0 (λ u. u.handed) s.lanes l m v w at e) in
          let b = ap (λ j. once (nat_lt k j)) (lane_was 0 (λ u. u.handed) s.lanes l m v at e) in
          let own : once ((l == m) && (v.handed == k)) ≡ once (v.handed == k) =
          ap (λ j. once ((l == j) && (v.handed == k))) e ∙ ap (λ c. once (c && (v.handed == k))) (eq-eqb l l refl) in
          omega (arith, once_below_next k v.handed))
          (λ (e : m ≢ l).
          let a = ap (λ j. once (nat_lt k j)) (lane_else 0 (λ u. u.handed) s.lanes l m w e) in
          let other : once ((l == m) && (v.handed == k)) ≡ 0 = ap (λ c. once (c && (v.handed == k))) (ne_eqb l m (λ f. e (sym f))) in
          omega arith)
          (cases_eq m l);
      few = λ m. let a = good.few m in let c = p m in
          ⊎_elim
          (λ (e : m ≡ l). let h = lane_here 0 (λ u. u.handed) s.lanes l m v w at e in let i = lane_was 0 (λ u. u.handed) s.lanes l m v at e in omega arith)
          (λ (e : m ≢ l). let h = lane_else 0 (λ u. u.handed) s.lanes l m w e in omega arith)
          (cases_eq m l);
      in_order = λ m. ap (numbered m 0) (sub m) ∙ good.in_order m;
      same_year = λ m. subst (AllByRecursion (λ (x : Plain). x.year ≡ s.year)) (sym (sub m)) (good.same_year m);
      own =
          let fewer = sum_without l v.handed (λ x. once (not (is_own s x))) s.waiting in
          let none : sum_under_way (λ x. once (not (is_own s x))) (state s.year s.lanes s.jobs s.workers s.results (without l v.handed s.waiting)) ≡ 0 =
          omega (arith, good.own) in
          (λ i. sum_under_way (λ x. once (not (is_item x (slice_get (sub x.lane i) x.number))))
          (state s.year s.lanes s.jobs s.workers s.results (without l v.handed s.waiting))) ∙ none;
    }

-- an item is still there where more was submitted
item_more : (x : Plain) (xs ys : List Plain) (k : ℕ) → once (not (is_item x (slice_get (xs ++ ys) k))) ≤ once (not (is_item x (slice_get xs k)))
item_more x [] ys k = once_le (not (is_item x (slice_get ys k)))
item_more x (y ∷ xs) ys zero = omega arith
item_more x (y ∷ xs) ys (suc k) = item_more x xs ys k

-- what was submitted last is there
last_item : (x : Plain) (xs : List Plain) (k : ℕ) → k ≡ length xs → is_item x (slice_get (xs ++ x ∷ []) k) ≡ true
last_item x [] zero e = same_self x
last_item x [] (suc k) e = absurd (omega arith)
last_item x (y ∷ xs) zero e = absurd (omega arith)
last_item x (y ∷ xs) (suc k) e = last_item x xs k (omega arith)

-- where a lane submitted x: `h` and `p` say what stays of each lane, `here` and `else_` what it has submitted, `still` and `new` what is its own
pub added : (s : State) (l : ℕ) (v : LaneState) (x : Plain) → slice_get s.lanes l ≡ Some v → x.lane ≡ l → x.number ≡ length v.submitted → x.year ≡ s.year
    → Good s
    → Good (state s.year (set s.lanes l (lane_state (v.submitted ++ x ∷ []) v.closed v.polled v.handed)) (s.jobs ++ x ∷ []) s.workers s.results s.waiting)
added s l v x at lane number year good =
    let w = lane_state (v.submitted ++ x ∷ []) v.closed v.polled v.handed in
    let t = state s.year (set s.lanes l w) (s.jobs ++ x ∷ []) s.workers s.results s.waiting in
    let h : (m : ℕ) → of_lane 0 (λ u. u.handed) (slice_get (set s.lanes l w) m) ≡ handed_of s m = λ m. lane_kept 0 (λ u. u.handed) s.lanes l m v w at refl in
    let p : (m : ℕ) → of_lane 0 (λ u. u.polled) (slice_get (set s.lanes l w) m) ≡ polled_of s m = λ m. lane_kept 0 (λ u. u.polled) s.lanes l m v w at refl in
    let here : (m : ℕ) → m ≡ l → (submitted_by t m ≡ v.submitted ++ x ∷ []) × (submitted_by s m ≡ v.submitted) =
    λ m e. (lane_here [] (λ u. u.submitted) s.lanes l m v w at e, lane_was [] (λ u. u.submitted) s.lanes l m v at e) in
    let else_ : (m : ℕ) → m ≢ l → submitted_by t m ≡ submitted_by s m = λ m e. lane_else [] (λ u. u.submitted) s.lanes l m w e in
    let still : (y : Plain) → once (not (is_own t y)) ≤ once (not (is_own s y)) = λ y. ⊎_elim
    (λ (e : y.lane ≡ l).
    let a = ap (λ (xs : List Plain). once (not (is_item y (slice_get xs y.number)))) (here y.lane e).0 in
    let b = ap (λ (xs : List Plain). once (not (is_item y (slice_get xs y.number)))) (here y.lane e).1 in
    let c = item_more y v.submitted (x ∷ []) y.number in omega arith)
    (λ (e : y.lane ≢ l). let a = ap (λ (xs : List Plain). once (not (is_item y (slice_get xs y.number)))) (else_ y.lane e) in omega arith)
    (cases_eq y.lane l) in
    let new : is_own t x ≡ true = ap (λ (xs : List Plain). is_item x (slice_get xs x.number)) (here x.lane lane).0 ∙ last_item x v.submitted x.number number in
    record {
      one = λ m k.
          let more = sum_by-append (λ (y : Plain). once (is_ticket_of m k y)) s.jobs (x ∷ []) in
          let hh = ap (λ n. once (nat_lt k n)) (h m) in
          let was = good.one m k in
          ⊎_elim
          (λ (e : m ≡ l).
          let n = ap (λ (xs : List Plain). once (nat_lt k (length xs))) (here m e).0 ∙ ap (λ j. once (nat_lt k j)) (length-append v.submitted (x ∷ [])) in
          let b = ap (λ (xs : List Plain). once (nat_lt k (length xs))) (here m e).1 in
          let own : once (is_ticket_of m k x) ≡ once (length v.submitted == k) =
          ap (λ j. once (is_ticket_of j k x)) e ∙ own_ticket l (length v.submitted) k x lane number in
          omega (arith, once_below_next k (length v.submitted)))
          (λ (e : m ≢ l).
          let n = ap (λ (xs : List Plain). once (nat_lt k (length xs))) (else_ m e) in
          let other = other_ticket l m k x lane e in
          omega arith)
          (cases_eq m l);
      few = λ m. let a = good.few m in let b = h m in let c = p m in omega arith;
      in_order = λ m. ⊎_elim
          (λ (e : m ≡ l). ap (numbered m 0) (here m e).0 ∙ numbered_more m 0 v.submitted x (ap (numbered m 0) (sym (here m e).1) ∙ good.in_order m)
          (lane ∙ sym e) (omega arith))
          (λ (e : m ≢ l). ap (numbered m 0) (else_ m e) ∙ good.in_order m)
          (cases_eq m l);
      same_year = λ m. ⊎_elim
          (λ (e : m ≡ l).
          subst (AllByRecursion (λ (y : Plain). y.year ≡ s.year)) (sym (here m e).0)
          (recursion_from_All (λ y. y.year ≡ s.year) (v.submitted ++ x ∷ []) (All-push (λ y. y.year ≡ s.year) v.submitted x
          (All-from_recursion (λ y. y.year ≡ s.year) v.submitted (subst (AllByRecursion (λ (y : Plain). y.year ≡ s.year)) (here m e).1 (good.same_year m))) year)))
          (λ (e : m ≢ l). subst (AllByRecursion (λ (y : Plain). y.year ≡ s.year)) (sym (else_ m e)) (good.same_year m))
          (cases_eq m l);
      own =
          let f : Plain → ℕ = λ y. once (not (is_own t y)) in
          let g : Plain → ℕ = λ y. once (not (is_own s y)) in
          let more = under_way_more s (set s.lanes l w) x f in
          let last : f x ≡ 0 = ap (λ b. once (not b)) new in
          let jobs = sum_by-le-sum_by f g s.jobs still in
          let workers = sum_by-le-sum_by (λ (o : Option Plain). sum_by f (option_to_list o)) (λ (o : Option Plain). sum_by g (option_to_list o)) s.workers
          (λ o. sum_by-le-sum_by f g (option_to_list o) still) in
          let results = sum_by-le-sum_by f g s.results still in
          let waiting = sum_by-le-sum_by f g s.waiting still in
          let less : sum_under_way f t ≤ sum_under_way g s = omega arith in
          let none = good.own in
          omega arith;
    }
