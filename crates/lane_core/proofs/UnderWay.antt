-- What is under way after each event, and how often a ticket waits without one (`without`): for `Good`.
use Rattle.std.proofs.Common.{◌≡◌, ℕ, ◌+◌, ◌≤◌, ◌==◌, ◌&&◌, ◌||◌, cond, Bool, true, false, List, [], ◌∷◌, ◌++◌, set, Option, Some, None, option_to_list, refl, ap, arith}
use Rattle.std.specs.List.{slice_get, sum_by, count_by}
use Rattle.std.proofs.lemmas.List.Sums.{sum_by-append, sum_by-cons}
use Rattle.lane_core.specs.declared.job.Plain.{Plain}
use Rattle.lane_core.specs.Machine.{LaneState, State, state, without}
use Rattle.lane_core.specs.Tickets.{is_among, is_ticket_of}
use Rattle.lane_core.specs.Weights.{once}
use Rattle.lane_core.specs.Whereabouts.{sum_under_way}
use Rattle.lane_core.proofs.WeightFacts.{sum_put}
use Rattle.lane_core.proofs.TicketFacts.{ticket_is}

-- a job came
pub under_way_more : (s : State) (lanes : List LaneState) (x : Plain) (h : Plain → ℕ)
    → sum_under_way h (state s.year lanes (s.jobs ++ x ∷ []) s.workers s.results s.waiting) ≡ sum_under_way h s + h x
under_way_more s lanes x h = let more = sum_by-append h s.jobs (x ∷ []) in omega arith

-- a worker took the first job
pub taken_under_way : (s : State) (w : ℕ) (x : Plain) (jobs : List Plain) (h : Plain → ℕ) → slice_get s.workers w ≡ Some None → s.jobs ≡ x ∷ jobs
    → sum_under_way h (state s.year s.lanes jobs (set s.workers w (Some x)) s.results s.waiting) ≡ sum_under_way h s
taken_under_way s w x jobs h at is =
    let put = sum_put (λ (o : Option Plain). sum_by h (option_to_list o)) s.workers w None (Some x) at in
    let front = ap (sum_by h) is in omega (arith, sum_by-cons h x jobs)

-- a worker posted its job's result
pub posted_under_way : (s : State) (w : ℕ) (x : Plain) (h : Plain → ℕ) → slice_get s.workers w ≡ Some (Some x)
    → sum_under_way h (state s.year s.lanes s.jobs (set s.workers w None) (s.results ++ x ∷ []) s.waiting) ≡ sum_under_way h s
posted_under_way s w x h at =
    let put = sum_put (λ (o : Option Plain). sum_by h (option_to_list o)) s.workers w (Some x) None at in
    let more = sum_by-append h s.results (x ∷ []) in omega arith

-- the first result was collected
pub collected_under_way : (s : State) (x : Plain) (results : List Plain) (h : Plain → ℕ) → s.results ≡ x ∷ results
    → sum_under_way h (state s.year s.lanes s.jobs s.workers results (s.waiting ++ x ∷ [])) ≡ sum_under_way h s
collected_under_way s x results h is =
    let front = ap (sum_by h) is in
    let more = sum_by-append h s.waiting (x ∷ []) in omega (arith, sum_by-cons h x results)

-- by whether the first has the ticket
out_by : (b : Bool) (l n m k : ℕ) (x : Plain) (xs : List Plain) → is_ticket_of l n x ≡ b → (b || is_among l n xs) ≡ true
    → (is_among l n xs ≡ true → count_by (is_ticket_of m k) (without l n xs) + once ((l == m) && (n == k)) ≡ count_by (is_ticket_of m k) xs)
    → count_by (is_ticket_of m k) (cond b xs (x ∷ without l n xs)) + once ((l == m) && (n == k)) ≡ count_by (is_ticket_of m k) (x ∷ xs)
out_by true l n m k x xs is any rest = let e = ap once (ticket_is l n m k x is) in omega (arith, sum_by-cons (λ y. once (is_ticket_of m k y)) x xs)
out_by false l n m k x xs is any rest = let e = rest any in omega
    (arith, sum_by-cons (λ y. once (is_ticket_of m k y)) x xs, sum_by-cons (λ y. once (is_ticket_of m k y)) x (without l n xs))

-- how often lane m's number k waits without lane l's number n; HandShowFacts has the sum that is left where all that waits was submitted (`without_own`)
pub times_without : (l n m k : ℕ) (xs : List Plain) → is_among l n xs ≡ true → count_by (is_ticket_of m k) (without l n xs) + once ((l == m) && (n == k))
    ≡ count_by (is_ticket_of m k) xs
times_without l n m k [] e = absurd (cc)
times_without l n m k (x ∷ xs) e = out_by (is_ticket_of l n x) l n m k x xs refl e (λ f. times_without l n m k xs f)

-- no sum over what waits is more without a ticket
less_by : (b : Bool) (l n : ℕ) (h : Plain → ℕ) (x : Plain) (xs : List Plain) → sum_by h (without l n xs) ≤ sum_by h xs
    → sum_by h (cond b xs (x ∷ without l n xs)) ≤ h x + sum_by h xs
less_by true l n h x xs rest = omega arith
less_by false l n h x xs rest = omega (arith, sum_by-cons h x (without l n xs))

pub sum_without : (l n : ℕ) (h : Plain → ℕ) (xs : List Plain) → sum_by h (without l n xs) ≤ sum_by h xs
sum_without l n h [] = omega arith
sum_without l n h (x ∷ xs) = omega (arith, sum_by-cons h x xs, less_by (is_ticket_of l n x) l n h x xs (sum_without l n h xs))
