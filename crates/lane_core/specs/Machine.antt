-- The machine of lanes, workers and one deliverer: what each event asks and does.
use Rattle.std.specs.Prelude.{◌≡◌, ◌&&◌, ◌+◌, ◌^◌, ℕ, Bool, true, false, cond, not, nat_lt, List, [], ◌∷◌, ◌++◌, Option, Some, None, length, slice_get, slice_set, replicate, take}
use Rattle.lane_core.specs.declared.event.Event.{Event}
use Rattle.lane_core.specs.declared.event.Event.TheVariants.{Submit, Take, Post, Collect, Hand, Poll, Close}
use Rattle.lane_core.specs.declared.job.Plain.{Plain}
use Rattle.lane_core.specs.Plain.{plain_of}
use Rattle.element_core.specs.Terms.{Terms}
use Rattle.lane_core.specs.Tickets.{is_among, is_ticket_of}

-- a lane: what it has submitted, whether it is closed, how many deliveries it has polled, and how many it was handed
pub record LaneState : Type 0 where
  pub submitted : List Plain
  pub closed : Bool
  pub polled : ℕ
  pub handed : ℕ

-- the machine: its reference year, the lanes, the queued jobs, each worker's job, the queued results, and the set of deliveries that wait
pub record State : Type 0 where
  pub year : Terms
  pub lanes : List LaneState
  pub jobs : List Plain
  pub workers : List (Option Plain)
  pub results : List Plain
  pub waiting : List Plain

-- the lane with these fields
abbrev pub lane_state : List Plain → Bool → ℕ → ℕ → LaneState
lane_state submitted closed polled handed = record { submitted = submitted; closed = closed; polled = polled; handed = handed }

-- the machine with these fields
abbrev pub state : Terms → List LaneState → List Plain → List (Option Plain) → List Plain → List Plain → State
state year lanes jobs workers results waiting = record { year = year; lanes = lanes; jobs = jobs; workers = workers; results = results; waiting = waiting }

-- at first all is empty
abbrev pub start : ℕ → ℕ → Terms → State
start lanes workers year = state year (replicate lanes (lane_state [] false 0 0)) [] (replicate workers None) [] []

-- without the first that is lane l's number k
abbrev pub without : ℕ → ℕ → List Plain → List Plain
without l k [] = []
without l k (x ∷ xs) = cond (is_ticket_of l k x) xs (x ∷ without l k xs)

-- the lane's next job
abbrev pub next_job : State → ℕ → LaneState → List ℕ → Plain
next_job s l v row = plain_of l (length v.submitted) s.year row

-- The seven functions that follow: each event by what it finds, which `step` looks up. They give the state after it, or none if it is disabled. A lane has
-- 2 ^ 32 tickets at most, since `Ticket` has a number of 32 bits.
abbrev pub submit : State → ℕ → List ℕ → Option LaneState → Option State
submit s l row None = None
submit s l row (Some v) = cond (not v.closed && nat_lt (length v.submitted) (2 ^ 32))
    (Some (state s.year (slice_set s.lanes l (lane_state (v.submitted ++ next_job s l v row ∷ []) v.closed v.polled v.handed))
    (s.jobs ++ next_job s l v row ∷ []) s.workers s.results s.waiting))
    None

abbrev pub take_job : State → ℕ → Option (Option Plain) → List Plain → Option State
take_job s w None jobs = None
take_job s w (Some (Some x)) jobs = None
take_job s w (Some None) [] = None
take_job s w (Some None) (x ∷ jobs) = Some (state s.year s.lanes jobs (slice_set s.workers w (Some x)) s.results s.waiting)

abbrev pub post : State → ℕ → Option (Option Plain) → Option State
post s w None = None
post s w (Some None) = None
post s w (Some (Some x)) = Some (state s.year s.lanes s.jobs (slice_set s.workers w None) (s.results ++ x ∷ []) s.waiting)

abbrev pub collect : State → List Plain → Option State
collect s [] = None
collect s (x ∷ results) = Some (state s.year s.lanes s.jobs s.workers results (s.waiting ++ x ∷ []))

abbrev pub hand : State → ℕ → Option LaneState → Option State
hand s l None = None
hand s l (Some v) = cond (is_among l v.handed s.waiting)
    (Some (state s.year (slice_set s.lanes l (lane_state v.submitted v.closed v.polled (v.handed + 1))) s.jobs s.workers s.results
    (without l v.handed s.waiting)))
    None

abbrev pub poll : State → ℕ → Option LaneState → Option State
poll s l None = None
poll s l (Some v) = cond (nat_lt v.polled v.handed)
    (Some (state s.year (slice_set s.lanes l (lane_state v.submitted v.closed (v.polled + 1) v.handed)) s.jobs s.workers s.results s.waiting))
    None

abbrev pub close : State → ℕ → Option LaneState → Option State
close s l None = None
close s l (Some v) = cond (not v.closed)
    (Some (state s.year (slice_set s.lanes l (lane_state v.submitted true v.polled v.handed)) s.jobs s.workers s.results s.waiting))
    None

-- the state after an event, or none if it is disabled; src/event.rt says what each event is
abbrev pub step : State → Event → Option State
step s (Submit l row) = submit s l row (slice_get s.lanes l)
step s (Take w) = take_job s w (slice_get s.workers w) s.jobs
step s (Post w) = post s w (slice_get s.workers w)
step s Collect = collect s s.results
step s (Hand l) = hand s l (slice_get s.lanes l)
step s (Poll l) = poll s l (slice_get s.lanes l)
step s (Close l) = close s l (slice_get s.lanes l)

-- a disabled event changes nothing
abbrev pub or_same : State → Option State → State
or_same s None = s
or_same s (Some t) = t

-- the state after one event
abbrev pub after : State → Event → State
after s e = or_same s (step s e)

-- the state after several
abbrev pub run : State → List Event → State
run s [] = s
run s (e ∷ es) = run (after s e) es

-- some events lead there from the start
abbrev pub IsReached : State → Type 0
IsReached s = (lanes : ℕ) × (workers : ℕ) × (year : Terms) × (es : List Event) × (run (start lanes workers year) es ≡ s)

-- what there is of a lane, or d if there is no such lane
abbrev pub of_lane : {X : Type 0} → X → (LaneState → X) → Option LaneState → X
of_lane d f None = d
of_lane d f (Some v) = f v

-- what lane l has submitted
abbrev pub submitted_by : State → ℕ → List Plain
submitted_by s l = of_lane [] (λ v. v.submitted) (slice_get s.lanes l)

-- how many tickets lane l has issued: one for each row
abbrev pub issued_of : State → ℕ → ℕ
issued_of s l = length (submitted_by s l)

abbrev pub is_closed : State → ℕ → Bool
is_closed s l = of_lane false (λ v. v.closed) (slice_get s.lanes l)

-- how many deliveries lane l was handed (`handed_of`), and how many of them it has polled (`polled_of`)
abbrev pub handed_of : State → ℕ → ℕ
handed_of s l = of_lane 0 (λ v. v.handed) (slice_get s.lanes l)

abbrev pub polled_of : State → ℕ → ℕ
polled_of s l = of_lane 0 (λ v. v.polled) (slice_get s.lanes l)

-- what lane l has polled: the first of what it has submitted
abbrev pub polled_by : State → ℕ → List Plain
polled_by s l = take (polled_of s l) (submitted_by s l)
