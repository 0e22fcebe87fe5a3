-- What a world keeps, the state of the machine that it shows (`ShowsState`), and what a step does to both (`Steps`).
use Rattle.std.specs.Prelude.{◌≡◌, ◌||◌, ℕ, Bool, nat_lt, is_some, true, false, List, Option, map, length, take}
use Rattle.std.specs.List.Sorted.{IsPermutation}
use Rattle.element_core.specs.Terms.{Terms}
use Rattle.lane_core.specs.declared.event.Event.{Event}
use Rattle.lane_core.specs.declared.event.Event.TheVariants.{Submit, Take, Post, Collect, Hand, Poll, Close}
use Rattle.lane_core.specs.declared.job.Plain.{Plain}
use Rattle.lane_core.specs.ReorderBuffer.{ReorderBuffer, was_taken}
use Rattle.lane_core.specs.Machine.{LaneState, State, IsReached, after, handed_of, step}
use Rattle.lane_core.specs.Tickets.{is_among}

-- of a lane, as `Lane` of src/lane.rt keeps it: whether it is closed, how many tickets it has issued, what it was handed, and how much of that it has polled
pub record LaneContents : Type 0 where
  pub closed : Bool
  pub issued : ℕ
  pub handed : List Plain
  pub polled : ℕ

-- of all, as the fields of `World`: the reference year, the lanes, the job queue, what each worker holds, the result queue, and the deliverer
pub record Contents : Type 0 where
  pub year : Terms
  pub lanes : List LaneContents
  pub jobs : List Plain
  pub workers : List (Option Plain)
  pub results : List Plain
  pub buffer : ReorderBuffer

-- what is kept of a lane, by its fields
abbrev pub lane_contents : Bool → ℕ → List Plain → ℕ → LaneContents
lane_contents closed issued handed polled = record { closed = closed; issued = issued; handed = handed; polled = polled }

-- what is kept of all, by its fields
abbrev pub contents : Terms → List LaneContents → List Plain → List (Option Plain) → List Plain → ReorderBuffer → Contents
contents year lanes jobs workers results buffer = record { year = year; lanes = lanes; jobs = jobs; workers = workers; results = results; buffer = buffer }

-- a lane keeps what it was handed: the first of what it has submitted
abbrev pub shown_lane : LaneState → LaneContents
shown_lane v = lane_contents v.closed (length v.submitted) (take v.handed v.submitted) v.polled

-- the world shows this state of the machine; what waits may stand in another order
pub record ShowsState (c : Contents) (s : State) : Type 0 where
  pub year : c.year ≡ s.year
  pub lanes : c.lanes ≡ map shown_lane s.lanes
  pub jobs : c.jobs ≡ s.jobs
  pub workers : c.workers ≡ s.workers
  pub results : c.results ≡ s.results
  pub nexts : c.buffer.nexts ≡ map (λ v. v.handed) s.lanes
  pub waiting : IsPermutation c.buffer.waiting s.waiting
  pub known : (l k : ℕ) → was_taken c.buffer l k ≡ (nat_lt k (handed_of s l) || is_among l k s.waiting)

-- a world shows a state that some events lead to
abbrev pub IsShown : Contents → Type 0
IsShown c = (s : State) × IsReached s × ShowsState c s

-- this holds of each state that the world can show
abbrev pub HoldsOfShown : Contents → (State → Type 0) → Type 0
HoldsOfShown c P = (s : State) → IsReached s → ShowsState c s → P s

-- the event is done or not, as the machine says, and the world shows the state after it
abbrev pub Steps : Contents → Event → Bool → Contents → Type 0
Steps c e done d = HoldsOfShown c (λ s. (is_some (step s e) ≡ done) × ShowsState d (after s e))

-- the event is not disabled
abbrev pub IsEnabled : Contents → Event → Type 0
IsEnabled c e = HoldsOfShown c (λ s. is_some (step s e) ≡ true)

-- whether an event makes a queue, the deliverer or an outbox longer
abbrev pub takes_memory : Event → Bool
takes_memory (Submit l row) = true
takes_memory (Take w) = false
takes_memory (Post w) = true
takes_memory Collect = true
takes_memory (Hand l) = true
takes_memory (Poll l) = false
takes_memory (Close l) = false
