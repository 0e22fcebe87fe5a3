-- What a machine's events push on its queues and pop from them, when each is done, and what they leave as it is: the laws are functions of src/laws.rt.
use Rattle.std.specs.Prelude.{◌≡◌, ◌&&◌, ◌^◌, ℕ, cond, not, nat_lt, true, is_some, List, [], ◌∷◌, ◌++◌, Option, None, Some, option_to_list, length, slice_get, take}
use Rattle.std.specs.List.{AllByRecursion}
use Rattle.element_core.specs.Terms.{Terms}
use Rattle.lane_core.specs.declared.event.Event.{Event}
use Rattle.lane_core.specs.declared.event.Event.TheVariants.{Submit, Take, Post, Collect, Hand, Poll, Close}
use Rattle.lane_core.specs.declared.job.Plain.{Plain}
use Rattle.lane_core.specs.Plain.{plain_of}
use Rattle.lane_core.specs.Machine.{State, IsReached, after, handed_of, is_closed, issued_of, polled_by, polled_of, run, start, step, submitted_by}
use Rattle.lane_core.specs.Tickets.{is_among, numbered}
use Rattle.lane_core.specs.Weights.{OneForOne}

-- these items if the event is done, and else none
abbrev pub if_done : State → Event → List Plain → List Plain
if_done s e xs = cond (is_some (step s e)) xs []

-- what a worker holds: nothing if it has no job, and if there is no such worker
abbrev pub held_by : Option (Option Plain) → List Plain
held_by None = []
held_by (Some o) = option_to_list o

-- What an event pushes on the job queue: `next_job` of `Machine`, if it is a `Submit`. Here and at the three that follow each event has its line, and
-- one event's alone is not [].
abbrev pub job_pushed : State → Event → List Plain
job_pushed s (Submit l row) = if_done s (Submit l row) (plain_of l (issued_of s l) s.year row ∷ [])
job_pushed s (Take w) = []
job_pushed s (Post w) = []
job_pushed s Collect = []
job_pushed s (Hand l) = []
job_pushed s (Poll l) = []
job_pushed s (Close l) = []

-- what an event pops from the job queue
abbrev pub job_popped : State → Event → List Plain
job_popped s (Submit l row) = []
job_popped s (Take w) = if_done s (Take w) (take 1 s.jobs)
job_popped s (Post w) = []
job_popped s Collect = []
job_popped s (Hand l) = []
job_popped s (Poll l) = []
job_popped s (Close l) = []

-- what an event pushes on the result queue
abbrev pub result_pushed : State → Event → List Plain
result_pushed s (Submit l row) = []
result_pushed s (Take w) = []
result_pushed s (Post w) = if_done s (Post w) (held_by (slice_get s.workers w))
result_pushed s Collect = []
result_pushed s (Hand l) = []
result_pushed s (Poll l) = []
result_pushed s (Close l) = []

-- what an event pops from the result queue
abbrev pub result_popped : State → Event → List Plain
result_popped s (Submit l row) = []
result_popped s (Take w) = []
result_popped s (Post w) = []
result_popped s Collect = if_done s Collect (take 1 s.results)
result_popped s (Hand l) = []
result_popped s (Poll l) = []
result_popped s (Close l) = []

-- what events push or pop together, one after the other: `f` is one of the four
abbrev pub all_of : (State → Event → List Plain) → State → List Event → List Plain
all_of f s [] = []
all_of f s (e ∷ es) = f s e ++ all_of f (after s e) es

-- what was pushed is what was popped and what the queue holds, in this order; so it is one for one
abbrev pub Keeps : List Plain → List Plain → List Plain → Type 0
Keeps pushed popped held = (pushed ≡ popped ++ held) × OneForOne pushed popped held

-- both queues lose nothing and add nothing
abbrev pub QueuesKeep : Type 0
QueuesKeep = (lanes workers : ℕ) (year : Terms) (es : List Event) →
    Keeps (all_of job_pushed (start lanes workers year) es) (all_of job_popped (start lanes workers year) es) (run (start lanes workers year) es).jobs
    × Keeps (all_of result_pushed (start lanes workers year) es) (all_of result_popped (start lanes workers year) es)
    (run (start lanes workers year) es).results

-- each event is done exactly if its condition holds, in any state: these are the tests that the functions of `Machine` make, one for each event
abbrev pub EventsAreDone : Type 0
EventsAreDone = (s : State) (l w : ℕ) (row : List ℕ) →
    (is_some (step s (Submit l row)) ≡ (is_some (slice_get s.lanes l) && (not (is_closed s l) && nat_lt (issued_of s l) (2 ^ 32))))
    × (is_some (step s (Take w)) ≡ (is_some (slice_get s.workers w) && (not (nat_lt 0 (length (held_by (slice_get s.workers w)))) && nat_lt 0 (length s.jobs))))
    × (is_some (step s (Post w)) ≡ nat_lt 0 (length (held_by (slice_get s.workers w))))
    × (is_some (step s Collect) ≡ nat_lt 0 (length s.results))
    × (is_some (step s (Hand l)) ≡ (is_some (slice_get s.lanes l) && is_among l (handed_of s l) s.waiting))
    × (is_some (step s (Poll l)) ≡ nat_lt (polled_of s l) (handed_of s l))
    × (is_some (step s (Close l)) ≡ (is_some (slice_get s.lanes l) && not (is_closed s l)))

-- what a lane has submitted is its numbers 0, 1, 2 and so on under the machine's year, and what it has polled is the first of it
abbrev pub PolledInOrder : Type 0
PolledInOrder = (s : State) (l : ℕ) → IsReached s →
    (numbered l 0 (submitted_by s l) ≡ true)
    × AllByRecursion (λ x. x.year ≡ s.year) (submitted_by s l)
    × (numbered l 0 (polled_by s l) ≡ true)
    × (length (polled_by s l) ≡ polled_of s l)

-- what a lane has submitted and polled stays, and more may follow it
abbrev pub ListsGrow : Type 0
ListsGrow = (s : State) (es : List Event) (l : ℕ) → IsReached s →
    ((more : List Plain) × (submitted_by (run s es) l ≡ submitted_by s l ++ more))
    × ((more : List Plain) × (polled_by (run s es) l ≡ polled_by s l ++ more))

-- a closed lane stays closed and submits nothing more
abbrev pub NothingAfterClose : Type 0
NothingAfterClose = (s : State) (es : List Event) (l : ℕ) → is_closed s l ≡ true → (submitted_by (run s es) l ≡ submitted_by s l)
    × (is_closed (run s es) l ≡ true)

-- a closed lane that has polled as much as it has submitted has polled all of it, and polls nothing more
abbrev pub DoneStaysDone : Type 0
DoneStaysDone = (s : State) (es : List Event) (l : ℕ) → IsReached s → is_closed s l ≡ true → polled_of s l ≡ issued_of s l
    → (polled_by s l ≡ submitted_by s l) × (polled_by (run s es) l ≡ polled_by s l)
