-- What events push on the queues is what they pop and what the queues hold: the law `queues_keep`. It goes through the events one by one, as
-- StepFacts and HistoryFacts do.
use Rattle.std.proofs.Common.{◌≡◌, ℕ, ◌^◌, ◌&&◌, not, nat_lt, cond, Bool, true, false, List, [], ◌∷◌, ◌++◌, length, append_assoc, append-nil, take, Option, Some, None, refl, sym, ap, ◌∙◌}
use Rattle.std.specs.List.{slice_get, sum_by}
use Rattle.std.specs.Option.{is_some}
use Rattle.std.proofs.lemmas.List.Sums.{sum_by-append}
use Rattle.lane_core.specs.declared.event.Event.{Event}
use Rattle.lane_core.specs.declared.event.Event.TheVariants.{Submit, Take, Post, Collect, Hand, Poll, Close}
use Rattle.lane_core.specs.declared.job.Plain.{Plain}
use Rattle.lane_core.specs.Plain.{plain_of}
use Rattle.lane_core.specs.History.{Keeps, QueuesKeep, all_of, held_by, job_popped, job_pushed, result_popped, result_pushed}
use Rattle.lane_core.specs.Machine.{LaneState, State, after, close, collect, hand, of_lane, or_same, poll, post, run, start, submit, take_job}
use Rattle.lane_core.specs.Tickets.{is_among}
use Rattle.lane_core.proofs.AllowedEvents.{by_test}

-- an event that asks a test and leaves the queue as it is: what it pushes and pops is nothing
lane_jobs : (s : State) (b : Bool) (t : State) → t.jobs ≡ s.jobs → s.jobs ++ [] ≡ [] ++ (or_same s (cond b (Some t) None)).jobs
lane_jobs s b t e = by_test (λ u. s.jobs ++ [] ≡ [] ++ u.jobs) s t b (append-nil s.jobs) (λ _. append-nil s.jobs ∙ sym e)

lane_results : (s : State) (b : Bool) (t : State) → t.results ≡ s.results → s.results ++ [] ≡ [] ++ (or_same s (cond b (Some t) None)).results
lane_results s b t e = by_test (λ u. s.results ++ [] ≡ [] ++ u.results) s t b (append-nil s.results) (λ _. append-nil s.results ∙ sym e)

-- a submit pushes its job if its test passes
submit_by : (s : State) (x : Plain) (b : Bool) (t : State) → t.jobs ≡ s.jobs ++ x ∷ [] → s.jobs ++ cond (is_some (cond b (Some t) None)) (x ∷ []) [] ≡ []
    ++ (or_same s (cond b (Some t) None)).jobs
submit_by s x true t e = sym e
submit_by s x false t e = append-nil s.jobs

-- each event: what it pushes on a queue, and pops from it
submit_jobs : (s : State) (l : ℕ) (row : List ℕ) (o : Option LaneState)
    → s.jobs ++ cond (is_some (submit s l row o)) (plain_of l (length (of_lane [] (λ v. v.submitted) o)) s.year row ∷ []) [] ≡ []
    ++ (or_same s (submit s l row o)).jobs
submit_jobs s l row None = append-nil s.jobs
submit_jobs s l row (Some v) = submit_by s (plain_of l (length v.submitted) s.year row) (not v.closed && nat_lt (length v.submitted) (2 ^ 32)) _ refl

submit_results : (s : State) (l : ℕ) (row : List ℕ) (o : Option LaneState) → s.results ++ [] ≡ [] ++ (or_same s (submit s l row o)).results
submit_results s l row None = append-nil s.results
submit_results s l row (Some v) = lane_results s (not v.closed && nat_lt (length v.submitted) (2 ^ 32)) _ refl

take_jobs : (s : State) (w : ℕ) (o : Option (Option Plain)) (jobs : List Plain) → s.jobs ≡ jobs
    → s.jobs ++ [] ≡ cond (is_some (take_job s w o jobs)) (take 1 jobs) [] ++ (or_same s (take_job s w o jobs)).jobs
take_jobs s w None jobs e = append-nil s.jobs
take_jobs s w (Some (Some y)) jobs e = append-nil s.jobs
take_jobs s w (Some None) [] e = append-nil s.jobs
take_jobs s w (Some None) (x ∷ xs) e = append-nil s.jobs ∙ e

take_results : (s : State) (w : ℕ) (o : Option (Option Plain)) (jobs : List Plain) → s.results ++ [] ≡ [] ++ (or_same s (take_job s w o jobs)).results
take_results s w None jobs = append-nil s.results
take_results s w (Some (Some y)) jobs = append-nil s.results
take_results s w (Some None) [] = append-nil s.results
take_results s w (Some None) (x ∷ xs) = append-nil s.results

post_jobs : (s : State) (w : ℕ) (o : Option (Option Plain)) → s.jobs ++ [] ≡ [] ++ (or_same s (post s w o)).jobs
post_jobs s w None = append-nil s.jobs
post_jobs s w (Some None) = append-nil s.jobs
post_jobs s w (Some (Some x)) = append-nil s.jobs

post_results : (s : State) (w : ℕ) (o : Option (Option Plain)) → s.results ++ cond (is_some (post s w o)) (held_by o) [] ≡ []
    ++ (or_same s (post s w o)).results
post_results s w None = append-nil s.results
post_results s w (Some None) = append-nil s.results
post_results s w (Some (Some x)) = refl

collect_jobs : (s : State) (results : List Plain) → s.jobs ++ [] ≡ [] ++ (or_same s (collect s results)).jobs
collect_jobs s [] = append-nil s.jobs
collect_jobs s (x ∷ xs) = append-nil s.jobs

collect_results : (s : State) (results : List Plain) → s.results ≡ results → s.results ++ [] ≡ cond (is_some (collect s results)) (take 1 results) []
    ++ (or_same s (collect s results)).results
collect_results s [] e = append-nil s.results
collect_results s (x ∷ xs) e = append-nil s.results ∙ e

hand_both : (s : State) (l : ℕ) (o : Option LaneState) → (s.jobs ++ [] ≡ [] ++ (or_same s (hand s l o)).jobs)
    × (s.results ++ [] ≡ [] ++ (or_same s (hand s l o)).results)
hand_both s l None = (append-nil s.jobs, append-nil s.results)
hand_both s l (Some v) = (lane_jobs s (is_among l v.handed s.waiting) _ refl, lane_results s (is_among l v.handed s.waiting) _ refl)

poll_both : (s : State) (l : ℕ) (o : Option LaneState) → (s.jobs ++ [] ≡ [] ++ (or_same s (poll s l o)).jobs)
    × (s.results ++ [] ≡ [] ++ (or_same s (poll s l o)).results)
poll_both s l None = (append-nil s.jobs, append-nil s.results)
poll_both s l (Some v) = (lane_jobs s (nat_lt v.polled v.handed) _ refl, lane_results s (nat_lt v.polled v.handed) _ refl)

close_both : (s : State) (l : ℕ) (o : Option LaneState) → (s.jobs ++ [] ≡ [] ++ (or_same s (close s l o)).jobs)
    × (s.results ++ [] ≡ [] ++ (or_same s (close s l o)).results)
close_both s l None = (append-nil s.jobs, append-nil s.results)
close_both s l (Some v) = (lane_jobs s (not v.closed) _ refl, lane_results s (not v.closed) _ refl)

-- one event on each queue
step_jobs : (s : State) (e : Event) → s.jobs ++ job_pushed s e ≡ job_popped s e ++ (after s e).jobs
step_jobs s (Submit l row) = submit_jobs s l row (slice_get s.lanes l)
step_jobs s (Take w) = take_jobs s w (slice_get s.workers w) s.jobs refl
step_jobs s (Post w) = post_jobs s w (slice_get s.workers w)
step_jobs s Collect = collect_jobs s s.results
step_jobs s (Hand l) = (hand_both s l (slice_get s.lanes l)).0
step_jobs s (Poll l) = (poll_both s l (slice_get s.lanes l)).0
step_jobs s (Close l) = (close_both s l (slice_get s.lanes l)).0

step_results : (s : State) (e : Event) → s.results ++ result_pushed s e ≡ result_popped s e ++ (after s e).results
step_results s (Submit l row) = submit_results s l row (slice_get s.lanes l)
step_results s (Take w) = take_results s w (slice_get s.workers w) s.jobs
step_results s (Post w) = post_results s w (slice_get s.workers w)
step_results s Collect = collect_results s s.results refl
step_results s (Hand l) = (hand_both s l (slice_get s.lanes l)).1
step_results s (Poll l) = (poll_both s l (slice_get s.lanes l)).1
step_results s (Close l) = (close_both s l (slice_get s.lanes l)).1

-- several events on a queue q, where each pushes f and pops g
run_queue : (q : State → List Plain) (f g : State → Event → List Plain) → ((s : State) (e : Event) → q s ++ f s e ≡ g s e ++ q (after s e))
    → (s : State) (es : List Event) → q s ++ all_of f s es ≡ all_of g s es ++ q (run s es)
run_queue q f g each s [] = append-nil (q s)
run_queue q f g each s (e ∷ es) =
    let t = after s e in
    sym (append_assoc (q s) (f s e) (all_of f t es))
    ∙ (ap (λ xs. xs ++ all_of f t es) (each s e)
    ∙ (append_assoc (g s e) (q t) (all_of f t es)
    ∙ (ap (λ xs. g s e ++ xs) (run_queue q f g each t es)
    ∙ sym (append_assoc (g s e) (all_of g t es) (q (run t es))))))

-- the first part of `Keeps` gives the second
keeps_from : (pushed popped held : List Plain) → pushed ≡ popped ++ held → Keeps pushed popped held
keeps_from pushed popped held e = (e, λ h. ap (sum_by h) e ∙ sum_by-append h popped held)

pub queues_keep : QueuesKeep
queues_keep lanes workers year es =
    let s = start lanes workers year in (
      keeps_from (all_of job_pushed s es) (all_of job_popped s es) (run s es).jobs (run_queue (λ t. t.jobs) job_pushed job_popped step_jobs s es),
      keeps_from (all_of result_pushed s es) (all_of result_popped s es) (run s es).results
          (run_queue (λ t. t.results) result_pushed result_popped step_results s es),
    )
