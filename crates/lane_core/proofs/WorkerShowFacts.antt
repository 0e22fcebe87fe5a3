-- A world shows the machine's next state: events of workers (`World::take`, `World::post`).
use Rattle.std.proofs.Common.{◌≡◌, ℕ, ◌<◌, ◌≤◌, true, false, List, [], ◌∷◌, ◌++◌, length, get_or, set, Option, Some, None, refl, sym, ap, ◌∙◌}
use Rattle.std.specs.List.{slice_get}
use Rattle.std.specs.Option.{is_some}
use Rattle.std.proofs.lemmas.List.{get_or_read, nil_from_length}
use Rattle.std.proofs.lemmas.Option.{slice_get_past, slice_get_read}
use Rattle.lane_core.specs.declared.event.Event.TheVariants.{Take, Post}
use Rattle.lane_core.specs.declared.job.Plain.{Plain}
use Rattle.lane_core.specs.Contents.{Contents, IsEnabled, ShowsState, Steps, contents}
use Rattle.lane_core.specs.Machine.{State, post, step, take_job}
use Rattle.lane_core.proofs.ResultFacts.{none_by_test, not_done, some_from}
use Rattle.lane_core.proofs.WorldShowsNext.{done, idle}

-- the machine's worker and queue are the world's
takes : (c : Contents) (s : State) (w : ℕ) (o : Option (Option Plain)) (jobs : List Plain) → ShowsState c s → slice_get c.workers w ≡ o → c.jobs ≡ jobs
    → step s (Take w) ≡ take_job s w o jobs
takes c s w o jobs shows at is = (λ i. take_job s w (slice_get (sym shows.workers i) w) (sym shows.jobs i)) ∙ (λ i. take_job s w (at i) (is i))

posts : (c : Contents) (s : State) (w : ℕ) (o : Option (Option Plain)) → ShowsState c s → slice_get c.workers w ≡ o → step s (Post w) ≡ post s w o
posts c s w o shows at = ap (λ (ws : List (Option Plain)). post s w (slice_get ws w)) (sym shows.workers) ∙ ap (post s w) at

-- no such worker
pub take_past : (c : Contents) (w : ℕ) → length c.workers ≤ w → Steps c (Take w) false c
take_past c w e = λ s r shows. idle c s (Take w) (takes c s w None c.jobs shows (slice_get_past c.workers w e) refl) shows

pub post_past : (c : Contents) (w : ℕ) → length c.workers ≤ w → Steps c (Post w) false c
post_past c w e = λ s r shows. idle c s (Post w) (posts c s w None shows (slice_get_past c.workers w e)) shows

-- the worker has a job already
pub take_busy : (c : Contents) (w : ℕ) (x : Plain) → slice_get c.workers w ≡ Some (Some x) → Steps c (Take w) false c
take_busy c w x at = λ s r shows. idle c s (Take w) (takes c s w (Some (Some x)) c.jobs shows at refl) shows

-- there is no job
pub take_empty : (c : Contents) (w : ℕ) → slice_get c.workers w ≡ Some None → length c.jobs ≡ 0 → Steps c (Take w) false c
take_empty c w at count = λ s r shows. idle c s (Take w) (takes c s w (Some None) [] shows at (nil_from_length c.jobs count)) shows

-- a worker takes a job
pub take_done : (c : Contents) (w : ℕ) (x : Plain) (jobs : List Plain) → slice_get c.workers w ≡ Some None → c.jobs ≡ x ∷ jobs
    → Steps c (Take w) true (contents c.year c.lanes jobs (set c.workers w (Some x)) c.results c.buffer)
take_done c w x jobs at is = λ s r shows. done _ s _ (Take w)
    (takes c s w (Some None) (x ∷ jobs) shows at is)
    record {
      year = shows.year;
      lanes = shows.lanes;
      jobs = refl;
      workers = ap (λ ws. set ws w (Some x)) shows.workers;
      results = shows.results;
      nexts = shows.nexts;
      waiting = shows.waiting;
      known = shows.known;
    }

-- the worker has no job
pub post_free : (c : Contents) (w : ℕ) → slice_get c.workers w ≡ Some None → Steps c (Post w) false c
post_free c w at = λ s r shows. idle c s (Post w) (posts c s w (Some None) shows at) shows

-- a worker posts a result
pub post_done : (c : Contents) (w : ℕ) (x : Plain) → slice_get c.workers w ≡ Some (Some x)
    → Steps c (Post w) true (contents c.year c.lanes c.jobs (set c.workers w None) (c.results ++ x ∷ []) c.buffer)
post_done c w x at = λ s r shows. done _ s _ (Post w)
    (posts c s w (Some (Some x)) shows at)
    record {
      year = shows.year;
      lanes = shows.lanes;
      jobs = shows.jobs;
      workers = ap (λ ws. set ws w None) shows.workers;
      results = ap (λ xs. xs ++ x ∷ []) shows.results;
      nexts = shows.nexts;
      waiting = shows.waiting;
      known = shows.known;
    }

-- a worker that has a job may post
pub post_enabled : (c : Contents) (w : ℕ) (x : Plain) → slice_get c.workers w ≡ Some (Some x) → IsEnabled c (Post w)
post_enabled c w x at = λ s r shows. (post_done c w x at s r shows).0

-- what a look at a worker's place says: it has no job, or one
pub free_at : (workers : List (Option Plain)) (w : ℕ) (x : Option Plain) → w < length workers → x ≡ get_or workers w x → is_some x ≡ false
    → slice_get workers w ≡ Some None
free_at workers w x less is none = slice_get_read workers (length workers) w x refl less is ∙ ap Some (none_by_test x none)

pub busy_at : (workers : List (Option Plain)) (w : ℕ) (x : Option Plain) → w < length workers → x ≡ get_or workers w x → is_some x ≡ true
    → (job : Plain) × (slice_get workers w ≡ Some (Some job))
busy_at workers w x less is some =
    let job = some_from x some in
    (job.0, slice_get_read workers (length workers) w x refl less is ∙ ap Some job.1)

-- one place read twice: a job that was there is there
pub same_at_place : {P : Type 0} (workers : List (Option Plain)) (w : ℕ) (x y : Option Plain) → w < length workers → x ≡ get_or workers w x → y ≡ get_or workers w y
    → is_some x ≡ true → None ≡ y → P
same_at_place workers w x y less first next some none =
    not_done (sym some ∙ ap (λ o. is_some o) (get_or_read workers w x less first y ∙ (sym next ∙ sym none)))
