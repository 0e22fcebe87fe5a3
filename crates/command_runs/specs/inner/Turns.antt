-- How the lanes of a turn change (`live/waiting.rt`).
use Rattle.std.specs.Prelude.{◌≡◌, ◌<◌, ◌≤◌, ◌+◌, ◌++◌, ℕ, All, List, [], Option, Some, None, Result, Ok, Err, length, slice_get, slice_set, vec_capacity}
use Rattle.std.specs.declared.alloc.AllocError.{AllocError}
use Rattle.lane_core.specs.declared.job.Plain.{Plain}
use Rattle.command_runs.specs.declared.live.waiting.Waiting.{Waiting}

-- this many rows and these deliveries more, with as much room at least
pub record HasMoved (rows : ℕ) (more : List Plain) (old new : Waiting) : Type 0 where
  pub first : new.first ≡ old.first
  pub next : new.next ≡ old.next + rows
  pub deliveries : new.deliveries.items ≡ old.deliveries.items ++ more
  pub room : vec_capacity old.deliveries ≤ vec_capacity new.deliveries

-- one row more, under this number, which is below `most_rows` of specs/live/Replies, with room for its delivery
pub record IsOneMore (number : ℕ) (old new : Waiting) : Type 0 where
  pub moved : HasMoved 1 [] old new
  pub same : number ≡ old.next
  pub left : number < 4294967295
  pub room : new.next ≤ new.first + vec_capacity new.deliveries

-- a number was taken, unless the lane has had all (`most_rows`), or memory was refused
abbrev pub TakesNumber : Result (Option ℕ) AllocError → Waiting → Waiting → Type 0
TakesNumber (Ok (Some number)) old new = IsOneMore number old new
TakesNumber (Ok None) old new = HasMoved 0 [] old new × (old.next ≡ 4294967295)
TakesNumber (Err refused) old new = HasMoved 0 [] old new

-- the lane of this place takes its next number, as `TakesNumber` says, and no other lane changes
abbrev pub TakesNumberOf : ℕ → Result (Option ℕ) AllocError → List Waiting → List Waiting → Type 0
TakesNumberOf lane result old new = (w : Waiting) × (v : Waiting) × (slice_get old lane ≡ Some w) × (new ≡ slice_set old lane v) × TakesNumber result w v

-- the turn of a lane has ended
pub record IsEnded (old new : Waiting) : Type 0 where
  pub first : new.first ≡ old.next
  pub next : new.next ≡ old.next
  pub deliveries : new.deliveries.items ≡ []

-- the turn of each lane has ended
pub record AreEnded (old new : List Waiting) : Type 0 where
  pub count : length new ≡ length old
  pub each : (k : ℕ) (w : Waiting) → slice_get new k ≡ Some w → (v : Waiting) × (slice_get old k ≡ Some v) × IsEnded v w

-- nothing has come of a lane
pub record IsFresh (w : Waiting) : Type 0 where
  pub first : w.first ≡ 0
  pub next : w.next ≡ 0
  pub deliveries : w.deliveries.items ≡ []

-- nothing has come of any of this many lanes
pub record AreFresh (n : ℕ) (lanes : List Waiting) : Type 0 where
  pub count : length lanes ≡ n
  pub each : All IsFresh lanes
