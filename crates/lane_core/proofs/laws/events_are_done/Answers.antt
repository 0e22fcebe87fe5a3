-- The condition of each event is the test that its step makes.
use Rattle.std.proofs.Common.{◌≡◌, ℕ, Bool, false, cond, not, nat_lt, ◌&&◌, List, [], ◌∷◌, length, Option, Some, None, refl, sym, arith, ◌∙◌}
use Rattle.std.specs.List.{slice_get}
use Rattle.std.specs.Option.{is_some}
use Rattle.std.proofs.lemmas.Bool.{lt-ltb}
use Rattle.std.proofs.Math.Bool.{or-false}
use Rattle.lane_core.specs.declared.job.Plain.{Plain}
use Rattle.lane_core.specs.History.{held_by}
use Rattle.lane_core.specs.Machine.{LaneState, State, close, collect, hand, of_lane, poll, post, submit, take_job}
use Rattle.lane_core.specs.Tickets.{is_among}
use Rattle.lane_core.proofs.ResultFacts.{some_or}
use Rattle.lane_core.proofs.laws.events_are_done.Goals as goal

-- `some_or`, without a second option
some_if : {X : Type 0} (b : Bool) (x : X) → is_some (cond b (Some x) None) ≡ b
some_if b x = some_or b x None ∙ or-false b

-- each event; 4294967296 is 2 ^ 32, the machine's limit of tickets
submits : (s : State) (l : ℕ) (row : List ℕ) (o : Option LaneState)
    → is_some (submit s l row o) ≡ (is_some o && (not (of_lane false (λ v. v.closed) o) && nat_lt (length (of_lane [] (λ v. v.submitted) o)) 4294967296))
submits s l row None = refl
submits s l row (Some v) = some_if _ _

takes : (s : State) (w : ℕ) (o : Option (Option Plain)) (jobs : List Plain)
    → is_some (take_job s w o jobs) ≡ (is_some o && (not (nat_lt 0 (length (held_by o))) && nat_lt 0 (length jobs)))
takes s w None jobs = refl
takes s w (Some (Some x)) jobs = refl
takes s w (Some None) [] = refl
takes s w (Some None) (x ∷ jobs) = sym (lt-ltb 0 (length (x ∷ jobs)) (omega arith))

posts : (s : State) (w : ℕ) (o : Option (Option Plain)) → is_some (post s w o) ≡ nat_lt 0 (length (held_by o))
posts s w None = refl
posts s w (Some None) = refl
posts s w (Some (Some x)) = refl

collects : (s : State) (xs : List Plain) → is_some (collect s xs) ≡ nat_lt 0 (length xs)
collects s [] = refl
collects s (x ∷ xs) = sym (lt-ltb 0 (length (x ∷ xs)) (omega arith))

hands : (s : State) (l : ℕ) (o : Option LaneState) → is_some (hand s l o) ≡ (is_some o && is_among l (of_lane 0 (λ v. v.handed) o) s.waiting)
hands s l None = refl
hands s l (Some v) = some_if _ _

polls : (s : State) (l : ℕ) (o : Option LaneState) → is_some (poll s l o) ≡ nat_lt (of_lane 0 (λ v. v.polled) o) (of_lane 0 (λ v. v.handed) o)
polls s l None = refl
polls s l (Some v) = some_if _ _

closes : (s : State) (l : ℕ) (o : Option LaneState) → is_some (close s l o) ≡ (is_some o && not (of_lane false (λ v. v.closed) o))
closes s l None = refl
closes s l (Some v) = some_if _ _

pub returns : goal.returns
returns c = λ s l w row. (
  submits s l row (slice_get s.lanes l),
  takes s w (slice_get s.workers w) s.jobs,
  posts s w (slice_get s.workers w),
  collects s s.results,
  hands s l (slice_get s.lanes l),
  polls s l (slice_get s.lanes l),
  closes s l (slice_get s.lanes l),
)
