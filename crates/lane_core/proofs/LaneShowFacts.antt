-- A world shows the machine's next state: events of lanes (`World::submit`, `World::poll`, `World::close`), and any event of a lane that is not there.
-- `x` is what the world keeps of lane l, `v` is the machine's lane, and `w` is that lane after the event.
use Rattle.std.proofs.Common.{◌≡◌, ℕ, ◌+◌, ◌<◌, ◌≤◌, ◌^◌, ◌||◌, not, nat_lt, cond, true, false, List, [], ◌∷◌, ◌++◌, map, length, length-append, set, Some, None, refl, sym, ap, ◌∙◌, subst, arith, ◌&&◌}
use Rattle.std.specs.List.{slice_get}
use Rattle.std.proofs.lemmas.Bool.{le-ltb, lt-ltb, and_left, and_right, and_from, not_from_true, not_from_false, cond-false}
use Rattle.std.proofs.lemmas.Option.{slice_get_past, get_or_from_slice_get}
use Rattle.std.proofs.lemmas.List.{length-take-le, map-set, take-append-le}
use Rattle.std.proofs.Math.Seq.{map-set_same}
use Rattle.lane_core.specs.declared.event.Event.TheVariants.{Submit, Hand, Poll, Close}
use Rattle.lane_core.specs.declared.job.Plain.{Plain}
use Rattle.lane_core.specs.Contents.{Contents, LaneContents, ShowsState, Steps, contents, lane_contents, shown_lane}
use Rattle.lane_core.specs.ReorderBuffer.{was_taken}
use Rattle.lane_core.specs.Machine.{LaneState, State, close, hand, lane_state, next_job, of_lane, poll, state, submit}
use Rattle.lane_core.specs.Plain.{plain_of}
use Rattle.lane_core.specs.Tickets.{is_among}
use Rattle.lane_core.proofs.GoodFacts.{Good}
use Rattle.lane_core.proofs.ChangedLane.{lane_kept, lane_was}
use Rattle.lane_core.proofs.ListFacts.{get_back, get_none_back}
use Rattle.lane_core.proofs.PolledFacts.{handed_issued}
use Rattle.lane_core.proofs.WorldShowsNext.{done, idle}
use Rattle.lane_core.proofs.StepFacts.{reached_good}

-- the lane that the world shows here
abbrev pub Found : State → ℕ → LaneContents → Type 0
Found s l c = (v : LaneState) × (slice_get s.lanes l ≡ Some v) × (shown_lane v ≡ c)

pub found : (c : Contents) (s : State) (l : ℕ) (x : LaneContents) → ShowsState c s → slice_get c.lanes l ≡ Some x → Found s l x
found c s l x shows at = get_back shown_lane s.lanes l x (ap (λ (xs : List LaneContents). slice_get xs l) (sym shows.lanes) ∙ at)

-- a lane that the world does not have
past : (c : Contents) (s : State) (l : ℕ) → ShowsState c s → length c.lanes ≤ l → slice_get s.lanes l ≡ None
past c s l shows e = get_none_back shown_lane s.lanes l (ap (λ (xs : List LaneContents). slice_get xs l) (sym shows.lanes) ∙ slice_get_past c.lanes l e)

-- no such lane
pub submit_past : (c : Contents) (l : ℕ) (row : List ℕ) → length c.lanes ≤ l → Steps c (Submit l row) false c
submit_past c l row e = λ s r shows. idle c s (Submit l row) (ap (submit s l row) (past c s l shows e)) shows

pub hand_past : (c : Contents) (l : ℕ) → length c.lanes ≤ l → Steps c (Hand l) false c
hand_past c l e = λ s r shows. idle c s (Hand l) (ap (hand s l) (past c s l shows e)) shows

pub poll_past : (c : Contents) (l : ℕ) → length c.lanes ≤ l → Steps c (Poll l) false c
poll_past c l e = λ s r shows. idle c s (Poll l) (ap (poll s l) (past c s l shows e)) shows

pub close_past : (c : Contents) (l : ℕ) → length c.lanes ≤ l → Steps c (Close l) false c
close_past c l e = λ s r shows. idle c s (Close l) (ap (close s l) (past c s l shows e)) shows

-- one lane changed, and `x` is what the world keeps of it afterwards; for `nexts_kept` and `known_kept` it was handed nothing
lanes_with : (c : Contents) (s : State) (l : ℕ) (v w : LaneState) (x : LaneContents) → ShowsState c s → shown_lane w ≡ x → set c.lanes l x
    ≡ map shown_lane (set s.lanes l w)
lanes_with c s l v w x shows is = (λ i. set (shows.lanes i) l (sym is i)) ∙ sym (map-set shown_lane s.lanes l w)

nexts_kept : (c : Contents) (s : State) (l : ℕ) (v w : LaneState) → ShowsState c s → slice_get s.lanes l ≡ Some v → w.handed ≡ v.handed → c.buffer.nexts
    ≡ map (λ u. u.handed) (set s.lanes l w)
nexts_kept c s l v w shows at is = shows.nexts ∙ sym (map-set_same (λ (u : LaneState). u.handed) s.lanes l w v (is ∙ ap (λ (u : LaneState). u.handed) (sym (get_or_from_slice_get s.lanes l v v at))))

known_kept : (c : Contents) (s : State) (l : ℕ) (v w : LaneState) → ShowsState c s → slice_get s.lanes l ≡ Some v → w.handed ≡ v.handed
    → (m k : ℕ) → was_taken c.buffer m k ≡ (nat_lt k (of_lane 0 (λ u. u.handed) (slice_get (set s.lanes l w) m)) || is_among m k s.waiting)
known_kept c s l v w shows at is = λ m k. shows.known m k ∙ ap (λ n. nat_lt k n || is_among m k s.waiting)
    (sym (lane_kept 0 (λ u. u.handed) s.lanes l m v w at is))

-- one lane was polled or closed, and nothing else changed
lane_shows : (c : Contents) (s : State) (l : ℕ) (v w : LaneState) (x : LaneContents) → ShowsState c s → slice_get s.lanes l ≡ Some v → w.handed ≡ v.handed
    → shown_lane w ≡ x
    → ShowsState (contents c.year (set c.lanes l x) c.jobs c.workers c.results c.buffer) (state s.year (set s.lanes l w) s.jobs s.workers s.results s.waiting)
lane_shows c s l v w x shows at same is = record {
  year = shows.year;
  lanes = lanes_with c s l v w x shows is;
  jobs = shows.jobs;
  workers = shows.workers;
  results = shows.results;
  nexts = nexts_kept c s l v w shows at same;
  waiting = shows.waiting;
  known = known_kept c s l v w shows at same;
}

-- a lane was handed no more than it submitted
handed_within : (s : State) (l : ℕ) (v : LaneState) → slice_get s.lanes l ≡ Some v → Good s → v.handed ≤ length v.submitted
handed_within s l v at good =
    let a = handed_issued s l good in
    let b = lane_was 0 (λ u. u.handed) s.lanes l l v at refl in
    let c = ap (λ (xs : List Plain). length xs) (lane_was [] (λ u. u.submitted) s.lanes l l v at refl) in
    omega arith

-- submitting: a lane that is closed or has issued all its tickets submits nothing
not_submitted : (s : State) (l : ℕ) (row : List ℕ) (v : LaneState) → slice_get s.lanes l ≡ Some v
    → (not v.closed && nat_lt (length v.submitted) (2 ^ 32)) ≡ false → submit s l row (slice_get s.lanes l) ≡ None
not_submitted s l row v at off = ap (submit s l row) at ∙ cond-false (not v.closed && nat_lt (length v.submitted) (2 ^ 32)) _ None off

pub submit_closed : (c : Contents) (l : ℕ) (row : List ℕ) (x : LaneContents) → slice_get c.lanes l ≡ Some x → x.closed ≡ true → Steps c (Submit l row) false c
submit_closed c l row x at closed = λ s r shows.
    let f = found c s l x shows at in
    let v = f.0 in
    let off = and_left (not v.closed) (nat_lt (length v.submitted) (2 ^ 32)) (not_from_true v.closed (ap (λ (u : LaneContents). u.closed) f.2 ∙ closed)) in
    idle c s (Submit l row) (not_submitted s l row v f.1 off) shows

pub submit_spent : (c : Contents) (l : ℕ) (row : List ℕ) (x : LaneContents) → slice_get c.lanes l ≡ Some x → 2 ^ 32 ≤ x.issued → Steps c (Submit l row) false c
submit_spent c l row x at full = λ s r shows.
    let f = found c s l x shows at in
    let v = f.0 in
    let count = ap (λ (u : LaneContents). u.issued) f.2 in
    let off = and_right (not v.closed) (nat_lt (length v.submitted) (2 ^ 32)) (le-ltb (length v.submitted) (2 ^ 32) (subst (λ n. 2 ^ 32 ≤ n) (sym count) full)) in
    idle c s (Submit l row) (not_submitted s l row v f.1 off) shows

pub submit_done : (c : Contents) (l : ℕ) (row : List ℕ) (x : LaneContents) → slice_get c.lanes l ≡ Some x → x.closed ≡ false → x.issued < 2 ^ 32
    → Steps c (Submit l row) true (contents c.year (set c.lanes l (lane_contents x.closed (x.issued + 1) x.handed x.polled))
    (c.jobs ++ plain_of l x.issued c.year row ∷ []) c.workers c.results c.buffer)
submit_done c l row x at open_ room = λ s r shows.
    let f = found c s l x shows at in
    let v = f.0 in
    let job = next_job s l v row in
    let w = lane_state (v.submitted ++ job ∷ []) v.closed v.polled v.handed in
    let count = ap (λ (u : LaneContents). u.issued) f.2 in
    let on = and_from (not v.closed) (nat_lt (length v.submitted) (2 ^ 32)) (not_from_false v.closed (ap (λ (u : LaneContents). u.closed) f.2 ∙ open_))
    (lt-ltb (length v.submitted) (2 ^ 32) (subst (λ n. n < 2 ^ 32) (sym count) room)) in
    let t = state s.year (set s.lanes l w) (s.jobs ++ job ∷ []) s.workers s.results s.waiting in
    let most = handed_within s l v f.1 (reached_good s r) in
    let shown : shown_lane w ≡ lane_contents x.closed (x.issued + 1) x.handed x.polled =
    λ i. lane_contents (f.2 i).closed ((length-append v.submitted (job ∷ []) ∙ ap (λ n. n + 1) count) i)
    ((take-append-le v.handed v.submitted (job ∷ []) most ∙ ap (λ (u : LaneContents). u.handed) f.2) i) (f.2 i).polled in
    done _ s t (Submit l row) (ap (submit s l row) f.1 ∙ (λ i. cond (on i) (Some t) None))
    record {
      year = shows.year;
      lanes = lanes_with c s l v w _ shows shown;
      jobs = (λ i. shows.jobs i ++ plain_of l (sym count i) (shows.year i) row ∷ []);
      workers = shows.workers;
      results = shows.results;
      nexts = nexts_kept c s l v w shows f.1 refl;
      waiting = shows.waiting;
      known = known_kept c s l v w shows f.1 refl;
    }

-- the world keeps as many deliveries of a lane as the machine has handed it
pub handed_count : (c : Contents) (s : State) (l : ℕ) (x : LaneContents) (good : Good s) (f : Found s l x) → length x.handed ≡ f.0.handed
handed_count c s l x good f =
    let v = f.0 in
    ap (λ (u : LaneContents). length u.handed) (sym f.2) ∙ length-take-le v.handed v.submitted (handed_within s l v f.1 good)

-- polling
pub poll_none : (c : Contents) (l : ℕ) (x : LaneContents) → slice_get c.lanes l ≡ Some x → length x.handed ≤ x.polled → Steps c (Poll l) false c
poll_none c l x at none = λ s r shows.
    let f = found c s l x shows at in
    let v = f.0 in
    let count = handed_count c s l x (reached_good s r) f in
    let polled = ap (λ (u : LaneContents). u.polled) f.2 in
    let off = le-ltb v.polled v.handed (omega arith) in
    idle c s (Poll l) (ap (poll s l) f.1 ∙ cond-false (nat_lt v.polled v.handed) _ None off) shows

pub poll_done : (c : Contents) (l : ℕ) (x : LaneContents) → slice_get c.lanes l ≡ Some x → x.polled < length x.handed
    → Steps c (Poll l) true (contents c.year (set c.lanes l (lane_contents x.closed x.issued x.handed (x.polled + 1))) c.jobs c.workers c.results c.buffer)
poll_done c l x at more = λ s r shows.
    let f = found c s l x shows at in
    let v = f.0 in
    let count = handed_count c s l x (reached_good s r) f in
    let polled = ap (λ (u : LaneContents). u.polled) f.2 in
    let on = lt-ltb v.polled v.handed (omega arith) in
    let w = lane_state v.submitted v.closed (v.polled + 1) v.handed in
    let t = state s.year (set s.lanes l w) s.jobs s.workers s.results s.waiting in
    done _ s t (Poll l) (ap (poll s l) f.1 ∙ (λ i. cond (on i) (Some t) None))
    (lane_shows c s l v w _ shows f.1 refl (λ i. lane_contents (f.2 i).closed (f.2 i).issued (f.2 i).handed ((f.2 i).polled + 1)))

-- closing
pub close_none : (c : Contents) (l : ℕ) (x : LaneContents) → slice_get c.lanes l ≡ Some x → x.closed ≡ true → Steps c (Close l) false c
close_none c l x at closed = λ s r shows.
    let f = found c s l x shows at in
    let v = f.0 in
    let off = not_from_true v.closed (ap (λ (u : LaneContents). u.closed) f.2 ∙ closed) in
    idle c s (Close l) (ap (close s l) f.1 ∙ cond-false (not v.closed) _ None off) shows

pub close_done : (c : Contents) (l : ℕ) (x : LaneContents) → slice_get c.lanes l ≡ Some x → x.closed ≡ false
    → Steps c (Close l) true (contents c.year (set c.lanes l (lane_contents true x.issued x.handed x.polled)) c.jobs c.workers c.results c.buffer)
close_done c l x at open_ = λ s r shows.
    let f = found c s l x shows at in
    let v = f.0 in
    let on = not_from_false v.closed (ap (λ (u : LaneContents). u.closed) f.2 ∙ open_) in
    let w = lane_state v.submitted true v.polled v.handed in
    let t = state s.year (set s.lanes l w) s.jobs s.workers s.results s.waiting in
    done _ s t (Close l) (ap (close s l) f.1 ∙ (λ i. cond (on i) (Some t) None))
    (lane_shows c s l v w _ shows f.1 refl (λ i. lane_contents true (f.2 i).issued (f.2 i).handed (f.2 i).polled))
