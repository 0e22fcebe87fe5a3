-- What each event keeps, and so each list of events: a state that is reached is `Good`. It goes through the events one by one, as QueueFacts
-- and HistoryFacts do.
use Rattle.std.proofs.Common.{◌≡◌, ℕ, ◌+◌, ◌≤◌, ◌^◌, ◌&&◌, not, nat_lt, true, false, zero, suc, List, [], ◌∷◌, ◌++◌, length, replicate, Option, Some, None, refl, sym, ap, ◌∙◌, subst, arith}
use Rattle.std.specs.List.{AllByRecursion, slice_get}
use Rattle.std.proofs.lemmas.Bool.{ltb-true}
use Rattle.element_core.specs.Terms.{Terms}
use Rattle.lane_core.specs.declared.event.Event.{Event}
use Rattle.lane_core.specs.declared.event.Event.TheVariants.{Submit, Take, Post, Collect, Hand, Poll, Close}
use Rattle.lane_core.specs.declared.job.Plain.{Plain}
use Rattle.lane_core.specs.Machine.{LaneState, State, IsReached, after, close, collect, hand, handed_of, lane_state, next_job, of_lane, or_same, poll, post, run, start, submit, submitted_by, take_job}
use Rattle.lane_core.specs.Tickets.{is_among, is_ticket_of, numbered}
use Rattle.lane_core.specs.Weights.{once}
use Rattle.lane_core.proofs.GoodFacts.{Good, added, given, is_own, moved, settled}
use Rattle.lane_core.proofs.ChangedLane.{lane_was}
use Rattle.lane_core.proofs.UnderWay.{collected_under_way, posted_under_way, taken_under_way}
use Rattle.lane_core.proofs.WeightFacts.{none_in}
use Rattle.lane_core.proofs.AllowedEvents.{by_test}

-- each event
submit_keeps : (s : State) (l : ℕ) (row : List ℕ) (o : Option LaneState) → slice_get s.lanes l ≡ o → Good s → Good (or_same s (submit s l row o))
submit_keeps s l row None at good = good
submit_keeps s l row (Some v) at good = by_test Good s _ (not v.closed && nat_lt (length v.submitted) (2 ^ 32)) good
    (λ _. added s l v (next_job s l v row) at refl refl refl good)

take_keeps : (s : State) (w : ℕ) (o : Option (Option Plain)) (jobs : List Plain) → slice_get s.workers w ≡ o → s.jobs ≡ jobs → Good s
    → Good (or_same s (take_job s w o jobs))
take_keeps s w None jobs at is good = good
take_keeps s w (Some (Some y)) jobs at is good = good
take_keeps s w (Some None) [] at is good = good
take_keeps s w (Some None) (x ∷ jobs) at is good = moved s _ _ _ _ (λ h. taken_under_way s w x jobs h at is) good

post_keeps : (s : State) (w : ℕ) (o : Option (Option Plain)) → slice_get s.workers w ≡ o → Good s → Good (or_same s (post s w o))
post_keeps s w None at good = good
post_keeps s w (Some None) at good = good
post_keeps s w (Some (Some x)) at good = moved s _ _ _ _ (λ h. posted_under_way s w x h at) good

collect_keeps : (s : State) (results : List Plain) → s.results ≡ results → Good s → Good (or_same s (collect s results))
collect_keeps s [] is good = good
collect_keeps s (x ∷ results) is good = moved s _ _ _ _ (λ h. collected_under_way s x results h is) good

hand_keeps : (s : State) (l : ℕ) (o : Option LaneState) → slice_get s.lanes l ≡ o → Good s → Good (or_same s (hand s l o))
hand_keeps s l None at good = good
hand_keeps s l (Some v) at good = by_test Good s _ (is_among l v.handed s.waiting) good (λ waits. given s l v at waits good)

poll_keeps : (s : State) (l : ℕ) (o : Option LaneState) → slice_get s.lanes l ≡ o → Good s → Good (or_same s (poll s l o))
poll_keeps s l None at good = good
poll_keeps s l (Some v) at good = by_test Good s _ (nat_lt v.polled v.handed) good
    (λ e. settled s l v (lane_state v.submitted v.closed (v.polled + 1) v.handed) at refl refl (let f = ltb-true v.polled v.handed e in omega arith) good)

-- a lane has polled no more than it was handed
pub few_of : (s : State) (l : ℕ) (v : LaneState) → slice_get s.lanes l ≡ Some v → Good s → v.polled ≤ v.handed
few_of s l v at good =
    let a = good.few l in
    let b = lane_was 0 (λ u. u.polled) s.lanes l l v at refl in
    let c = lane_was 0 (λ u. u.handed) s.lanes l l v at refl in omega arith

close_keeps : (s : State) (l : ℕ) (o : Option LaneState) → slice_get s.lanes l ≡ o → Good s → Good (or_same s (close s l o))
close_keeps s l None at good = good
close_keeps s l (Some v) at good = by_test Good s _ (not v.closed) good
    (λ _. settled s l v (lane_state v.submitted true v.polled v.handed) at refl refl (few_of s l v at good) good)

-- one event, whichever it is, and several
step_keeps : (s : State) (e : Event) → Good s → Good (after s e)
step_keeps s (Submit l row) good = submit_keeps s l row (slice_get s.lanes l) refl good
step_keeps s (Take w) good = take_keeps s w (slice_get s.workers w) s.jobs refl refl good
step_keeps s (Post w) good = post_keeps s w (slice_get s.workers w) refl good
step_keeps s Collect good = collect_keeps s s.results refl good
step_keeps s (Hand l) good = hand_keeps s l (slice_get s.lanes l) refl good
step_keeps s (Poll l) good = poll_keeps s l (slice_get s.lanes l) refl good
step_keeps s (Close l) good = close_keeps s l (slice_get s.lanes l) refl good

run_keeps : (s : State) (es : List Event) → Good s → Good (run s es)
run_keeps s [] good = good
run_keeps s (e ∷ es) good = run_keeps (after s e) es (step_keeps s e good)

-- what there is of a lane that has done nothing, and of one that is not there
pub of_fresh : {X : Type 0} (d : X) (f : LaneState → X) (v : LaneState) (n l : ℕ) → f v ≡ d → of_lane d f (slice_get (replicate n v) l) ≡ d
of_fresh d f v zero l e = refl
of_fresh d f v (suc n) zero e = e
of_fresh d f v (suc n) (suc l) e = of_fresh d f v n l e

-- a new machine
start_good : (lanes workers : ℕ) (year : Terms) → Good (start lanes workers year)
start_good lanes workers year =
    let fresh = lane_state [] false 0 0 in
    let sub : (l : ℕ) → submitted_by (start lanes workers year) l ≡ [] = λ l. of_fresh [] (λ u. u.submitted) fresh lanes l refl in
    let h : (l : ℕ) → handed_of (start lanes workers year) l ≡ 0 = λ l. of_fresh 0 (λ u. u.handed) fresh lanes l refl in
    record {
      one = λ l k.
          let a = ap (λ n. once (nat_lt k n)) (h l) in
          let b = ap (λ (xs : List Plain). once (nat_lt k (length xs))) (sub l) in
          let c = none_in (λ x. once (is_ticket_of l k x)) workers in omega arith;
      few = λ l. let a = of_fresh 0 (λ u. u.polled) fresh lanes l refl in omega arith;
      in_order = λ l. ap (numbered l 0) (sub l);
      same_year = λ l. subst (AllByRecursion (λ (x : Plain). x.year ≡ year)) (sym (sub l)) tt;
      own = let c = none_in (λ x. once (not (is_own (start lanes workers year) x))) workers in omega arith;
    }

pub reached_good : (s : State) → IsReached s → Good s
reached_good s r = subst Good r.4 (run_keeps (start r.0 r.1 r.2) r.3 (start_good r.0 r.1 r.2))

-- to run two lists of events one after the other is to run them as one; so more events lead from a reached state to a reached one
run_run : (s : State) (es ds : List Event) → run s (es ++ ds) ≡ run (run s es) ds
run_run s [] ds = refl
run_run s (e ∷ es) ds = run_run (after s e) es ds

pub reached_run : (s : State) (es : List Event) → IsReached s → IsReached (run s es)
reached_run s es r = (r.0, r.1, r.2, r.3 ++ es, run_run (start r.0 r.1 r.2) r.3 es ∙ ap (λ t. run t es) r.4)

-- and one more event
pub reached_more : (s : State) (e : Event) → IsReached s → IsReached (after s e)
reached_more s e r = reached_run s (e ∷ []) r
