-- What each event leaves of a lane's submitted rows, of how many it has polled, and of its closing (`Grows`): the law `nothing_after_close`, and
-- for the laws `lists_grow` and `done_stays_done`.
-- It goes through the events one by one, as QueueFacts and StepFacts do.
use Rattle.std.proofs.Common.{◌≡◌, ◌≢◌, ⊎_elim, ℕ, ◌≤◌, ◌^◌, ◌&&◌, not, nat_lt, true, false, List, [], ◌∷◌, ◌++◌, length, append_assoc, append-nil, set, Option, Some, None, refl, sym, ap, ◌∙◌, arith}
use Rattle.std.specs.List.{slice_get}
use Rattle.std.proofs.lemmas.Bool.{cases_eq, both_ways, not-true, and_parts}
use Rattle.lane_core.specs.declared.event.Event.{Event}
use Rattle.lane_core.specs.declared.event.Event.TheVariants.{Submit, Take, Post, Collect, Hand, Poll, Close}
use Rattle.lane_core.specs.declared.job.Plain.{Plain}
use Rattle.lane_core.specs.History.{NothingAfterClose}
use Rattle.lane_core.specs.Machine.{LaneState, State, after, close, collect, hand, is_closed, next_job, or_same, poll, polled_of, post, run, state, submit, submitted_by, take_job}
use Rattle.lane_core.specs.Tickets.{is_among}
use Rattle.lane_core.proofs.ChangedLane.{lane_else, lane_here, lane_was}
use Rattle.lane_core.proofs.AllowedEvents.{by_test}

-- from one state to another: more may be submitted and polled, and a closed lane stays closed and submits nothing more
pub record Grows (s t : State) (l : ℕ) : Type 0 where
  pub more : List Plain
  pub submitted : submitted_by t l ≡ submitted_by s l ++ more
  pub polled : polled_of s l ≤ polled_of t l
  pub closed : is_closed s l ≡ true → (more ≡ []) × (is_closed t l ≡ true)

-- no lane changed
stays : (s : State) (l : ℕ) (jobs : List Plain) (workers : List (Option Plain)) (results waiting : List Plain)
    → Grows s (state s.year s.lanes jobs workers results waiting) l
stays s l jobs workers results waiting = record {
  more = [];
  submitted = sym (append-nil (submitted_by s l));
  polled = omega arith;
  closed = λ e. (refl, e);
}

-- nothing changed
same : (s : State) (l : ℕ) → Grows s s l
same s l = stays s l s.jobs s.workers s.results s.waiting

-- one lane changed
changed : (s : State) (i l : ℕ) (v w : LaneState) (jobs results waiting more : List Plain) → slice_get s.lanes i ≡ Some v
    → w.submitted ≡ v.submitted ++ more → v.polled ≤ w.polled → (v.closed ≡ true → (more ≡ []) × (w.closed ≡ true))
    → Grows s (state s.year (set s.lanes i w) jobs s.workers results waiting) l
changed s i l v w jobs results waiting more at submitted polled closed = ⊎_elim
    (λ (e : l ≡ i). record {
      more = more;
      submitted = lane_here [] (λ u. u.submitted) s.lanes i l v w at e
          ∙ (submitted ∙ ap (λ xs. xs ++ more) (sym (lane_was [] (λ u. u.submitted) s.lanes i l v at e)));
      polled = let a = lane_here 0 (λ u. u.polled) s.lanes i l v w at e in let b = lane_was 0 (λ u. u.polled) s.lanes i l v at e in omega arith;
      closed = λ c. let x = closed (sym (lane_was false (λ u. u.closed) s.lanes i l v at e) ∙ c) in
          (x.0, lane_here false (λ u. u.closed) s.lanes i l v w at e ∙ x.1);
    })
    (λ (e : l ≢ i). record {
      more = [];
      submitted = lane_else [] (λ u. u.submitted) s.lanes i l w e ∙ sym (append-nil (submitted_by s l));
      polled = let a = lane_else 0 (λ u. u.polled) s.lanes i l w e in omega arith;
      closed = λ c. (refl, lane_else false (λ u. u.closed) s.lanes i l w e ∙ c);
    })
    (cases_eq l i)

-- each event
submit_grows : (l : ℕ) (s : State) (i : ℕ) (row : List ℕ) (o : Option LaneState) → slice_get s.lanes i ≡ o → Grows s (or_same s (submit s i row o)) l
submit_grows l s i row None at = same s l
submit_grows l s i row (Some v) at = by_test (λ t. Grows s t l) s _ (not v.closed && nat_lt (length v.submitted) (2 ^ 32)) (same s l)
    (λ e. changed s i l v _ _ _ _ (next_job s i v row ∷ []) at refl (omega arith)
    (λ f. absurd (both_ways v.closed (not-true v.closed (and_parts (not v.closed) (nat_lt (length v.submitted) (2 ^ 32)) e).0) f)))

take_grows : (l : ℕ) (s : State) (w : ℕ) (o : Option (Option Plain)) (jobs : List Plain) → Grows s (or_same s (take_job s w o jobs)) l
take_grows l s w None jobs = same s l
take_grows l s w (Some (Some y)) jobs = same s l
take_grows l s w (Some None) [] = same s l
take_grows l s w (Some None) (x ∷ xs) = stays s l _ _ _ _

post_grows : (l : ℕ) (s : State) (w : ℕ) (o : Option (Option Plain)) → Grows s (or_same s (post s w o)) l
post_grows l s w None = same s l
post_grows l s w (Some None) = same s l
post_grows l s w (Some (Some x)) = stays s l _ _ _ _

collect_grows : (l : ℕ) (s : State) (results : List Plain) → Grows s (or_same s (collect s results)) l
collect_grows l s [] = same s l
collect_grows l s (x ∷ xs) = stays s l _ _ _ _

hand_grows : (l : ℕ) (s : State) (i : ℕ) (o : Option LaneState) → slice_get s.lanes i ≡ o → Grows s (or_same s (hand s i o)) l
hand_grows l s i None at = same s l
hand_grows l s i (Some v) at = by_test (λ t. Grows s t l) s _ (is_among i v.handed s.waiting) (same s l)
    (λ _. changed s i l v _ _ _ _ [] at (sym (append-nil v.submitted)) (omega arith) (λ f. (refl, f)))

poll_grows : (l : ℕ) (s : State) (i : ℕ) (o : Option LaneState) → slice_get s.lanes i ≡ o → Grows s (or_same s (poll s i o)) l
poll_grows l s i None at = same s l
poll_grows l s i (Some v) at = by_test (λ t. Grows s t l) s _ (nat_lt v.polled v.handed) (same s l)
    (λ _. changed s i l v _ _ _ _ [] at (sym (append-nil v.submitted)) (omega arith) (λ f. (refl, f)))

close_grows : (l : ℕ) (s : State) (i : ℕ) (o : Option LaneState) → slice_get s.lanes i ≡ o → Grows s (or_same s (close s i o)) l
close_grows l s i None at = same s l
close_grows l s i (Some v) at = by_test (λ t. Grows s t l) s _ (not v.closed) (same s l)
    (λ _. changed s i l v _ _ _ _ [] at (sym (append-nil v.submitted)) (omega arith) (λ f. (refl, refl)))

-- one event, whichever it is
step_grows : (l : ℕ) (s : State) (e : Event) → Grows s (after s e) l
step_grows l s (Submit i row) = submit_grows l s i row (slice_get s.lanes i) refl
step_grows l s (Take w) = take_grows l s w (slice_get s.workers w) s.jobs
step_grows l s (Post w) = post_grows l s w (slice_get s.workers w)
step_grows l s Collect = collect_grows l s s.results
step_grows l s (Hand i) = hand_grows l s i (slice_get s.lanes i) refl
step_grows l s (Poll i) = poll_grows l s i (slice_get s.lanes i) refl
step_grows l s (Close i) = close_grows l s i (slice_get s.lanes i) refl

-- from one state to another and on to a third
grows_both : (r s t : State) (l : ℕ) → Grows r s l → Grows s t l → Grows r t l
grows_both r s t l a b = record {
  more = a.more ++ b.more;
  submitted = b.submitted ∙ (ap (λ xs. xs ++ b.more) a.submitted ∙ append_assoc (submitted_by r l) a.more b.more);
  polled = let c = a.polled in let d = b.polled in omega arith;
  closed = λ e. let x = a.closed e in let y = b.closed x.1 in ((λ i. x.0 i ++ y.0 i), y.1);
}

-- and so several events
pub run_grows : (l : ℕ) (s : State) (es : List Event) → Grows s (run s es) l
run_grows l s [] = same s l
run_grows l s (e ∷ es) = grows_both s (after s e) (run (after s e) es) l (step_grows l s e) (run_grows l (after s e) es)

pub nothing_after_close : NothingAfterClose
nothing_after_close s es l closed =
    let g = run_grows l s es in
    let x = g.closed closed in
    (g.submitted ∙ (ap (λ xs. submitted_by s l ++ xs) x.0 ∙ append-nil (submitted_by s l)), x.1)
