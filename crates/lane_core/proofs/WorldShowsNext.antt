-- A world shows the machine's next state: what all events share, collecting a result (`World::collect`), and a new world.
-- `c` is what the world keeps before the event, and `s` is the state that it shows. Events of lanes are in LaneShowFacts and HandShowFacts, those of
-- workers in WorkerShowFacts.
use Rattle.std.proofs.Common.{◌≡◌, ℕ, ◌<◌, ◌||◌, not, nat_lt, Bool, true, false, zero, suc, List, [], ◌∷◌, ◌++◌, length, replicate, Some, None, refl, sym, ap, ◌∙◌, subst, arith}
use Rattle.std.specs.List.{slice_get, count_by}
use Rattle.std.specs.Option.{is_some}
use Rattle.std.proofs.lemmas.List.Folds.{list_any-append}
use Rattle.std.proofs.lemmas.List.Sums.{sum_by-append, sum_by-cons}
use Rattle.std.proofs.lemmas.List.Sorted.{sum_by-IsPermutation, IsPermutation-refl}
use Rattle.std.proofs.lemmas.Bool.{lt-ltb, and_from, not_from_false, ltb-true, or_from}
use Rattle.std.proofs.lemmas.List.{length-map}
use Rattle.std.proofs.Math.Bool.{or-false, or_assoc}
use Rattle.element_core.specs.Terms.{Terms}
use Rattle.lane_core.specs.declared.event.Event.{Event}
use Rattle.lane_core.specs.declared.event.Event.TheVariants.{Collect}
use Rattle.lane_core.specs.declared.job.Plain.{Plain}
use Rattle.lane_core.specs.Contents.{Contents, IsShown, ShowsState, Steps, contents, lane_contents, shown_lane, LaneContents}
use Rattle.lane_core.specs.ReorderBuffer.{ReorderBuffer, TakesIn, is_new, new_buffer, was_taken}
use Rattle.lane_core.specs.Machine.{LaneState, State, after, collect, handed_of, issued_of, lane_state, of_lane, or_same, start, step}
use Rattle.lane_core.specs.Tickets.{is_among, is_ticket_of}
use Rattle.lane_core.specs.Weights.{once}
use Rattle.lane_core.proofs.SameFacts.{permutation_from}
use Rattle.lane_core.proofs.StepFacts.{of_fresh, reached_good, reached_more}
use Rattle.lane_core.proofs.TruthFacts.{once_below, true_from_once, false_from_once}
use Rattle.lane_core.proofs.ListFacts.{map_replicate, get_or_zeros}
use Rattle.lane_core.proofs.TicketFacts.{not_among, ticket_self}

-- an event that is done, and one that is not
pub done : (d : Contents) (s t : State) (e : Event) → step s e ≡ Some t → ShowsState d t → (is_some (step s e) ≡ true) × ShowsState d (after s e)
done d s t e is shows = (ap (λ o. is_some o) is, subst (ShowsState d) (sym (ap (or_same s) is)) shows)

pub idle : (c : Contents) (s : State) (e : Event) → step s e ≡ None → ShowsState c s → (is_some (step s e) ≡ false) × ShowsState c (after s e)
idle c s e is shows = (ap (λ o. is_some o) is, subst (ShowsState c) (sym (ap (or_same s) is)) shows)

-- and a world that shows a state shows one after it
pub shown_after : (c d : Contents) (e : Event) (b : Bool) → IsShown c → Steps c e b d → IsShown d
shown_after c d e b shown steps = (after shown.0 e, reached_more shown.0 e shown.1, (steps shown.0 shown.1 shown.2).1)

-- the deliverer collects a result
pub collect_done : (c : Contents) (x : Plain) (results : List Plain) (e : ReorderBuffer) → c.results ≡ x ∷ results → TakesIn c.buffer x e
    → Steps c Collect true (contents c.year c.lanes c.jobs c.workers results e)
collect_done c x results e is taken = λ s r shows. done _ s _ Collect (ap (collect s) (sym shows.results ∙ is))
    record {
      year = shows.year;
      lanes = shows.lanes;
      jobs = shows.jobs;
      workers = shows.workers;
      results = refl;
      nexts = taken.nexts ∙ shows.nexts;
      waiting = permutation_from e.waiting (s.waiting ++ x ∷ [])
          (λ h. let a = taken.waiting h in let b = sum_by-IsPermutation h c.buffer.waiting s.waiting shows.waiting in let d =
          sum_by-append h s.waiting (x ∷ []) in omega arith);
      known = λ l k. taken.known l k
          ∙ (ap (λ b. b || is_ticket_of l k x) (shows.known l k)
          ∙ (or_assoc (nat_lt k (handed_of s l)) (is_among l k s.waiting) (is_ticket_of l k x)
          ∙ ap (λ b. nat_lt k (handed_of s l) || b) ((λ i. is_among l k s.waiting || sym (or-false (is_ticket_of l k x)) i)
          ∙ sym (list_any-append (is_ticket_of l k) s.waiting (x ∷ [])))));
    }

-- a lane that has submitted something is there
lane_there : (vs : List LaneState) (l k : ℕ) → k < length (of_lane [] (λ v. v.submitted) (slice_get vs l)) → l < length vs
lane_there [] l k e = absurd (omega arith)
lane_there (v ∷ vs) zero k e = omega arith
lane_there (v ∷ vs) (suc l) k e = let rest = lane_there vs l k e in omega arith

-- no result is a stranger
pub result_is_new : (c : Contents) (x : Plain) (results : List Plain) → c.results ≡ x ∷ results → IsShown c → is_new c.buffer x ≡ true
result_is_new c x results is shown =
    let s = shown.0 in
    let shows = shown.2 in
    let good = reached_good s shown.1 in
    let one = good.one x.lane x.number in
    let here = ap (count_by (is_ticket_of x.lane x.number)) (sym shows.results ∙ is) in
    let self = ticket_self x in
    let first = sum_by-cons (λ y. once (is_ticket_of x.lane x.number y)) x results in
    let issued : x.number < issued_of s x.lane = ltb-true x.number (issued_of s x.lane) (true_from_once (nat_lt x.number (issued_of s x.lane)) (omega arith)) in
    let there = lane_there s.lanes x.lane x.number issued in
    let most : once (nat_lt x.number (issued_of s x.lane)) ≡ 1 = once_below x.number (issued_of s x.lane) issued in
    let handed : once (nat_lt x.number (handed_of s x.lane)) ≡ 0 = omega arith in
    let none : count_by (is_ticket_of x.lane x.number) s.waiting ≡ 0 = omega arith in
    let waits : is_among x.lane x.number s.waiting ≡ false = not_among x.lane x.number s.waiting none in
    let count = ap (λ (xs : List ℕ). length xs) shows.nexts ∙ length-map s.lanes (λ (v : LaneState). v.handed) in
    and_from (nat_lt x.lane (length c.buffer.nexts)) (not (was_taken c.buffer x.lane x.number)) (lt-ltb x.lane (length c.buffer.nexts) (omega arith))
    (not_from_false (was_taken c.buffer x.lane x.number) (shows.known x.lane x.number ∙ or_from (nat_lt x.number (handed_of s x.lane)) (is_among x.lane x.number s.waiting)
    (false_from_once (nat_lt x.number (handed_of s x.lane)) handed) waits))

-- the deliverer keeps as many lanes as there are
pub lane_count_kept : (c : Contents) → IsShown c → length c.buffer.nexts ≡ length c.lanes
lane_count_kept c shown =
    let s = shown.0 in
    let shows = shown.2 in
    ap (λ (xs : List ℕ). length xs) shows.nexts ∙ (length-map s.lanes (λ (v : LaneState). v.handed)
    ∙ (sym (length-map s.lanes shown_lane) ∙ ap (λ (xs : List LaneContents). length xs) (sym shows.lanes)))

-- a new world
pub start_shown : (lanes workers : ℕ) (year : Terms) → ShowsState (contents year (replicate lanes (lane_contents false 0 [] 0)) [] (replicate workers None) []
    (new_buffer lanes)) (start lanes workers year)
start_shown lanes workers year =
    let fresh = lane_state [] false 0 0 in
    record {
      year = refl;
      lanes = sym (map_replicate shown_lane lanes fresh);
      jobs = refl;
      workers = refl;
      results = refl;
      nexts = sym (map_replicate (λ (v : LaneState). v.handed) lanes fresh);
      waiting = IsPermutation-refl [];
      known = λ l k. ap (λ n. nat_lt k n || false) (get_or_zeros lanes l ∙ sym (of_fresh 0 (λ v. v.handed) fresh lanes l refl));
    }

pub start_is_shown : (lanes workers : ℕ) (year : Terms) → IsShown (contents year (replicate lanes (lane_contents false 0 [] 0)) [] (replicate workers None) []
    (new_buffer lanes))
start_is_shown lanes workers year = (start lanes workers year, (lanes, workers, year, [], refl), start_shown lanes workers year)
