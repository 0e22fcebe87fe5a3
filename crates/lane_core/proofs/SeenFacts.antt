-- What a world's lane says of the state that it shows: for the calls of `World` that only look.
use Rattle.std.proofs.Common.{◌≡◌, ℕ, ◌<◌, ◌≤◌, true, false, List, [], length, take, Some, refl, sym, ap, ◌∙◌, arith, get_or}
use Rattle.std.specs.List.{slice_get}
use Rattle.std.proofs.lemmas.List.{take-take}
use Rattle.lane_core.specs.declared.job.Plain.{Plain}
use Rattle.lane_core.specs.Contents.{Contents, LaneContents, ShowsState, HoldsOfShown}
use Rattle.lane_core.specs.Machine.{State, IsReached, handed_of, is_closed, issued_of, polled_by, polled_of}
use Rattle.lane_core.specs.Tickets.{is_among, is_held_by}
use Rattle.lane_core.specs.Holding.{held, lane_held}
use Rattle.lane_core.specs.declared.lane.Lane.{Lane}
use Rattle.lane_core.specs.declared.world.World.TheInside.{Inside}
use Rattle.lane_core.proofs.ChangedLane.{lane_was}
use Rattle.lane_core.proofs.LaneShowFacts.{found, handed_count}
use Rattle.lane_core.proofs.StepFacts.{few_of, reached_good}
use Rattle.lane_core.proofs.TruthFacts.{once_below, once_not_below}
use Rattle.lane_core.proofs.TicketFacts.{among_from, not_among_times, not_held_times}
use Rattle.lane_core.proofs.HeldFacts.{lane_at}

-- the lane that the world has is the machine's
pub record Seen (s : State) (l : ℕ) (x : LaneContents) : Type 0 where
  pub closed : x.closed ≡ is_closed s l
  pub issued : x.issued ≡ issued_of s l
  pub polled : x.polled ≡ polled_of s l
  pub handed : length x.handed ≡ handed_of s l
  pub list : take x.polled x.handed ≡ polled_by s l
  pub few : x.polled ≤ length x.handed

pub seen : (c : Contents) (s : State) (l : ℕ) (x : LaneContents) → IsReached s → ShowsState c s → slice_get c.lanes l ≡ Some x → Seen s l x
seen c s l x r shows at =
    let f = found c s l x shows at in
    let v = f.0 in
    let good = reached_good s r in
    let count = handed_count c s l x good f in
    let few = few_of s l v f.1 good in
    let polled = ap (λ (u : LaneContents). u.polled) f.2 in
    let sub = lane_was [] (λ u. u.submitted) s.lanes l l v f.1 refl in
    let polls = lane_was 0 (λ u. u.polled) s.lanes l l v f.1 refl in
    record {
      closed = ap (λ (u : LaneContents). u.closed) (sym f.2) ∙ sym (lane_was false (λ u. u.closed) s.lanes l l v f.1 refl);
      issued = ap (λ (u : LaneContents). u.issued) (sym f.2) ∙ ap (λ (xs : List Plain). length xs) (sym sub);
      polled = sym polled ∙ sym polls;
      handed = count ∙ sym (lane_was 0 (λ u. u.handed) s.lanes l l v f.1 refl);
      list = ap (λ (u : LaneContents). take u.polled u.handed) (sym f.2)
          ∙ (take-take v.polled v.handed v.submitted few ∙ (λ i. take (sym polls i) (sym sub i)));
      few = omega arith;
    }

-- a place of the world's lanes shows what the machine has there
pub seen_at : (w : Inside) (l : ℕ) (x : Lane) → l < length w.lanes.items → x ≡ get_or w.lanes.items l x
    → HoldsOfShown (held w) (λ s. Seen s l (lane_held x))
seen_at w l x less is s r shows = seen (held w) s l (lane_held x) r shows (lane_at w.lanes.items l x less is)

-- an issued ticket that is in no other place waits
pub must_wait : (c : Contents) (s : State) (l k : ℕ) → IsReached s → ShowsState c s → k < issued_of s l → handed_of s l ≤ k
    → is_among l k c.jobs ≡ false → is_held_by l k c.workers ≡ false → is_among l k c.results ≡ false → is_among l k s.waiting ≡ true
must_wait c s l k r shows issued handed jobs workers results =
    let good = reached_good s r in
    let one = good.one l k in
    let a = not_among_times l k s.jobs (ap (is_among l k) (sym shows.jobs) ∙ jobs) in
    let b = not_held_times l k s.workers (ap (is_held_by l k) (sym shows.workers) ∙ workers) in
    let d = not_among_times l k s.results (ap (is_among l k) (sym shows.results) ∙ results) in
    let e = once_below k (issued_of s l) issued in
    let f = once_not_below k (handed_of s l) handed in
    among_from l k s.waiting (omega arith)
