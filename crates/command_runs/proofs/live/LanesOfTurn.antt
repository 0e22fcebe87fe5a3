-- The lanes of a turn, as their rows are given and their deliveries brought (of `waiting.rt` and `AreWaiting` of specs/inner/Came).
use Rattle.command_runs.specs.declared.live.pending.PendingReply.TheVariants as pending
use Rattle.command_runs.proofs.live.Words.{AllZip, AreEnded, AreWaiting, HasMoved, IsAllBrought, IsPending, IsReady, IsWaiting, List, PendingReply, Plain, Reply, Some, Waiting, [], ap, append-nil, append_assoc, arith, get_or, get_or-map, length, length-append, length-set, refl, set, slice_get, slice_get_within, sym, vec_capacity, zip_weaker, ℕ, ◌++◌, ◌+◌, ◌<◌, ◌∙◌, ◌≡◌, ◌≤◌}
use Rattle.command_runs.proofs.live.ListsGrow.{GrowsAt, EachGrows, got_grown, set_each}

-- the lanes of a turn have changed, and its first rows have not
abbrev pub FirstsStay : List Waiting → List Waiting → Type 0
FirstsStay old new = (length old ≤ length new) × ((l : ℕ) (u : Waiting) → slice_get new l ≡ Some u → (x : Waiting) × (slice_get old l ≡ Some x) × (u.first ≡ x.first))

pub firsts_same : (lanes : List Waiting) → FirstsStay lanes lanes
firsts_same lanes = (omega arith, λ l u at. (u, at, refl))

-- pending replies stay what they are if more rows are given in the same turn
pub still_pending : (old new : List (List (List ℕ))) (lanes later : List Waiting) → EachGrows old new → FirstsStay lanes later → (rs : List PendingReply) (ys : List Reply)
    → AllZip (IsPending old lanes) rs ys → AllZip (IsPending new later) rs ys
still_pending old new lanes later more stay = zip_weaker (IsPending old lanes) (IsPending new later) each
  where
    each : (r : PendingReply) (y : Reply) → IsPending old lanes r y → IsPending new later r y
    each (pending.Row l number) y (widths, is, got, low, late) =
        (widths, is, got_grown old new l number widths more got, omega (arith, low, stay.0), λ u at. let x = stay.1 l u at in omega (arith, late x.0 x.1, x.2))
    each (pending.Notice n) y is = is

module _ {n : ℕ} {given : List (List (List ℕ))} {brought : List (List Plain)} {lanes : List Waiting} (a : AreWaiting n given brought lanes) where
  -- `IsAllBrought`, of one lane
  even_at : IsAllBrought given brought → (l : ℕ) → l < length lanes → length (get_or brought l []) ≡ length (get_or given l [])
  even_at even l low = sym (get_or-map (λ xs. length xs) brought l [] 0 (omega (arith, a.count, a.deliveries, low))) ∙ ap (λ ns. get_or ns l 0) even
      ∙ get_or-map (λ xs. length xs) given l [] 0 (omega (arith, a.count, a.rows, low))

  -- each pending reply has its delivery then
  pub ready : IsAllBrought given brought → (r : PendingReply) (y : Reply) → IsPending given lanes r y → IsReady lanes r
  ready even (pending.Row l number) y (widths, is, got, low, late) =
      (low, λ w at. let i = a.each l w at in (late w at, omega (arith, slice_get_within (get_or given l []) number widths got, even_at even l low, i.first, ap length i.whole, length-append i.written w.deliveries.items)))
  ready even (pending.Notice n) y is = tt

  -- the turn has ended
  pub turn_ended : (new : List Waiting) → IsAllBrought given brought → AreEnded lanes new → AreWaiting n given brought new
  turn_ended new even end = record {
    count = end.count ∙ a.count;
    rows = a.rows;
    deliveries = a.deliveries;
    each = λ l w at.
        let (v, was, e) = end.each l w at in
        let all = get_or brought l [] in
        let same : length all ≡ length (get_or given l []) = even_at even l (omega (arith, slice_get_within new l w at, end.count)) in
        let next = (a.each l v was).next in
        record {
          written = all;
          whole = sym (append-nil all) ∙ ap (λ ds. all ++ ds) (sym e.deliveries);
          first = e.first ∙ next ∙ sym same;
          next = e.next ∙ next;
          behind = omega (arith, same);
          room = omega (arith, e.first, e.next);
        };
  }

  module _ (lane : ℕ) (w v : Waiting) (at : slice_get lanes lane ≡ Some w) where
    -- a lane changes, and not its first row of the turn
    pub same_first : v.first ≡ w.first → FirstsStay lanes (set lanes lane v)
    same_first first =
        (omega (arith, length-set lanes lane v), set_each (λ l u. (x : Waiting) × (slice_get lanes l ≡ Some x) × (u.first ≡ x.first)) lanes lane v (w, at, first) (λ l u other got. (u, got, refl)))

    -- by rows and deliveries
    pub moved : (rows : List (List ℕ)) (more : List Plain) (new : List (List (List ℕ))) (all : List (List Plain)) → GrowsAt lane rows given new
        → GrowsAt lane more brought all → HasMoved (length rows) more w v → v.next ≤ v.first + vec_capacity v.deliveries → length (get_or all lane []) ≤ length (get_or new lane [])
        → AreWaiting n new all (set lanes lane v)
    moved rows more new all g b m room behind = let i = a.each lane w at in record {
      count = length-set lanes lane v ∙ a.count;
      rows = g.count ∙ a.rows;
      deliveries = b.count ∙ a.deliveries;
      each = set_each (λ l u. IsWaiting (get_or new l []) (get_or all l []) u) lanes lane v (record {
        written = i.written;
        whole = b.here ∙ ap (λ bs. bs ++ more) i.whole ∙ append_assoc i.written w.deliveries.items more ∙ ap (λ ds. i.written ++ ds) (sym m.deliveries);
        first = m.first ∙ i.first;
        next = omega (arith, m.next, i.next, ap length g.here, length-append (get_or given lane []) rows);
        behind = behind;
        room = room;
      }) (λ l u other got. rw (g.others l other, b.others l other) (a.each l u got));
    }
