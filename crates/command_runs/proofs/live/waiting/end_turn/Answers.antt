-- The lanes so far have ended their turn, and the others are as they were.
use Rattle.command_runs.proofs.live.Words.{IsEnded, Some, Waiting, arith, length, length-set, refl, slice_get, slice_get_read, slice_get_within, ◌+◌, ◌<◌, ◌∙◌, ◌≡◌, ◌≤◌}
use Rattle.command_runs.proofs.live.ListsGrow.{set_each}
use Rattle.command_runs.proofs.live.waiting.end_turn.Goals as goal

pub loop-index-preserved : goal.loop-index-preserved
loop-index-preserved c =
    let now = c.loop-index.lanes.items in
    let i = c.loop-index.index in
    let v = c.index_mut.result.now in
    let low : i < length now = omega (arith, c.loop-index-test.true, c.loop-index.invariant.count, c.len-index-end.ensures, c.args.lanes.now.ok.0) in
    let was = (c.loop-index.invariant.each i v (slice_get_read now (length now) i v refl low c.index_mut.ensures.value)).1 (omega arith) in
    record {
      count = length-set now i c.end_lane.new.waiting ∙ c.loop-index.invariant.count;
      each = set_each (λ k w. (k < i + 1 → (x : Waiting) × (slice_get c.args.lanes.now.items k ≡ Some x) × IsEnded x w)
          × (i + 1 ≤ k → slice_get c.args.lanes.now.items k ≡ Some w)) now i c.end_lane.new.waiting
          ((λ below. (v, was, c.end_lane.ensures)), (λ past. absurd (omega (arith, past))))
          (λ k w other at. let e = c.loop-index.invariant.each k w at in ((λ below. e.0 (omega (arith, below, other))), (λ past. e.1 (omega (arith, past)))));
    }

pub returns : goal.returns
returns c = record {
  count = c.loop-index.invariant.count;
  each = λ k w at. (c.loop-index.invariant.each k w at).0
      (omega (arith, slice_get_within c.loop-index.lanes.items k w at, c.loop-index-test.false, c.loop-index.invariant.count, c.len-index-end.ensures, c.args.lanes.now.ok.0, c.loop-index.auto.index-end));
}
