-- The rows of the deliveries that are put back leave the lane ended.
use Rattle.command_runs.proofs.live.Words.{length, ◌≡◌}
use Rattle.command_runs.proofs.live.waiting.end_lane.Given as goal

abbrev pub invariant-rows : goal.invariant-rows
invariant-rows l = record {
  first : l.waiting.first ≡ l.fn.waiting.next;
  next : l.waiting.next ≡ l.fn.waiting.next;
}

abbrev pub decreases-rows : goal.decreases-rows
decreases-rows l = length l.waiting.deliveries.items
