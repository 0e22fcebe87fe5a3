-- The lanes before a place have ended their turn, and the others are as they were.
use Rattle.command_runs.proofs.live.Words.{IsEnded, Some, Waiting, length, slice_get, ℕ, ◌<◌, ◌≡◌, ◌≤◌}
use Rattle.command_runs.proofs.live.waiting.end_turn.Given as goal

abbrev pub invariant-loop-index : goal.invariant-loop-index
invariant-loop-index l = record {
  count : length l.lanes.items ≡ length l.fn.lanes.items;
  each : (k : ℕ) (w : Waiting) → slice_get l.lanes.items k ≡ Some w
      → (k < l.index → (v : Waiting) × (slice_get l.fn.lanes.items k ≡ Some v) × IsEnded v w) × (l.index ≤ k → slice_get l.fn.lanes.items k ≡ Some w);
}
