use Rattle.std.proofs.Common.{◌≡◌, ◌⊎◌, ◌<◌, ◌≤◌, ℕ, slice_index}
use Rattle.scan_core.proofs.symbols.widest_of.Given as goal

abbrev pub invariant-runs : goal.invariant-runs
invariant-runs l = record {
  reached : (l.widest ≡ 0) ⊎ ((j : ℕ) × (j < l.i) × (slice_index l.widths j ≡ l.widest));
  passed : (j : ℕ) → j < l.i → slice_index l.widths j ≤ l.widest;
}
