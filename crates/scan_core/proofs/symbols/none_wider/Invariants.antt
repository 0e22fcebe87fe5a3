use Rattle.std.proofs.Common.{◌≡◌, ◌<◌, ◌≤◌, ℕ, slice_index, true}
use Rattle.scan_core.proofs.symbols.none_wider.Given as goal

abbrev pub invariant-runs : goal.invariant-runs
invariant-runs l = l.none ≡ true → (j : ℕ) → j < l.i → slice_index l.widths j ≤ l.widest
