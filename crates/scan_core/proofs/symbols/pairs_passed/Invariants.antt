use Rattle.std.proofs.Common.{◌+◌, ◌-◌, ◌*◌, ◌<◌, ◌≤◌, ℕ, slice_index}
use Rattle.scan_core.proofs.symbols.pairs_passed.Given as goal

abbrev pub invariant-eights : goal.invariant-eights
invariant-eights l = record {
  least : 12 ≤ l.passed;
  most : l.passed ≤ l.pairs + 12;
  passed : (k : ℕ) → 12 ≤ k → k < l.passed → slice_index l.widths (l.first + 2 * k + 2) ≤ l.widest;
}

abbrev pub decreases-eights : goal.decreases-eights
decreases-eights l = l.pairs - l.passed
