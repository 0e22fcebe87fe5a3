use Rattle.std.proofs.Common.{◌+◌, ◌/◌, ◌≤◌, ◌<◌, ℕ}
use Rattle.line_core.specs.Ends.{at}
use Rattle.line_core.proofs.ends.rises.Given as goal

abbrev pub invariant-samples : goal.invariant-samples
invariant-samples l = record {
  below : (i : ℕ) → l.from ≤ i → i < l.sample → at l.values i ≤ l.high;
  above : (i : ℕ) → l.from ≤ i → i < l.sample → l.low ≤ at l.values i;
  highest : (i : ℕ) → l.from ≤ i → i < l.sample → at l.values i ≤ l.highest;
  one_way : (i j : ℕ) → l.from ≤ i → i ≤ j → j < l.sample → at l.values i ≤ at l.values j + l.all / 2;
}
