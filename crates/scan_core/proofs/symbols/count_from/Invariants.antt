use Rattle.std.proofs.Common.{◌+◌, ◌*◌, ◌≤◌}
use Rattle.scan_core.specs.inner.Searches.{AreNoneShorter, HasRun}
use Rattle.element_core.specs.Terms.{Terms}
use Rattle.scan_core.proofs.symbols.count_from.Given as goal

abbrev pub invariant-pairs : goal.invariant-pairs
invariant-pairs l = record {
  many : 12 ≤ l.k;
  reached : HasRun l.widths l.first (2 * l.k + 3) l.widest;
  shorter : (year : Terms) → AreNoneShorter l.widths year l.first l.least (2 * l.k + 3);
}
