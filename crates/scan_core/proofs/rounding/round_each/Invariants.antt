use Rattle.std.proofs.Common.{◌≡◌, List, false, length, take, true, ℕ}
use Rattle.std.specs.List.{AllZip}
use Rattle.scan_core.specs.Showing.{IsRun}
use Rattle.scan_core.proofs.rounding.round_each.Given as goal

abbrev pub invariant-runs : goal.invariant-runs
invariant-runs l = record {
  places : length l.modules ≡ length l.inner;
  found : l.each ≡ true → AllZip (IsRun l.count l.total) (take l.i l.inner) (take l.i l.modules);
  none : l.each ≡ false → (ms : List ℕ) → AllZip (IsRun l.count l.total) l.inner ms → ⊥;
}
