use Rattle.std.proofs.Common.{◌≡◌, ◌≤◌, ◌*◌, sum, take}
use Rattle.scan_core.proofs.runs.total.Given as goal

abbrev pub invariant-loop-width : goal.invariant-loop-width
invariant-loop-width l = record {
  so_far : l.total ≡ sum (take l.width-index l.widths);
  fits : l.total ≤ 65535 * l.width-index;
}
