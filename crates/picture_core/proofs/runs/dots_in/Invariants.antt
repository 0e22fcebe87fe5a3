use Rattle.std.proofs.Common.{◌≡◌, ◌≤◌, ◌*◌, sum, take}
use Rattle.picture_core.proofs.runs.dots_in.Given as goal

abbrev pub invariant-loop-run : goal.invariant-loop-run
invariant-loop-run l = record {
  so_far : l.dots ≡ sum (take l.run-index l.runs);
  fits : l.dots ≤ 65535 * l.run-index;
}
