use Rattle.std.proofs.Common.{◌-◌, ◌≤◌}
use Rattle.scan_core.specs.Bits.{dots_at}
use Rattle.scan_core.specs.inner.Cutting.{Cut}
use Rattle.scan_core.proofs.cut.cut_into.Given as goal

abbrev pub decreases-words : goal.decreases-words
decreases-words g l = l.width - l.at

abbrev pub invariant-words : goal.invariant-words
invariant-words g l = record {
  cut : Cut (g.R.RunList.runs l.list) l.run.width l.run.dark l.at (dots_at l.bits l.from l.at);
  in_row : l.at ≤ l.width;
}
