use Rattle.std.proofs.Common.{◌≡◌, ◌+◌, ◌-◌, ◌<◌, ◌≤◌, length}
use Rattle.std.specs.Int.{bit_at}
use Rattle.scan_core.specs.Bits.{dots_at}
use Rattle.scan_core.proofs.RunsCutOfDots.{Open}
use Rattle.scan_core.proofs.WordFacts.{Known}
use Rattle.scan_core.proofs.cut.cut_word.Given as goal

abbrev pub decreases-runs : goal.decreases-runs
decreases-runs g l = l.left + bit_at l.others 63

abbrev pub invariant-runs : goal.invariant-runs
invariant-runs g l = record {
  cut : Open (g.R.RunList.runs l.list) l.run.width l.run.dark (l.end - l.left) (dots_at l.bits l.from (l.end - l.left));
  begun : bit_at l.others 63 ≡ 1 → 0 < length (g.R.RunList.runs l.list) → 0 < l.run.width;
  known : Known l.bits l.from (l.end - l.left) l.left l.others l.run.dark;
  word : l.others < 18446744073709551616;
  some : 0 < l.left;
  few : l.left ≤ 64;
  in_row : l.left ≤ l.end;
}
