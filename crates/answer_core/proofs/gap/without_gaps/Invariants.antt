use Rattle.std.proofs.Common.{◌≡◌, ◌-◌, ◌≤◌, ◌++◌, length}
use Rattle.answer_core.specs.Gaps.{without_gaps, kept_in}
use Rattle.answer_core.proofs.gap.without_gaps.Given as goal

abbrev pub invariant-loop-passed : goal.invariant-loop-passed
invariant-loop-passed l = record {
  left : l.left.items ++ kept_in (length l.text - l._passed) l.place l.rest ≡ without_gaps l.place l.text;
  few : length l.left.items ≤ 192;
}
